-- The bytes of a stream up to the byte after its last whole window are the front part of a stream that fits, as many windows announced: the whole ones, each
-- with its own null byte, and for each other one a window of cell 0. The machine is not mentioned. Assumes nothing.
use Prim.Native.Nat.{ℕ, zero, suc, ◌-◌, ◌≤◌, ◌<◌}
use mathlib.Core.Path.{◌≡◌, refl, ap, sym, subst, ◌∙◌}
use mathlib.Core.List.{List, [], ◌∷◌, ◌++◌, append_assoc}
use native.Mathlib.Omega.{arith}
use lib.Dec.{lit<}
use lib.ListN.{length, get_or, take, replicate, length-append, length-replicate}
use lib.Seq.{length-take-le, take_at}
use Rattle.chain.specs.declared.Chain.{Chain}
use Rattle.chain.specs.Paper.{preamble, postamble, no_windows, writing, first_mode}
use Rattle.chain.specs.Kinds.{size_of, base_of}
use Rattle.chain.specs.Bytes.{Bytes}
use Rattle.chain.proofs.Bytes.{bytes-append, bytes_take, bytes-at}
use Rattle.grammar.specs.Sent.{Sent, frame, bytes_of}
use Rattle.grammar.specs.Stream.{Window, Section, head_sent, windows_sent, stream_sent}
use Rattle.grammar.specs.Fits.{AllFit, SectionFits, Lets, Fitting}
use Rattle.grammar.specs.Tables.{window_of}
use Rattle.grammar.proofs.OneReading.{bytes-append as sent-append}
use Rattle.grammar.proofs.SectionBytes.{windows_bytes, windows_bytes_lem}
use Rattle.grammar.proofs.StreamShort.{bytes_long}
use Rattle.grammar.proofs.WindowCells.{windows-append}
use Rattle.reader.specs.Stream.{head_length, control_at, count_at}
use Rattle.reader.specs.Given.{given_of, with_head}
use Rattle.salvage.specs.Salvage.{offset_of}
use Rattle.salvage.proofs.FrontBytes.{front_is as front-bytes-are}
use Rattle.demands.proofs.Patches.TwoLaws.{fit_append}
use Rattle.demands.proofs.Salvage.KeptWindows.{raws, raws_many, kept_few, raws_fit, offset-inside}

-- ---- windows of cell 0

abbrev filler : Window
filler = window_of 0 0 (0x00 ∷ [])

fillers_fit : (size : ℕ) → 0 < size → (n : ℕ) → AllFit size (replicate n filler)
fillers_fit size h zero = tt
fillers_fit size h (suc n) = (record { order = omega arith; inside = h; full = refl }, fillers_fit size h n)

fillers_small : (n : ℕ) → Bytes (bytes_of (windows_sent 0 (replicate n filler) ++ (frame postamble ∷ [])))
fillers_small zero = (lit< tt, tt)
fillers_small (suc n) = (lit< tt, (lit< tt, (lit< tt, (lit< tt, (lit< tt, (lit< tt, fillers_small n))))))

-- ---- the front part

module _ (kind : ℕ) (s : List ℕ) where
  abbrev size : ℕ
  size = size_of kind

  -- as many windows as are announced
  abbrev lacking : ℕ
  lacking = count_at s 0 - length (given_of size s)

  abbrev pub filled_one : Section
  filled_one = with_head s (raws size s ++ replicate lacking filler)

  announced-all : length filled_one.windows ≡ count_at s 0
  announced-all =
      length-append (raws size s) (replicate lacking filler)
      ∙ omega (arith, raws_many size s, length-replicate lacking filler, kept_few size s)

  filled_fits : 0 < size → SectionFits size filled_one
  filled_fits h =
      record {
        few = omega (arith, announced-all);
        fit = fit_append size (raws size s) (replicate lacking filler) (raws_fit size s) (fillers_fit size h lacking);
      }

  -- its bytes up to the last whole window, and the rest
  abbrev pub front_sent : List Sent
  front_sent =
      frame preamble ∷ head_sent 0 (control_at s 0) (get_or s 2 0) (get_or s 3 0) (get_or s 4 0) (length filled_one.windows) ++ windows_sent 0 (raws size s)

  abbrev rest_sent : List Sent
  rest_sent = windows_sent 0 (replicate lacking filler) ++ (frame postamble ∷ [])

  filled_sent : (c : Chain) → stream_sent c first_mode filled_one [] ≡ front_sent ++ rest_sent
  unfolding base_of
  filled_sent c =
      let e : windows_sent 0 filled_one.windows ++ (frame postamble ∷ []) ≡ windows_sent 0 (raws size s) ++ rest_sent =
      ap (λ (xs : List Sent). xs ++ (frame postamble ∷ [])) (windows-append 0 (raws size s) (replicate lacking filler))
      ∙ append_assoc (windows_sent 0 (raws size s)) (windows_sent 0 (replicate lacking filler)) (frame postamble ∷ []) in
      ap
      (λ (xs : List Sent).
      frame preamble ∷ head_sent 0 (control_at s 0) (get_or s 2 0) (get_or s 3 0) (get_or s 4 0) (length filled_one.windows) ++ xs) e

  module _ (u : Bytes s) (six : head_length ≤ length s) (first : get_or s 0 0 ≡ preamble) where
    -- the bytes of s up to offset: the head, and the whole windows
    pub front_is : take (offset_of size s) s
        ≡ preamble ∷ get_or s 1 0 ∷ get_or s 2 0 ∷ get_or s 3 0 ∷ get_or s 4 0 ∷ get_or s 5 0 ∷ windows_bytes (raws size s)
    unfolding offset_of
    front_is =
        front-bytes-are size s (bytes-at s u) (count_at s 0) six
        ∙ ap (λ (b : ℕ). b ∷ get_or s 1 0 ∷ get_or s 2 0 ∷ get_or s 3 0 ∷ get_or s 4 0 ∷ get_or s 5 0 ∷ windows_bytes (raws size s)) first

    front_bytes : bytes_of front_sent ≡ take (offset_of size s) s
    front_bytes =
        let count : no_windows - length filled_one.windows ≡ get_or s 5 0 = omega (arith, announced-all, bytes-at s u 5) in
        rw (count, windows_bytes_lem 0 (raws size s)) (sym front_is)

    front_long : length front_sent ≡ offset_of size s
    front_long =
        sym (bytes_long front_sent) ∙ ap length front_bytes ∙ length-take-le (offset_of size s) s (offset-inside size s six)

    pub front-short : (c : Chain) → offset_of size s < length (stream_sent c first_mode filled_one [])
    front-short c =
        let e = ap length (filled_sent c) ∙ length-append front_sent rest_sent in
        omega (arith, e, front_long, length-append (windows_sent 0 (replicate lacking filler)) (frame postamble ∷ []))

    pub front_sent_lem : (c : Chain) → take (offset_of size s) (stream_sent c first_mode filled_one []) ≡ front_sent
    front_sent_lem c = ap (take (offset_of size s)) (filled_sent c) ∙ take_at front_sent rest_sent (offset_of size s) front_long

    bytes_are : (c : Chain) → bytes_of (stream_sent c first_mode filled_one []) ≡ take (offset_of size s) s ++ bytes_of rest_sent
    bytes_are c = ap bytes_of (filled_sent c) ∙ sent-append front_sent rest_sent ∙ ap (λ (l : List ℕ). l ++ bytes_of rest_sent) front_bytes

    pub front-taken : (c : Chain) → take (offset_of size s) (bytes_of (stream_sent c first_mode filled_one [])) ≡ take (offset_of size s) s
    front-taken c =
        ap (take (offset_of size s)) (bytes_are c)
        ∙ take_at (take (offset_of size s) s) (bytes_of rest_sent) (offset_of size s) (length-take-le (offset_of size s) s (offset-inside size s six))

    -- it fits every chain whose first device is of that kind and lets it in
    pub filled_fitting : (c : Chain) → 0 < size → 0 < c.count → get_or c.kinds 0 0 ≡ kind → Lets writing (get_or c.registers 0 0) (control_at s 0)
        → Fitting c writing first_mode filled_one []
    filled_fitting c some count e lets =
        record {
          fits = (count, subst (λ (k : ℕ). SectionFits (size_of k) filled_one) (sym e) (filled_fits some));
          lets = lets;
          bytes =
              subst Bytes (sym (bytes_are c))
              (bytes-append (take (offset_of size s) s) (bytes_of rest_sent) (bytes_take (offset_of size s) s u) (fillers_small lacking));
        }
