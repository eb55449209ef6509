-- A stream that fits a chain of at most eight devices is short: its counts do not wrap. Assumes nothing.
use Prim.Native.Nat.{ℕ, suc, ◌+◌, ◌*◌, ◌^◌, ◌≤◌, ◌<◌}
use mathlib.Core.Bool.{Bool, true, false}
use mathlib.Core.Path.{◌≡◌, refl, ap}
use mathlib.Core.List.{List, [], ◌∷◌}
use native.Mathlib.Omega.{arith}
use lib.Dec.{eqb}
use lib.ListN.{length, get_or, length-append}
use Rattle.chain.specs.declared.Chain.{Chain}
use Rattle.chain.specs.Paper.{preamble, postamble, two_preambles}
use Rattle.chain.specs.Rules.{pick}
use Rattle.chain.proofs.Sizes.{size_most}
use Rattle.chain.specs.Kinds.{size_at}
use Rattle.grammar.specs.Stream.{base_at, Window, Section, data_sent, window_sent, windows_sent, section_sent, sections_sent, lead_sent, stream_sent}
use Rattle.grammar.specs.Sent.{Target, framing, register, cell, Sent, frame, bytes_of, unlike, unlikes}
use Rattle.grammar.specs.Fits.{AllFit, SectionFits, SectionsFit}

-- the bytes alone are as many
pub bytes_long : (xs : List Sent) → length (bytes_of xs) ≡ length xs
bytes_long [] = refl
bytes_long (x ∷ xs) = ap suc (bytes_long xs)

pub data_long : (i : ℕ) (bs : List ℕ) → length (data_sent i bs) ≡ length bs
data_long i [] = refl
data_long i (b ∷ bs) = ap suc (data_long (suc i) bs)

-- a window has 5 bytes and its data, at most as many as the largest kind has
windows-short : (size base : ℕ) (ws : List Window) → size ≤ 16381 → AllFit size ws → length (windows_sent base ws) ≤ 16386 * length ws
windows-short size base [] h f = omega arith
windows-short size base (w ∷ ws) h f =
    omega (
      arith,
      data_long (base + w.start) w.bytes,
      length-append (window_sent base w) (windows_sent base ws),
      windows-short size base ws h f.1,
      f.0.full,
      f.0.inside,
    )

-- a section has 5 bytes and at most 255 windows
section-short : (c : Chain) (d : ℕ) (s : Section) → SectionFits (size_at c d) s → length (section_sent (base_at c d) d s) ≤ 4178435
section-short c d s f =
    omega (arith, windows-short (size_at c d) (base_at c d) s.windows (size_most (get_or c.kinds d 0)) f.fit, f.few)

sections_short : (c : Chain) (d : ℕ) (s : Section) (ss : List Section) → SectionsFit c d s ss
    → length (sections_sent c d s ss) + 4178436 * d ≤ 4178436 * c.count
sections_short c d s [] f =
    omega (arith, section-short c d s f.1, length-append (section_sent (base_at c d) d s) (frame postamble ∷ []), f.0)
sections_short c d s (t ∷ ts) f =
    omega (
      arith,
      section-short c d s f.1,
      length-append (section_sent (base_at c d) d s) (frame preamble ∷ sections_sent c (suc d) t ts),
      sections_short c (suc d) t ts f.3,
    )

lead_short : (mode : ℕ) → length (lead_sent mode) ≤ 2
lead_short mode = either (eqb mode two_preambles)
  where
    either : (q : Bool) → length (pick q (frame preamble ∷ frame preamble ∷ []) (frame preamble ∷ [])) ≤ 2
    either true = omega arith
    either false = omega arith

pub stream-short : (c : Chain) (mode : ℕ) (s : Section) (ss : List Section) → c.count ≤ 8 → SectionsFit c 0 s ss
    → length (stream_sent c mode s ss) < 2 ^ 32
stream-short c mode s ss h f =
    omega (arith, sections_short c 0 s ss f, lead_short mode, length-append (lead_sent mode) (sections_sent c 0 s ss))

-- ---- no more data bytes unlike their cells than bytes

unlike-one : (m : List ℕ) (t : Target) (b : ℕ) → unlike m t b ≤ 1
unlike-one m framing b = omega arith
unlike-one m (register d) b = omega arith
unlike-one m (cell i) b = either (eqb (get_or m i 0) b)
  where
    either : (q : Bool) → pick q 0 1 ≤ 1
    either true = omega arith
    either false = omega arith

pub unlikes_few : (m : List ℕ) (xs : List Sent) → unlikes m xs ≤ length xs
unlikes_few m [] = omega arith
unlikes_few m (x ∷ xs) = omega (arith, unlike-one m x.to x.byte, unlikes_few m xs)
