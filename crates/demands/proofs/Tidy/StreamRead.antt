-- The stream of a section that fits, in mode 1 and whatever follows it: the windows given to the tidier are that section's, null bytes 00, and what is
-- tidied is the stream of the section with its windows tidied. The machine is not mentioned. Assumes nothing.
use Prim.Native.Nat.{ℕ, ◌+◌, ◌-◌}
use mathlib.Core.Path.{◌≡◌, refl, ap, sym, subst, ◌∙◌}
use mathlib.Core.List.{List, [], ◌∷◌, ◌++◌, append_assoc, map}
use native.Mathlib.Omega.{arith}
use lib.ListN.{length, length-append}
use Rattle.chain.specs.declared.Chain.{Chain}
use Rattle.chain.specs.Paper.{preamble, postamble, no_windows, first_mode, done}
use Rattle.chain.specs.Kinds.{size_of, base_of}
use Rattle.reader.specs.Stops.{Stop}
use Rattle.reader.specs.Windows.{windows_of}
use Rattle.reader.specs.Stream.{preamble_at, head_length, stream_stop}
use Rattle.grammar.specs.Sent.{bytes_of}
use Rattle.grammar.specs.Stream.{Window, Section, lead_sent, last_sent, stream_sent}
use Rattle.grammar.specs.Fits.{AllFit, SectionFits}
use Rattle.grammar.specs.Tables.{nulled}
use Rattle.grammar.proofs.SectionBytes.{window_bytes, windows_bytes, section_bytes, stream-bytes}
use Rattle.reader.specs.Given.{window_in, given_of, with_head}
use Rattle.tidy.specs.Tidy.{tidy_windows, tidied}
use Rattle.tidy.proofs.SameWindows.{tidy_nulls}
use Rattle.demands.proofs.Files.SectionLists.{Stands, stands, list-more, Stood, stood_one, stream_stop_lem}

-- ---- windows that stand one after another, from a seam on

given-windows : (size : ℕ) (ws : List Window) (pre post : List ℕ) → AllFit size ws
    → map (window_in (pre ++ (windows_bytes ws ++ post))) (windows_of size (pre ++ (windows_bytes ws ++ post)) (length ws) (length pre)) ≡ nulled ws
unfolding windows_of
given-windows size [] pre post f = refl
given-windows size (w ∷ ws) pre post f =
    let rest : List ℕ = windows_bytes ws ++ post in
    let at : ℕ = length pre in
    let q : List ℕ = pre ++ window_bytes w in
    let s : List ℕ = pre ++ (windows_bytes (w ∷ ws) ++ post) in
    let n : length q ≡ at + length (window_bytes w) = length-append pre (window_bytes w) in
    let d : pre ++ (window_bytes w ++ rest) ≡ s = ap (λ (x : List ℕ). pre ++ x) (sym (append_assoc (window_bytes w) (windows_bytes ws) post)) in
    let e : q ++ rest ≡ s = append_assoc pre (window_bytes w) rest ∙ d in
    let k : Stands s at w = subst (λ (x : List ℕ). Stands x at w) d (stands size pre w rest f.0) in
    let m : length q + length rest ≡ length s = sym (length-append q rest) ∙ ap length e in
    let l = list-more size s w at (length q) (length ws) f.0 k (k.next ∙ sym n) (omega arith) in
    let later : map (window_in s) (windows_of size s (length ws) (length q)) ≡ nulled ws =
    subst (λ (x : List ℕ). map (window_in x) (windows_of size x (length ws) (length q)) ≡ nulled ws) e (given-windows size ws q post f.1) in
    ap (map (window_in s)) l ∙ rw (later, k.start, k.end, k.data_there)

-- ---- a section

-- with its windows tidied, its head kept
abbrev pub tidy_one : ℕ → Section → Section
tidy_one size x =
    record { control = x.control; address0 = x.address0; address1 = x.address1; address2 = x.address2; windows = tidy_windows size x.windows }

module _ (kind : ℕ) (c : Chain) (x : Section) (rest : List ℕ) (f : SectionFits (size_of kind) x) where
  abbrev file : List ℕ
  file = bytes_of (stream_sent c first_mode x []) ++ rest

  file_is : file ≡ preamble ∷ section_bytes x rest
  file_is = stream-bytes c first_mode x rest

  pub stood : Stood (size_of kind) first_mode 0 file x
  stood = subst (λ (l : List ℕ). Stood (size_of kind) first_mode 0 l x) (sym file_is) (stood_one (size_of kind) first_mode x rest f refl)

  -- accepted at its postamble
  pub file-stop : (stream_stop (size_of kind) first_mode file).number ≡ done
  unfolding preamble_at
  file-stop =
      ap (λ (e : Stop). e.number)
      (stream_stop_lem kind first_mode 0 file x (0 + 6 + length (windows_bytes x.windows) + 1) refl stood refl)

  pub given_is : given_of (size_of kind) file ≡ nulled x.windows
  unfolding given_of
  given_is =
      let head : List ℕ = preamble ∷ x.control ∷ x.address0 ∷ x.address1 ∷ x.address2 ∷ (no_windows - length x.windows) ∷ [] in
      let there = given-windows (size_of kind) x.windows head (postamble ∷ rest) f.fit in
      ap (λ (n : ℕ). map (window_in file) (windows_of (size_of kind) file n head_length)) stood.count
      ∙ ap (λ (s : List ℕ). map (window_in s) (windows_of (size_of kind) s (length x.windows) head_length)) file_is
      ∙ there

  section_is : with_head file (tidy_windows (size_of kind) (given_of (size_of kind) file)) ≡ tidy_one (size_of kind) x
  section_is = rw (stood.control, stood.address0, stood.address1, stood.address2, given_is, tidy_nulls (size_of kind) x.windows)

  pub tidied_is : tidied (size_of kind) file ≡ bytes_of (stream_sent c first_mode (tidy_one (size_of kind) x) [])
  unfolding tidied base_of
  tidied_is = ap (λ (y : Section). bytes_of (lead_sent first_mode ++ last_sent 0 0 y)) section_is
