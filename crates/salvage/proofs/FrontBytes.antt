-- A stream up to the byte after its last whole window: its head, and the windows as they stand; and how long it is with a postamble. Assumes nothing.
use Prim.Native.Nat.{ℕ, ◌+◌, ◌≤◌, ◌<◌}
use mathlib.Core.Path.{◌≡◌, refl, sym, ap, ◌∙◌}
use mathlib.Core.List.{List, [], ◌∷◌, ◌++◌, append_assoc}
use native.Mathlib.Omega.{arith}
use lib.ListN.{length, get_or, take, drop, length-append, length-drop}
use lib.Seq.{take_at}
use Rattle.chain.specs.Paper.{postamble}
use Rattle.grammar.specs.Stream.{Window}
use Rattle.grammar.proofs.SectionBytes.{windows_bytes, nulled_long}
use Rattle.reader.specs.Windows.{ReadWindow, windows_of}
use Rattle.reader.specs.Stream.{head_length}
use Rattle.reader.specs.Given.{windows_at, stream_with}
use Rattle.reader.proofs.Given.{with_bytes}
use Rattle.salvage.specs.Salvage.{after_all}
use Rattle.salvage.proofs.WholeWindows.{raws_in, raws-nulled, inside}
use Rattle.salvage.proofs.RawBytes.{raw_windows}

-- the head, with this count byte
abbrev pub six : List ℕ → ℕ → List ℕ
six s n = get_or s 0 0 ∷ get_or s 1 0 ∷ get_or s 2 0 ∷ get_or s 3 0 ∷ get_or s 4 0 ∷ n ∷ []

head_first : (s : List ℕ) → head_length ≤ length s → s ≡ six s (get_or s 5 0) ++ drop head_length s
head_first [] h = absurd (omega arith)
head_first (_ ∷ []) h = absurd (omega arith)
head_first (_ ∷ _ ∷ []) h = absurd (omega arith)
head_first (_ ∷ _ ∷ _ ∷ []) h = absurd (omega arith)
head_first (_ ∷ _ ∷ _ ∷ _ ∷ []) h = absurd (omega arith)
head_first (_ ∷ _ ∷ _ ∷ _ ∷ _ ∷ []) h = absurd (omega arith)
head_first (_ ∷ _ ∷ _ ∷ _ ∷ _ ∷ _ ∷ s) h = refl

module _ (size : ℕ) (s : List ℕ) (small : (i : ℕ) → get_or s i 0 < 256) (n : ℕ) (h : head_length ≤ length s) where
  abbrev ws : List ReadWindow
  ws = windows_of size s n head_length

  abbrev raws : List Window
  raws = raws_in s head_length ws

  abbrev offset : ℕ
  offset = after_all head_length ws

  is : s ≡ six s (get_or s 5 0) ++ (windows_bytes raws ++ drop offset s)
  is = head_first s h ∙ ap (λ (l : List ℕ). six s (get_or s 5 0) ++ l) (raw_windows size s small n head_length)

  pub front_long : offset ≡ head_length + length (windows_bytes raws)
  front_long =
      let l : length s ≡ 6 + (length (windows_bytes raws) + length (drop offset s)) = ap length is ∙ omega (arith, length-append (windows_bytes raws) (drop offset s)) in
      omega (arith, inside size s n head_length h, length-drop offset s)

  pub front_is : take offset s ≡ six s (get_or s 5 0) ++ windows_bytes raws
  front_is =
      ap (take offset) (is ∙ sym (append_assoc (six s (get_or s 5 0)) (windows_bytes raws) (drop offset s)))
      ∙ take_at (six s (get_or s 5 0) ++ windows_bytes raws) (drop offset s) offset (omega (arith, front_long))

  -- the sound stream of these windows has its postamble there
  pub sound_long : length (stream_with s (windows_at size s n head_length)) ≡ offset + 1
  sound_long =
      omega (
        arith,
        ap length (with_bytes s (windows_at size s n head_length) []),
        length-append (stream_with s (windows_at size s n head_length)) [],
        length-append (windows_bytes (windows_at size s n head_length)) (postamble ∷ []),
        ap (λ (vs : List Window). length (windows_bytes vs)) (raws-nulled s head_length ws),
        nulled_long raws,
        front_long,
      )
