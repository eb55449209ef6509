-- One copy of a stream up to the last whole window, its count put right, its null bytes out and a postamble behind it, is the sound stream. Assumes nothing.
use Prim.Native.Nat.{ℕ, suc, ◌+◌, ◌-◌, ◌≤◌, ◌<◌}
use mathlib.Core.Path.{◌≡◌, refl, sym, ap, ◌∙◌}
use mathlib.Core.List.{List, [], ◌∷◌, ◌++◌, append_assoc}
use native.Mathlib.Omega.{arith}
use lib.ListN.{length, get_or, set, take, drop, length-map, length-set}
use lib.Seq.{sets, length-sets, drop-cons, set_at, length-take-le}
use Rattle.chain.specs.Paper.{preamble, postamble, no_windows, done}
use Rattle.chain.specs.Output.{over}
use Rattle.grammar.specs.Stream.{Window}
use Rattle.grammar.specs.Tables.{null_byte, nulled}
use Rattle.grammar.proofs.SectionBytes.{windows_bytes, nulled_long}
use Rattle.chain.proofs.Over.{copied}
use Rattle.reader.specs.Stops.{Stop, stop}
use Rattle.reader.specs.Windows.{ReadWindow, windows_stop, windows_of}
use Rattle.reader.specs.Stream.{head_length}
use Rattle.reader.specs.Given.{window_in, windows_at, stream_with}
use Rattle.reader.proofs.Windows.{windows-length}
use Rattle.reader.proofs.Given.{with_bytes}
use Rattle.salvage.specs.Salvage.{after_all}
use Rattle.salvage.specs.Steps.{reaches_of, end_of, nulls_out, laid_over}
use Rattle.salvage.proofs.WholeWindows.{raws_in, raws-nulled, alone, inside}
use Rattle.salvage.proofs.RawBytes.{ends_are, nulls_are}
use Rattle.salvage.proofs.FrontBytes.{six, front_long, front_is, sound_long}

-- whole windows end where their reading does
pub after-taken : (size : ℕ) (s : List ℕ) (n at offset : ℕ) → windows_stop size s n at ≡ stop done offset → after_all at (windows_of size s n at) ≡ offset
after-taken size s n at offset e =
    let l : length (windows_of size s n at) ≡ n = windows-length size s n at (ap (λ (x : Stop). x.number) e) in
    ap (λ (x : Stop). x.taken) (sym (alone size s n at).0 ∙ ap (λ (i : ℕ). windows_stop size s i at) l ∙ e)

-- ---- stored one after another: as long as it was

nulls_long : (at : ℕ) (ds out : List ℕ) → length (nulls_out at ds out) ≡ length out
nulls_long at [] out = refl
nulls_long at (d ∷ ds) out = nulls_long (at + (6 + d)) ds (set out at null_byte) ∙ length-set out at null_byte

module _ (s : List ℕ) (n : ℕ) (ds : List ℕ) (offset : ℕ) (out : List ℕ) (fits : offset < length out) where
  third_long : length (nulls_out head_length ds (set (sets out 0 (take offset s)) 5 (no_windows - n))) ≡ length out
  third_long = nulls_long head_length ds (set (sets out 0 (take offset s)) 5 (no_windows - n)) ∙ length-set (sets out 0 (take offset s)) 5 (no_windows - n) ∙ length-sets out 0 (take offset s)

  module _ (o₁ o₃ : List ℕ) (copy : o₁ ≡ sets out 0 (take offset s)) where
    pub second_long : length (set o₁ 5 (no_windows - n)) ≡ length out
    second_long = length-set o₁ 5 (no_windows - n) ∙ ap length copy ∙ length-sets out 0 (take offset s)

    module _ (nulls : o₃ ≡ nulls_out head_length ds (set o₁ 5 (no_windows - n))) where
      is_third : o₃ ≡ nulls_out head_length ds (set (sets out 0 (take offset s)) 5 (no_windows - n))
      is_third = nulls ∙ rw copy

      pub last_there : offset < length o₃
      last_there = omega (arith, ap length is_third, third_long)

      pub same : length (set o₃ offset postamble) ≡ length out
      same = length-set o₃ offset postamble ∙ ap length is_third ∙ third_long

      pub laid : set o₃ offset postamble ≡ laid_over s n ds offset out
      laid = ap (λ (o : List ℕ). set o offset postamble) is_third

-- ---- the sound stream

-- a head, and n whole windows up to a position
pub record Ready (size : ℕ) (s : List ℕ) (n offset : ℕ) : Type 0 where
  pub head : head_length ≤ length s
  pub first : get_or s 0 0 ≡ preamble
  pub whole : windows_stop size s n head_length ≡ stop done offset

module _ (size : ℕ) (s : List ℕ) (n offset : ℕ) (q : Ready size s n offset) (small : (i : ℕ) → get_or s i 0 < 256) where
  abbrev ws : List ReadWindow
  ws = windows_of size s n head_length

  abbrev raws : List Window
  raws = raws_in s head_length ws

  ends : after_all head_length ws ≡ offset
  ends = after-taken size s n head_length offset q.whole

  -- the reaches of the windows lead there
  pub reach_ends : end_of head_length (reaches_of ws) ≡ offset
  reach_ends = ends_are size s small n head_length ∙ ends

  pub there : offset ≤ length s
  there = omega (arith, inside size s n head_length q.head, ends)

  pub long : offset ≡ 6 + length (windows_bytes raws)
  long = sym ends ∙ front_long size s small n q.head

  front : take offset s ≡ six s (get_or s 5 0) ++ windows_bytes raws
  front = ap (λ (i : ℕ). take i s) (sym ends) ∙ front_is size s small n q.head

  -- the sound stream, byte by byte
  pub count : length (windows_at size s n head_length) ≡ n
  count = length-map ws (window_in s) ∙ windows-length size s n head_length (ap (λ (x : Stop). x.number) q.whole)

  sound : (rest : List ℕ)
      → stream_with s (windows_at size s n head_length) ++ rest ≡ six s (no_windows - n) ++ (windows_bytes (nulled raws) ++ (postamble ∷ rest))
  sound rest = with_bytes s (windows_at size s n head_length) rest ∙ rw (count, ← q.first, raws-nulled s head_length ws)

  pub ends_with_postamble : length (stream_with s (windows_at size s n head_length)) ≡ offset + 1
  ends_with_postamble = sound_long size s small n q.head ∙ ap (λ (i : ℕ). i + 1) ends

  -- what was stored is it
  module _ (out : List ℕ) (fits : offset < length out) where
    first_is : sets out 0 (take offset s) ≡ six s (get_or s 5 0) ++ (windows_bytes raws ++ drop offset out)
    first_is =
        let l : length (take offset s) ≡ offset = length-take-le offset s there in
        copied (take offset s) out (omega (arith, l))
        ∙ rw (l, front) (append_assoc (six s (get_or s 5 0)) (windows_bytes raws) (drop offset out))

    third_is : nulls_out head_length (reaches_of ws) (set (sets out 0 (take offset s)) 5 (no_windows - n))
        ≡ six s (no_windows - n) ++ (windows_bytes (nulled raws) ++ drop offset out)
    third_is =
        ap (λ (o : List ℕ). nulls_out head_length (reaches_of ws) (set o 5 (no_windows - n))) first_is
        ∙ nulls_are size s small n head_length (six s (no_windows - n)) (drop offset out) (omega arith)

    pub stored : laid_over s n (reaches_of ws) offset out ≡ over (stream_with s (windows_at size s n head_length)) out
    stored =
        let head : List ℕ = six s (no_windows - n) in
        let rest : List ℕ = drop (suc offset) out in
        let e : length (stream_with s (windows_at size s n head_length)) ≡ suc offset = ends_with_postamble ∙ omega arith in
        ap (λ (o : List ℕ). set o offset postamble)
        (third_is ∙ sym (append_assoc head (windows_bytes (nulled raws)) (drop offset out))
        ∙ ap (λ (o : List ℕ). (head ++ windows_bytes (nulled raws)) ++ o) (drop-cons out offset 0 fits))
        ∙ set_at (head ++ windows_bytes (nulled raws)) (get_or out offset 0) rest postamble offset (omega (arith, nulled_long raws, long))
        ∙ append_assoc head (windows_bytes (nulled raws)) (postamble ∷ rest)
        ∙ sym (sound rest)
        ∙ ap (λ (i : ℕ). stream_with s (windows_at size s n head_length) ++ drop i out) (sym e)
