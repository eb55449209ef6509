-- Three parts laid one after another over the front of an output. Assumes nothing.
use Prim.Native.Nat.{ℕ, ◌+◌, ◌-◌, ◌≤◌}
use mathlib.Core.Path.{◌≡◌, refl, sym, ap, ◌∙◌}
use mathlib.Core.List.{List, ◌++◌}
use native.Mathlib.Omega.{arith}
use borrow.Author.Tests.{le-ltb}
use borrow.Rule.Slice.PartMut.{put_mid}
use Rattle.std.proofs.Common.{append_assoc, append-nil}
use Rattle.std.proofs.lemmas.List.{drop_at}
use lib.ListN.{length, drop, length-append, drop_of_length-le}
use Rattle.cells.proofs.Over.{sets-front}
use lib.Seq.{sets, take_at, drop-drop}
use Rattle.std.specs.Prelude.{Ok}
use Rattle.closing.specs.Put.{Put, told}

-- a part laid behind a front of i bytes
laid_behind : (a b o : List ℕ) (i : ℕ) → length a ≡ i → put_mid i (i + length b - i) (a ++ o) b ≡ (a ++ b) ++ drop (length b) o
laid_behind a b o i e =
    let k : i + length b - i ≡ length b = omega arith in
    rw (k, take_at a o i e, drop_at a o i e) (sym (append_assoc a b (drop (length b) o)))

-- a part of the output of their own length, written over with bytes, holds these
pub laid_over : (o bs : List ℕ) → length o ≡ length bs → sets o 0 bs ≡ bs
laid_over o bs e = sets-front bs o (omega arith) ∙ rw (drop_of_length-le o {i = length bs} (omega arith)) (append-nil bs)

module _ (a b d out : List ℕ) where
  pub three_length : length a + length b + length d ≡ length (a ++ (b ++ d))
  three_length = omega (arith, length-append a (b ++ d), length-append b d)

  -- x, y and z are what the parts of the output hold afterwards
  pub three_laid : (x y z : List ℕ) → x ≡ a → y ≡ b → z ≡ d → length a + length b + length d ≤ length out
      → Put (a ++ (b ++ d)) out (told (Ok (length a + length b + length d)))
      (put_mid (length a + length b) (length a + length b + length d - (length a + length b))
      (put_mid (length a) (length a + length b - length a) (x ++ drop (length a) out) y) z)
  three_laid x y z e f g h =
      let two = laid_behind a b (drop (length a) out) (length a) refl in
      let three = laid_behind (a ++ b) d (drop (length b) (drop (length a) out)) (length a + length b) (length-append a b) in
      let rest : drop (length d) (drop (length b) (drop (length a) out)) ≡ drop (length (a ++ (b ++ d))) out =
      ap (drop (length d)) (drop-drop (length b) (length a) out) ∙ drop-drop (length d) (length a + length b) out ∙ ap (λ (n : ℕ). drop n out) three_length in
      rw (e, f, g, two, three, rest) (record {
        answer = rw (le-ltb (length out) (length (a ++ (b ++ d))) (omega (arith, three_length)), three_length);
        output = rw (le-ltb (length out) (length (a ++ (b ++ d))) (omega (arith, three_length))) (ap (λ (l : List ℕ). l ++ drop (length (a ++ (b ++ d))) out) (append_assoc a b d));
      })
