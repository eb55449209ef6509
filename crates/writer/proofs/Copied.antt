-- Data copied in blocks of 16 bytes, the last over bytes that are copied already. Assumes nothing.
use Prim.Native.Nat.{ℕ, ◌+◌, ◌-◌, ◌≤◌}
use mathlib.Core.Bool.{false, ◌||◌}
use mathlib.Core.Path.{◌≡◌, sym, ap, ◌∙◌}
use mathlib.Core.List.{List, ◌++◌, append_assoc, append-nil}
use native.Mathlib.Omega.{arith}
use borrow.Author.Tests.{ltb-false}
use lib.Dec.{ltb}
use lib.ListN.{length, take, drop, length-drop, drop_of_length-le}
use lib.Seq.{take-length, sets, take-take, take-add, take-append-le, drop-append-add, drop-drop, length-take-le}
use Rattle.chain.specs.Output.{over}
use Rattle.chain.proofs.Over.{copied, over_is}
use Rattle.writer.proofs.Accepted.{both_false}

-- over all of o
over-all : (w o : List ℕ) → length w ≡ length o → over w o ≡ w
over-all w o e = rw (drop_of_length-le o {i = length w} (omega arith)) (append-nil w)

-- what is copied in blocks has one
pub a_block : (n : ℕ) → (ltb n 16 || ltb 256 n) ≡ false → 16 ≤ n
a_block n h = ltb-false n 16 (both_false (ltb n 16) (ltb 256 n) h).0

-- else the front alone is lent
pub short : (s o ys : List ℕ) → length s ≤ length o → ys ≡ sets (take (length s) o) 0 s → ys ++ drop (length s) o ≡ over s o
short s o ys h e =
    let l : length (take (length s) o) ≡ length s = length-take-le (length s) o h in
    rw (e, copied s (take (length s) o) (omega arith), over-all s (take (length s) o) (omega arith))

-- read into b, and stored from there
pub stored : (s o z b ys : List ℕ) (i : ℕ) → i + 16 ≤ length s → i + 16 ≤ length o → length z ≡ 16
    → b ≡ sets z 0 (take (i + 16 - i) (drop i s)) → ys ≡ sets (take (i + 16 - i) (drop i o)) 0 b
    → take i o ++ (ys ++ drop (i + 16 - i) (drop i o)) ≡ take i o ++ over (take 16 (drop i s)) (drop i o)
stored s o z b ys i h g lz eb ey =
    let e : i + 16 - i ≡ 16 = omega arith in
    let w : List ℕ = take 16 (drop i s) in
    let t : List ℕ = take 16 (drop i o) in
    let lw : length w ≡ 16 = length-take-le 16 (drop i s) (omega (arith, length-drop i s)) in
    let lt : length t ≡ 16 = length-take-le 16 (drop i o) (omega (arith, length-drop i o)) in
    let b-is : b ≡ w = rw e at eb ∙ copied w z (omega arith) ∙ over-all w z (omega arith) in
    let y-is : ys ≡ w = rw (e, b-is) at ey ∙ copied w t (omega arith) ∙ over-all w t (omega arith) in
    rw (e, y-is, lw)

-- a block more: i bytes are there, and the block begins among them or right after
pub block_more : (s o x : List ℕ) (i at : ℕ) → at ≤ i → i ≤ at + 16 → at + 16 ≤ length s → length s ≤ length o → i ≤ length s → x ≡ over (take i s) o
    → take at x ++ over (take 16 (drop at s)) (drop at x) ≡ over (take (at + 16) s) o
block_more s o x i at h g l m n e =
    let li : length (take i s) ≡ i = length-take-le i s n in
    let lw : length (take 16 (drop at s)) ≡ 16 = length-take-le 16 (drop at s) (omega (arith, length-drop at s)) in
    let la : length (take (at + 16) s) ≡ at + 16 = length-take-le (at + 16) s l in
    let x_is : x ≡ take i s ++ drop i o = e ∙ rw li in
    let front : take at x ≡ take at s = ap (take at) x_is ∙ take-append-le at (take i s) (drop i o) (omega arith) ∙ take-take at i s h in
    let past : length (take i s) + (at + 16 - i) ≡ at + 16 = omega arith in
    let back : i + (at + 16 - i) ≡ at + 16 = omega arith in
    let rest : drop (at + 16) x ≡ drop (at + 16) o =
    ap (drop (at + 16)) x_is ∙ ap (λ (k : ℕ). drop k (take i s ++ drop i o)) (sym past) ∙ drop-append-add (take i s) (drop i o) (at + 16 - i)
    ∙ drop-drop (at + 16 - i) i o ∙ ap (λ (k : ℕ). drop k o) back in
    rw (front, lw, drop-drop 16 at x, rest, la, take-add at 16 s) (sym (append_assoc (take at s) (take 16 (drop at s)) (drop (at + 16) o)))

-- the last block ends where the data ends; i bytes or more were there before it
pub blocks-end : (s o x y : List ℕ) (i : ℕ) → 16 ≤ length s → length s - 16 ≤ i → i ≤ length s → length s ≤ length o → x ≡ over (take i s) o
    → y ≡ take (length s - 16) x ++ over (take 16 (drop (length s - 16) s)) (drop (length s - 16) x)
    → y ≡ over s o
blocks-end s o x y i h g l m e f =
    let all : length s - 16 + 16 ≡ length s = omega arith in
    f
    ∙ block_more s o x i (length s - 16) g (omega arith) (omega arith) m l e
    ∙ ap (λ (n : ℕ). over (take n s) o) all
    ∙ over_is (take (length s) s) s o (take-length s)
