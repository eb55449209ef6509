-- A stream fed piece by piece: a piece and the rest of it, where the run goes on and where it is over. Assumes nothing.
use Prim.Native.Nat.{ℕ, ◌+◌, ◌-◌, ◌*◌, ◌%◌, ◌^◌, ◌<◌, ◌≤◌}
use mathlib.Core.Logic.{◌⊎◌, ⊎_elim}
use mathlib.Core.Path.{◌≡◌, refl, sym, ap, ◌∙◌}
use mathlib.Core.List.{List, ◌++◌}
use native.Mathlib.Nat.{mod-eq_of_lt}
use native.Mathlib.Omega.{arith}
use lib.ListN.{length, get_or, take, drop}
use lib.Seq.{sets}
use Rattle.chain.specs.declared.Chain.{Chain}
use Rattle.chain.specs.Paper.{more}
use Rattle.cells.proofs.Over.{front_is}
use Rattle.machine.specs.Run.{Run, run, run_of}
use Rattle.machine.specs.Calls.{fed_of}
use Rattle.machine.proofs.Feed.{run-append, run-over, lent-rest}
use Rattle.grammar.proofs.Runs.Slices.{fed-more}
use Rattle.hunt.specs.Bits.{bytes_from, whole_from}
use Rattle.hunt.proofs.Bytes.{length-bytes, bytes-append, whole_is, bytes_rest}

-- the bytes from bit k of byte `at` on, up to byte n
abbrev pub rest_from : List ℕ → ℕ → ℕ → ℕ → List ℕ
rest_from s k n at = bytes_from s (8 * at + k) (n - at)

pub whole_here : (s : List ℕ) (q k : ℕ) → 0 < k → k < 8 → q < length s → whole_from s (8 * q + k) ≡ length s - 1 - q
whole_here s q k h g l = sym (whole_is s (8 * q + k)) ∙ omega arith

-- all of them
pub all_from_lem : (s : List ℕ) (q k : ℕ) → 0 < k → k < 8 → q < length s → bytes_from s (8 * q + k) (whole_from s (8 * q + k)) ≡ rest_from s k (length s - 1) q
all_from_lem s q k h g l = ap (bytes_from s (8 * q + k)) (whole_here s q k h g l)

-- where they begin at a byte they are the rest of the slice
pub at_byte : (s : List ℕ) → ((i : ℕ) → get_or s i 0 < 2 ^ 8) → (q : ℕ) → q ≤ length s → take (length s - q) (drop q s) ≡ bytes_from s (8 * q) (whole_from s (8 * q))
at_byte s bytes q h =
    let n : length s - q ≡ whole_from s (8 * q) = sym (sym (whole_is s (8 * q)) ∙ omega arith) in
    lent-rest s q ∙ sym (ap (bytes_from s (8 * q)) (sym n) ∙ bytes_rest s bytes q (length s - q) (omega arith))

-- a piece assembled in a room is its front
pub assembled : (s room : List ℕ) (k at m : ℕ) → k < 8 → m ≤ length room → (room' : List ℕ) → room' ≡ sets room 0 (bytes_from s (8 * at + k % 8) m)
    → take m room' ≡ bytes_from s (8 * at + k) m
assembled s room k at m g h room' e =
    let l : length (bytes_from s (8 * at + k) m) ≡ m = length-bytes s (8 * at + k) m in
    ap (take m) (e ∙ ap (λ (x : ℕ). sets room 0 (bytes_from s (8 * at + x) m)) (mod-eq_of_lt g)) ∙ front_is (bytes_from s (8 * at + k) m) room m l h

-- it is not past the end, and it is not empty
pub fits_piece : (s : List ℕ) (k at m : ℕ) → 0 < k → k < 8 → at < length s - 1 → m ≤ whole_from s (8 * at + k % 8) → at + m ≤ length s - 1
fits_piece s k at m h g l o =
    let e : whole_from s (8 * at + k % 8) ≡ length s - 1 - at = ap (λ (x : ℕ). whole_from s (8 * at + x)) (mod-eq_of_lt g) ∙ whole_here s at k h g (omega arith) in
    omega arith

pub some-piece : (s : List ℕ) (k at m room : ℕ) → 0 < k → k < 8 → at < length s - 1 → 0 < room → (m ≡ room) ⊎ (m ≡ whole_from s (8 * at + k % 8)) → 0 < m
some-piece s k at m room h g l o =
    let e : whole_from s (8 * at + k % 8) ≡ length s - 1 - at = ap (λ (x : ℕ). whole_from s (8 * at + x)) (mod-eq_of_lt g) ∙ whole_here s at k h g (omega arith) in
    ⊎_elim (λ x. omega arith) (λ x. omega arith)

pub number_is : (r : Run) → (fed_of r).answer.number ≡ r.number
unfolding fed_of
number_is r = refl

-- nothing is left of them
pub rest-none : (s : List ℕ) (k n at : ℕ) → n ≤ at → (d : Chain) (mem : List ℕ) → run_of (run d mem more) (rest_from s k n at) ≡ run d mem more
unfolding bytes_from run_of
rest-none s k n at h d mem =
    let e : n - at ≡ 0 = omega arith in
    rw e

pub fed_is : (d : Chain) (mem : List ℕ) → record { chain = d; answer = record { number = more; taken = d.place.taken; mismatches = d.place.mismatches } } ≡ fed_of (run d mem more)
unfolding fed_of
fed_is d mem = refl

module _ (s : List ℕ) (k n at m : ℕ) (h : at + m ≤ n) (d : Chain) (mem : List ℕ) where
  -- what the piece comes to
  abbrev pub piece : Run
  piece = run_of (run d mem more) (bytes_from s (8 * at + k) m)

  split : rest_from s k n at ≡ bytes_from s (8 * at + k) m ++ rest_from s k n (at + m)
  split =
      let e : n - at ≡ m + (n - (at + m)) = omega arith in
      let f : 8 * at + k + 8 * m ≡ 8 * (at + m) + k = omega arith in
      ap (bytes_from s (8 * at + k)) e ∙ bytes-append s (8 * at + k) m (n - (at + m))
      ∙ ap (λ (p : ℕ). bytes_from s (8 * at + k) m ++ bytes_from s p (n - (at + m))) f

  both : run_of (run d mem more) (rest_from s k n at) ≡ run_of piece (rest_from s k n (at + m))
  both = ap (run_of (run d mem more)) split ∙ run-append (bytes_from s (8 * at + k) m) (rest_from s k n (at + m)) (run d mem more)

  pub piece-over : (piece.number ≡ more → ⊥) → run_of (run d mem more) (rest_from s k n at) ≡ piece
  piece-over z = both ∙ run-over (rest_from s k n (at + m)) piece z

  pub piece-more : piece.number ≡ more
      → run_of (run d mem more) (rest_from s k n at) ≡ run_of (run (fed_of piece).chain piece.memory more) (rest_from s k n (at + m))
  piece-more z = both ∙ ap (λ (r : Run). run_of r (rest_from s k n (at + m))) (is piece z)
    where
      is : (r : Run) → r.number ≡ more → r ≡ run (fed_of r).chain r.memory more
      is r e = rw (fed-more r e) (ap (λ (x : ℕ). run r.chain r.memory x) e)
