-- The turns over the bytes from bit k of byte q on that find what they store. Assumes nothing.
use Prim.Native.Nat.{ℕ, ◌+◌, ◌-◌, ◌*◌, ◌/◌, ◌<◌, ◌≤◌}
use mathlib.Core.Bool.{Bool, true, false}
use mathlib.Core.Path.{◌≡◌, refl, sym, ap, ap₂, ◌∙◌}
use mathlib.Core.List.{List, [], ◌++◌}
use native.Mathlib.Omega.{arith}
use lib.Bits.{bit_and}
use lib.ListN.{length}
use Rattle.chain.specs.declared.Chain.{Chain}
use Rattle.chain.specs.declared.Made.{Made}
use Rattle.chain.specs.Paper.{at_data, more}
use Rattle.chain.specs.Rules.{pick}
use Rattle.awaited.specs.Byte.{number_of}
use Rattle.machine.specs.Run.{writes, gone_on}
use Rattle.machine.specs.Calls.{past_of, ahead_of}
use Rattle.grammar.specs.Stores.{Put, walk_of, puts_in, puts_of}
use Rattle.hunt.specs.Bits.{bytes_from, whole_from}
use Rattle.hunt.proofs.Bytes.{length-bytes, bytes-append, whole_is}
use Rattle.hunt.proofs.Windows.{place_split}
use Rattle.sheet.specs.Steps.{rest_at, Writing, Part}
use Rattle.sheet.proofs.Stored.{block_puts, awaiting}

-- all of them
pub rest-first : (s : List ℕ) (p : ℕ) → bytes_from s p (whole_from s p) ≡ rest_at s (p / 8) (bit_and p 7) (length s - (p + 7) / 8) 0
rest-first s p =
    let e : p ≡ 8 * (p / 8 + 0) + bit_and p 7 = omega (arith, place_split p) in
    let n : whole_from s p ≡ length s - (p + 7) / 8 - 0 = sym (whole_is s p) ∙ omega arith in
    ap₂ (bytes_from s) e n

none : (s : List ℕ) (p n at : ℕ) → n ≤ at → bytes_from s p (n - at) ≡ []
unfolding bytes_from
none s p n at h =
    let e : n - at ≡ 0 = omega arith in
    rw e

nothing : (d : Chain) → puts_of d [] ≡ []
unfolding walk_of
nothing d = by (writes d)
  where
    by : (b : Bool) → puts_in (pick b [] []) ≡ []
    by true = refl
    by false = refl

-- a byte looked at ahead
pub ahead_gone : (d : Chain) (b : ℕ) (r : Made) → r ≡ ahead_of d b → r.number ≡ more → (number_of d b ≡ more) × (r.chain ≡ gone_on d 0 b)
unfolding ahead_of
ahead_gone d b r e n =
    let z : number_of d b ≡ more = sym (ap (λ (x : Made). x.number) e) ∙ n in
    (z, ap (λ (x : Made). x.chain) e ∙ rw z)

pub ahead-over : (d : Chain) (b : ℕ) (r : Made) → r ≡ ahead_of d b → (r.number ≡ more → ⊥) → number_of d b ≡ more → ⊥
unfolding ahead_of
ahead-over d b r e n z = n (ap (λ (x : Made). x.number) e ∙ z)

-- a walk goes on from the run at d over u bytes that store nothing, with the run at c
pub record Framing (d : Chain) (len : ℕ) (s : List ℕ) (q k n at : ℕ) (c : Chain) (u : ℕ) : Type 0 where
  pub on : puts_of d (rest_at s q k n at) ≡ puts_of c (rest_at s q k n (at + u))
  pub write : Writing c len

-- no byte is left
pub none_left : (d : Chain) (s : List ℕ) (q k n at : ℕ) → n ≤ at → puts_of d (rest_at s q k n at) ≡ []
none_left d s q k n at h = ap (puts_of d) (none s (8 * (q + at) + k) n at h) ∙ nothing d

-- m data bytes
pub data_part : (d : Chain) (len : ℕ) (s : List ℕ) (q k n at m : ℕ) → Writing d len → at + m ≤ n → 0 < m → m ≤ d.place.end - d.place.next + 1 → d.place.awaited ≡ at_data
    → Part (puts_of d (rest_at s q k n at)) len at d.place.next (d.place.next + m) (at + m) (puts_of (past_of d m) (rest_at s q k n (at + m)))
data_part d len s q k n at m w h some fits a =
    let bs : List ℕ = bytes_from s (8 * (q + at) + k) m in
    let l : length bs ≡ m = length-bytes s (8 * (q + at) + k) m in
    let c : n - at ≡ m + (n - (at + m)) = omega arith in
    let f : 8 * (q + at) + k + 8 * m ≡ 8 * (q + (at + m)) + k = omega arith in
    let parts : rest_at s q k n at ≡ bs ++ rest_at s q k n (at + m) =
    ap (bytes_from s (8 * (q + at) + k)) c ∙ bytes-append s (8 * (q + at) + k) m (n - (at + m)) ∙ ap (λ (y : ℕ). bs ++ bytes_from s y (n - (at + m))) f in
    let x = awaiting d len w a in
    let b = block_puts bs (rest_at s q k n (at + m)) d w.write a (omega arith) (omega arith) in
    record {
      bytes = bs;
      split = ap (puts_of d) parts ∙ (rw (x.address, l) at b);
      some = omega arith;
      ends = omega arith;
      inside = omega (arith, x.next, x.inside);
      taken = omega arith;
    }

-- found after bytes that store nothing
pub part_after : {ps ps' rest : List Put} {size size' at at' i e to : ℕ} → ps ≡ ps' → size' ≡ size → at ≤ at' → Part ps' size' at' i e to rest → Part ps size at i e to rest
part_after e f h p =
    record { bytes = p.bytes; split = e ∙ p.split; some = p.some; ends = p.ends; inside = omega (arith, p.inside, f); taken = omega (arith, p.taken, h) }
