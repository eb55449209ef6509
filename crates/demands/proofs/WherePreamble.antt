-- The hunt says where the preamble began; and what it is to say leaves it no choice. Assumes nothing.
use Prim.Native.Nat.{ℕ, ◌<◌}
use mathlib.Core.Path.{◌≡◌}
use mathlib.Core.List.{List}
use native.Mathlib.Omega.{arith}
use lib.ListN.{length}
use Rattle.chain.specs.Paper.{done}
use Rattle.hunt.specs.declared.Hunted.{Hunted}
use Rattle.chain.specs.Output.{over}
use Rattle.hunt.specs.Bits.{bytes_from}
use Rattle.hunt.specs.Hunt.{found_at, hunted_bytes, hunt_of, hunt_out}
use Rattle.hunt.proofs.Found.{found_begins, found_before}
use Rattle.hunt.proofs.Answers.{done-found, done-figures, done-output}
use Rattle.hunt.proofs.HuntedOut.{hunted_length, hunted_bits}
use Rattle.chain.proofs.Means.{m-none}
use Rattle.demands.specs.WherePreamble.{Where, SaysWhere}
use Rattle.demands.specs.Ours.{ours}
use Rattle.demands.proofs.Numbers.HuntTables.{makes, hunt_table_lem}
use Rattle.demands.proofs.Numbers.Refused.{hunt_refused}

found_where : (s out : List ℕ) → (hunt_of s (length out)).number ≡ done → Where s (hunt_of s (length out))
unfolding hunt_of
found_where s out z =
    let f = done-found s out z in
    let d = done-figures s out z in
    let l = hunted_bits s f in
    record {
      at_most = omega (arith, d.0);
      begins = rw d.0 ((makes s (found_at s)).says (found_begins s f));
      first = λ q h. (m-none (makes s q)).says (found_before s q (omega (arith, d.0)));
      bits = rw (d.0, d.1, d.2) l.0;
      below_byte = rw d.1 l.1;
    }

written_where : (s out : List ℕ) → (hunt_of s (length out)).number ≡ done
    → hunt_out s out ≡ over (bytes_from s (hunt_of s (length out)).p (hunt_of s (length out)).length) out
unfolding hunt_of hunted_bytes
written_where s out z =
    let d = done-figures s out z in
    rw (d.0, d.2, hunted_length s) (done-output s out z)

pub where_began : SaysWhere ours
where_began = record { numbers = hunt_table_lem; found = found_where; written = written_where; refused = hunt_refused }

-- two answers that say it of one slice are equal in all but the number
pub where_only : (s : List ℕ) (g h : Hunted) → Where s g → Where s h → (g.p ≡ h.p) × (g.left ≡ h.left) × (g.length ≡ h.length)
where_only s g h a b =
    let none : g.p < h.p → ⊥ = λ l. b.first g.p l a.begins in
    let one : h.p < g.p → ⊥ = λ l. a.first h.p l b.begins in
    let p : g.p ≡ h.p = omega (arith, none, one) in
    (p, omega (arith, p, a.bits, b.bits, a.below_byte, b.below_byte), omega (arith, p, a.bits, b.bits, a.below_byte, b.below_byte))
