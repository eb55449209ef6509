-- The hunt's numbers: 5 where no position makes B2, then 15. Assumes nothing.
use Prim.Native.Nat.{ℕ, ◌+◌, ◌*◌, ◌<◌}
use mathlib.Core.Bool.{true}
use mathlib.Core.List.{List}
use native.Mathlib.Omega.{arith}
use borrow.Author.Tests.{eqb-true, eq-eqb}
use lib.Dec.{eqb}
use lib.ListN.{length}
use Rattle.chain.specs.Paper.{preamble, done}
use Rattle.hunt.specs.Bits.{byte_at}
use Rattle.hunt.specs.Hunt.{begins_at, nowhere, found_at, hunt_rules, hunt_number, hunt_of}
use Rattle.hunt.proofs.Found.{found_before, found_none}
use Rattle.chain.specs.Table.{Table}
use Rattle.chain.proofs.Means.{Means, m-and, m-le, m-eq, m-none}
use Rattle.chain.proofs.Table.{table, table-reads}
use Rattle.demands.specs.Table.{MakesPreamble, hunt_table}

pub makes : (s : List ℕ) (p : ℕ) → Means (begins_at s p) true (MakesPreamble s p)
unfolding begins_at
makes s p = m-and (m-le (p + 8) (8 * length s)) (m-eq (byte_at s p) preamble)

pub m-nowhere : (s : List ℕ) → Means (eqb (found_at s) nowhere) true ((p : ℕ) → p < nowhere → MakesPreamble s p → ⊥)
m-nowhere s =
    record {
      says = λ e p l. let f = eqb-true (found_at s) nowhere e in (m-none (makes s p)).says (found_before s p (omega arith));
      said = λ h. eq-eqb (found_at s) nowhere (found_none s (λ q l. (m-none (makes s q)).said (h q l)));
    }

pub hunt_table_lem : (s out : List ℕ) → Table (hunt_of s (length out)).number (hunt_table s out) done
unfolding hunt_of hunt_number
hunt_table_lem s out = table (hunt_rules s (length out)) (hunt_table s out) done tt (search (m-nowhere, table-reads) depth 40)
