-- The calls in place give the numbers of the calls by value, and leave what those leave. Assumes nothing.
use Prim.Native.Nat.{ℕ}
use mathlib.Core.Path.{◌≡◌, ap, sym, subst}
use mathlib.Core.List.{List}
use lib.ListN.{length}
use Rattle.chain.specs.declared.Chain.{Chain}
use Rattle.chain.specs.declared.Made.{Made}
use Rattle.chain.specs.Paper.{done, more}
use Rattle.chain.specs.Table.{Table}
use Rattle.machine.specs.declared.Answer.{Answer}
use Rattle.machine.specs.declared.Fed.{Fed}
use Rattle.saved.specs.Calls.{pick_up_of}
use Rattle.at6000.specs.InPlace.{StartIn, SliceIn, PickUpIn}
use Rattle.demands.specs.Table.{start_table}
use Rattle.demands.specs.ByteTable.{slice_table}
use Rattle.demands.proofs.Numbers.CallTables.{start_table_lem}
use Rattle.demands.proofs.Numbers.SliceTables.{slice_table_lem}

pub start_in_table : (c : Chain) (m : List ℕ) (mode check : ℕ) (c' : Chain) (n : ℕ) → StartIn c m mode check c' n → Table n (start_table c m mode) done
start_in_table c m mode check c' n p =
    subst (λ (x : ℕ). Table x (start_table c m mode) done) (sym (ap (λ (r : Made). r.number) p.made)) (start_table_lem c m mode check)

pub slice_in_table : (c : Chain) (m s : List ℕ) (c' : Chain) (a : Answer) (m' : List ℕ) → SliceIn c m s c' a m' → Table a.number (slice_table c m s) more
slice_in_table c m s c' a m' p =
    subst (λ (x : ℕ). Table x (slice_table c m s) more) (sym (ap (λ (r : Fed). r.answer.number) p.fed)) (slice_table_lem c m s)

-- PickUpNumbers speaks of this number
pub pick-up_in_number : (c : Chain) (m s : List ℕ) (c' : Chain) (n : ℕ) → PickUpIn c m s c' n → n ≡ (pick_up_of c (length m) s).number
pick-up_in_number c m s c' n p = ap (λ (r : Made). r.number) p.made
