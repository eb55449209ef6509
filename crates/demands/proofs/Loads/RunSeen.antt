-- What a caller sees of a run whose walk is known, in a write and in a check. Assumes nothing.
use Prim.Native.Nat.{ℕ, ◌^◌, ◌<◌}
use mathlib.Core.Path.{◌≡◌, refl, ap, sym, ◌∙◌}
use mathlib.Core.List.{List}
use lib.Dec.{eqb}
use lib.ListN.{length, get_or}
use borrow.Author.Tests.{eqb-true, eqb-false}
use Rattle.chain.specs.declared.Chain.{Chain}
use Rattle.chain.specs.Paper.{more}
use Rattle.chain.specs.Set.{with_place}
use Rattle.chain.proofs.ByCases.{by_test}
use Rattle.machine.specs.Run.{Run, run, run_of}
use Rattle.machine.specs.Calls.{opened_place, fed_of}
use Rattle.grammar.proofs.Runs.Slices.{fed-more, fed-over}
use Rattle.grammar.proofs.Runs.Stays.{run_stays}
use Rattle.grammar.specs.Sent.{Sent}
use Rattle.grammar.specs.Stores.{walk_of}
use Rattle.grammar.proofs.Leaves.{leaves}
use Rattle.demands.specs.Demand2.{Seen}

-- an answer's chain has the run's devices and registers, whether its place was closed or not
pub record Same (c d : Chain) : Type 0 where
  pub count : d.count ≡ c.count
  pub kinds : d.kinds ≡ c.kinds
  pub registers : d.registers ≡ c.registers

pub fed-same : (r : Run) → Same r.chain (fed_of r).chain
unfolding fed_of
fed-same r =
    by_test (eqb r.number more) (λ e. rw e (record { count = refl; kinds = refl; registers = refl }))
    (λ e. rw e (record { count = refl; kinds = refl; registers = refl }))

-- a run from its start, over bytes whose walk is xs
module _ (check mode : ℕ) (c : Chain) (m bs : List ℕ) (xs : List Sent) (n : ℕ) where
  abbrev ran : Run
  ran = run_of (run (with_place c (opened_place mode check)) m more) bs

  pub seen : walk_of (with_place c (opened_place mode check)) bs ≡ xs → length xs < 2 ^ 32 → ran.number ≡ n
      → Seen check c m xs n (record { fed = fed_of ran; memory = ran.memory })
  unfolding fed_of
  seen s h e =
      let l = leaves check mode c m bs xs s h in
      let f = fed-same ran in
      record {
        number = e;
        taken = l.taken;
        mismatches = l.mismatches;
        cells = l.cells;
        cells_many = l.cells_many;
        regs = λ d g. ap (λ (x : List ℕ). get_or x d 0) f.registers ∙ l.regs d g;
        regs_many = ap (λ (x : List ℕ). length x) f.registers ∙ l.regs_many;
        count = f.count ∙ l.count;
        kinds = f.kinds ∙ l.kinds;
        running =
            by_test (eqb n more)
            (λ q.
            let k = e ∙ eqb-true n more q in
            rw q (ap (λ (d : Chain). d.place.running) (fed-more ran k) ∙ (run_stays bs (with_place c (opened_place mode check)) m k).running))
            (λ q. rw q (ap (λ (d : Chain). d.place.running) (fed-over ran (λ k. eqb-false n more q (sym e ∙ k)))));
      }
