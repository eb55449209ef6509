-- A slice is a run over its bytes, and what it leaves is a state that is taken again. Assumes nothing.
use Prim.Native.Nat.{ℕ}
use mathlib.Core.Path.{◌≡◌, refl, ap, sym, ◌∙◌}
use mathlib.Core.List.{List}
use borrow.Author.Tests.{ne_eqb}
use lib.Dec.{eqb}
use lib.ListN.{length}
use Rattle.chain.specs.declared.Chain.{Chain}
use Rattle.chain.specs.Paper.{most_devices, done, more}
use Rattle.chain.specs.Set.{with_place, closed_place}
use Rattle.chain.specs.State.{state_number, feed_number}
use Rattle.chain.specs.Bytes.{Bytes}
use Rattle.chain.proofs.ByCases.{by_test, by_eq, either_way}
use Rattle.chain.proofs.Sound.{feed_is_taken, feed_never_more}
use Rattle.machine.specs.declared.Fed.{Fed}
use Rattle.machine.specs.Run.{Run, run, run_of}
use Rattle.machine.specs.Calls.{unfed, fed_of, slice_of, slice_memory}
use Rattle.machine.proofs.Runs.{Lasts, run_lasts}
use Rattle.grammar.proofs.Runs.Keeps.{run_open, run-closed}

module _ (c : Chain) (m s : List ℕ) where
  pub slice_runs : feed_number c (length m) ≡ done
      → (slice_of c m s ≡ fed_of (run_of (run c m more) s)) × (slice_memory c m s ≡ (run_of (run c m more) s).memory)
  unfolding slice_of slice_memory
  slice_runs o = (rw o, rw o)

  pub slice_refused : (feed_number c (length m) ≡ done → ⊥)
      → (slice_of c m s ≡ unfed c (feed_number c (length m))) × (slice_memory c m s ≡ m)
  unfolding slice_of slice_memory
  slice_refused o =
      let e = ne_eqb (feed_number c (length m)) done o in
      (rw e, rw e)

-- a run that goes on is answered as it is, one that is over with its place closed
pub fed-more : (r : Run) → r.number ≡ more → (fed_of r).chain ≡ r.chain
unfolding fed_of
fed-more r e = rw e

pub fed-over : (r : Run) → (r.number ≡ more → ⊥) → (fed_of r).chain ≡ with_place r.chain closed_place
unfolding fed_of
fed-over r e = rw (ne_eqb r.number more e)

pub fed-number : (r : Run) → (fed_of r).answer.number ≡ r.number
unfolding fed_of
fed-number r = refl

module _ (c : Chain) (m s : List ℕ) where
  -- the run over it
  abbrev fed : Run
  fed = run_of (run c m more) s

  pub slice_number_lem : feed_number c (length m) ≡ done → (slice_of c m s).answer.number ≡ fed.number
  slice_number_lem o = ap (λ (f : Fed). f.answer.number) (slice_runs c m s o).0 ∙ fed-number fed

  -- 16 comes from a run alone
  pub more_feeds : (slice_of c m s).answer.number ≡ more → feed_number c (length m) ≡ done
  more_feeds n =
      by_eq (feed_number c (length m)) done (λ o. o)
      (λ o. absurd (feed_never_more c (length m) (ap (λ (f : Fed). f.answer.number) (sym (slice_refused c m s o).0) ∙ n)))

  -- count and kinds are the chain's, registers and memory keep their lengths
  pub slice_lasts : Lasts (run c m more) (run (slice_of c m s).chain (slice_memory c m s) more)
  unfolding slice_of slice_memory fed_of
  slice_lasts =
      let l = run_lasts s (run c m more) in
      by_test (eqb (feed_number c (length m)) done)
      (λ e.
      rw e
      (either_way (λ (d : Chain). Lasts (run c m more) (run d fed.memory more)) (eqb fed.number more) fed.chain (with_place fed.chain closed_place)
      (record { count = l.count; kinds = l.kinds; registers = l.registers; memory = l.memory })
      (record { count = l.count; kinds = l.kinds; registers = l.registers; memory = l.memory })))
      (λ e. rw e (record { count = refl; kinds = refl; registers = refl; memory = refl }))

  module _ (small : Bytes s) (eight : length c.registers ≡ most_devices) where
    -- a state that takes the next slice
    pub slice_open : (slice_of c m s).answer.number ≡ more → feed_number (slice_of c m s).chain (length (slice_memory c m s)) ≡ done
    slice_open n =
        let o = more_feeds n in
        let r = slice_runs c m s o in
        let e = sym (slice_number_lem o) ∙ n in
        rw (r.0, r.1, fed-more fed e) (run_open c m s small eight o e)

    -- a state that every call takes, if it was one before
    pub slice_taken : state_number c (length m) ≡ done → state_number (slice_of c m s).chain (length (slice_memory c m s)) ≡ done
    slice_taken h =
        by_eq (feed_number c (length m)) done
        (λ o.
        let r = slice_runs c m s o in
        rw (r.0, r.1)
        (by_eq fed.number more
        (λ e. rw (fed-more fed e) (feed_is_taken fed.chain (length fed.memory) (run_open c m s small eight o e)))
        (λ e. rw (fed-over fed e) (run-closed c m s small eight o e))))
        (λ o. let r = slice_refused c m s o in rw (r.0, r.1) h)
