-- Two slices one after the other are one: where a caller cuts makes no difference. Assumes nothing.
use Prim.Native.Nat.{ℕ}
use mathlib.Core.Path.{◌≡◌, ap, sym, ◌∙◌}
use mathlib.Core.List.{List, ◌++◌}
use borrow.Author.Tests.{eqb-true, eqb-false}
use lib.Dec.{eqb}
use lib.ListN.{length}
use Rattle.chain.specs.declared.Chain.{Chain}
use Rattle.chain.specs.Paper.{most_devices, done, more}
use Rattle.chain.specs.Rules.{pick}
use Rattle.chain.specs.State.{feed_number}
use Rattle.chain.specs.Bytes.{Bytes}
use Rattle.chain.proofs.ByCases.{by_test, by_eq}
use Rattle.machine.specs.declared.Fed.{Fed}
use Rattle.machine.specs.Run.{Run, run, run_of}
use Rattle.machine.specs.Calls.{fed_of, slice_of, slice_memory}
use Rattle.machine.proofs.Feed.{run-append, run-over}
use Rattle.grammar.proofs.Runs.Keeps.{run_open}
use Rattle.grammar.proofs.Runs.Slices.{slice_runs, slice_refused, fed-more, slice_number_lem, more_feeds}

module _ (c : Chain) (m a b : List ℕ) where
  -- one after the other, and the first alone
  abbrev pub Both : Type 0
  Both =
      (slice_of c m (a ++ b) ≡ slice_of (slice_of c m a).chain (slice_memory c m a) b)
      × (slice_memory c m (a ++ b) ≡ slice_memory (slice_of c m a).chain (slice_memory c m a) b)

  abbrev pub First : Type 0
  First = (slice_of c m (a ++ b) ≡ slice_of c m a) × (slice_memory c m (a ++ b) ≡ slice_memory c m a)

  -- the run after a, where the state takes slices
  module _ (o : feed_number c (length m) ≡ done) where
    abbrev mid : Run
    mid = run_of (run c m more) a

    both : Bytes a → length c.registers ≡ most_devices → mid.number ≡ more → Both
    both small eight e =
        let go : run_of (run c m more) (a ++ b) ≡ run_of (run mid.chain mid.memory more) b =
        run-append a b (run c m more) ∙ ap (λ (n : ℕ). run_of (run mid.chain mid.memory n) b) e
        in
        let whole = slice_runs c m (a ++ b) o in
        let rest = slice_runs mid.chain mid.memory b (run_open c m a small eight o e) in
        let d : (slice_of c m a).chain ≡ mid.chain = ap (λ (f : Fed). f.chain) (slice_runs c m a o).0 ∙ fed-more mid e in
        rw (d, (slice_runs c m a o).1)
        (whole.0 ∙ ap fed_of go ∙ sym rest.0, whole.1 ∙ ap (λ (r : Run). r.memory) go ∙ sym rest.1)

    first : (mid.number ≡ more → ⊥) → First
    first e =
        let go : run_of (run c m more) (a ++ b) ≡ mid = run-append a b (run c m more) ∙ run-over b mid e in
        let whole = slice_runs c m (a ++ b) o in
        let one = slice_runs c m a o in
        (whole.0 ∙ ap fed_of go ∙ sym one.0, whole.1 ∙ ap (λ (r : Run). r.memory) go ∙ sym one.1)

  -- where the answer to a is 16
  pub slice_more : Bytes a → length c.registers ≡ most_devices → (slice_of c m a).answer.number ≡ more → Both
  slice_more small eight n = let o = more_feeds c m a n in both o small eight (sym (slice_number_lem c m a o) ∙ n)

  -- where it is not
  pub slice_over : ((slice_of c m a).answer.number ≡ more → ⊥) → First
  slice_over n =
      by_eq (feed_number c (length m)) done (λ o. first o (λ e. n (slice_number_lem c m a o ∙ e)))
      (λ o.
      let whole = slice_refused c m (a ++ b) o in
      let one = slice_refused c m a o in
      (whole.0 ∙ sym one.0, whole.1 ∙ sym one.1))

  pub slice_append : Bytes a → length c.registers ≡ most_devices
      → (slice_of c m (a ++ b) ≡ pick (eqb (slice_of c m a).answer.number more) (slice_of (slice_of c m a).chain (slice_memory c m a) b) (slice_of c m a))
      × (slice_memory c m (a ++ b) ≡ pick (eqb (slice_of c m a).answer.number more) (slice_memory (slice_of c m a).chain (slice_memory c m a) b) (slice_memory c m a))
  slice_append small eight =
      by_test (eqb (slice_of c m a).answer.number more)
      (λ e. rw e (slice_more small eight (eqb-true (slice_of c m a).answer.number more e)))
      (λ e. rw e (slice_over (eqb-false (slice_of c m a).answer.number more e)))
