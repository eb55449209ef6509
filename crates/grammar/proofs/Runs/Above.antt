-- What calls above the machine stand on: a refused byte leaves what refuse leaves, with its number; and a byte that is no mismatch goes where ahead says.
-- Assumes nothing.
use Prim.Native.Nat.{ℕ}
use mathlib.Core.Logic.{◌≢◌}
use mathlib.Core.Path.{◌≡◌, sym}
use mathlib.Core.List.{List}
use lib.Dec.{eqb}
use borrow.Author.Tests.{eqb-true, ne_eqb}
use Rattle.chain.proofs.ByCases.{by_test}
use Rattle.chain.specs.declared.Chain.{Chain}
use Rattle.chain.specs.Paper.{closed, more}
use Rattle.awaited.specs.Byte.{number_of}
use Rattle.machine.specs.Run.{missed_of, step_of}
use Rattle.machine.specs.Calls.{fed_of, refuse_of, ahead_of}

pub refused_as_refuse : (c : Chain) (m : List ℕ) (b : ℕ) → c.place.running ≢ closed → number_of c b ≢ more
    → fed_of (step_of c m b) ≡ refuse_of c (number_of c b)
unfolding fed_of step_of refuse_of
refused_as_refuse c m b r n = rw (ne_eqb (number_of c b) more n, ne_eqb (number_of c b) more n, ne_eqb c.place.running closed r)

pub ahead-number : (c : Chain) (m : List ℕ) (b : ℕ) → (step_of c m b).number ≡ (ahead_of c b).number
unfolding step_of ahead_of
ahead-number c m b = by_test (eqb (number_of c b) more) (λ e. rw e (sym (eqb-true _ _ e))) (λ e. rw e)

pub ahead-chain : (c : Chain) (m : List ℕ) (b : ℕ) → missed_of c m b ≡ 0 → (step_of c m b).chain ≡ (ahead_of c b).chain
unfolding step_of ahead_of
ahead-chain c m b h = by_test (eqb (number_of c b) more) (λ e. simp (e, h)) (λ e. simp e)
