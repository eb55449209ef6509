-- 18 and 19 are the fetcher's own: the machine never gives them. Assumes nothing.
use Rattle.std.proofs.Common.{◌≡◌, ℕ, eqb, List, [], ◌∷◌, arith, eqb-true}
use borrow.Author.Tests.{eqb-false}
use Rattle.chain.specs.declared.Chain.{Chain}
use Rattle.chain.specs.Paper.{more, past_eprom, bad_jump}
use Rattle.chain.proofs.ByCases.{by_test}
use Rattle.chain.proofs.FirstOf.{first_never}
use Rattle.awaited.specs.Byte.{byte_rules, number_of}
use Rattle.machine.specs.Run.{memory_of, run, went_on, run_of}
use Rattle.machine.proofs.Runs.{run_went, run-ended}

pub never_past : (c : Chain) (b : ℕ) → number_of c b ≡ past_eprom → ⊥
unfolding number_of
never_past c b = first_never (byte_rules c b) more past_eprom (λ q. omega arith) tt

pub never_jump : (c : Chain) (b : ℕ) → number_of c b ≡ bad_jump → ⊥
unfolding number_of
never_jump c b = first_never (byte_rules c b) more bad_jump (λ q. omega arith) tt

pub run_never_past : (bs : List ℕ) (c : Chain) (m : List ℕ) → (run_of (run c m more) bs).number ≡ past_eprom → ⊥
unfolding run_of
run_never_past [] c m e = other e
  where
    other : more ≡ past_eprom → ⊥
    other q = omega arith
run_never_past (b ∷ bs) c m e =
    by_test (eqb (number_of c b) more)
    (λ g. run_never_past bs (went_on c m b) (memory_of c m b) (rw (run_went c m b bs (eqb-true (number_of c b) more g)) at e))
    (λ g. never_past c b (rw (run-ended c m b bs (eqb-false (number_of c b) more g)) at e))
