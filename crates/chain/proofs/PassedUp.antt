-- A refusal passed up, as `?` does it: no refusal's number is 0, so that a rule that comes after it says nothing.
use Rattle.std.specs.Prelude.{ℕ, ◌≡◌, refl, false, eqb}
use mathlib.Core.Path.{sym, ◌∙◌, ap}
use Rattle.chain.specs.declared.refusal.Refusal.{Refusal}
use Rattle.chain.specs.declared.refusal.Refusal.TheVariants.{BadChain, BadMode, RunOpen, NoRun, NoPreamble, Barred, NoCheck, BadCheckByte, EndsHere, LastDevice, BadStart, BadEnd, BadTables, BadData, TooShort, UsedUp, IllFormed, PastEprom, BadJump, BadLengths, NoHead}
use Rattle.chain.specs.Paper.{done, no_run}
use Rattle.chain.specs.Refusal.{number_of}
use Rattle.chain.specs.Rules.{pick}

pub not_done : (e : Refusal) → eqb (number_of e) done ≡ false
not_done BadChain = refl
not_done BadMode = refl
not_done RunOpen = refl
not_done NoRun = refl
not_done NoPreamble = refl
not_done Barred = refl
not_done NoCheck = refl
not_done BadCheckByte = refl
not_done EndsHere = refl
not_done LastDevice = refl
not_done BadStart = refl
not_done BadEnd = refl
not_done BadTables = refl
not_done BadData = refl
not_done TooShort = refl
not_done UsedUp = refl
not_done IllFormed = refl
not_done PastEprom = refl
not_done BadJump = refl
not_done BadLengths = refl
not_done NoHead = refl

-- the first of two tests refuses: what the second gives, k, does not count
pub passed_up : (e : Refusal) (n k : ℕ) → number_of e ≡ n → number_of e ≡ pick (eqb n done) k n
passed_up e n k is = is ∙ sym (ap (λ b. pick b k n) (ap (λ m. eqb m done) (sym is) ∙ not_done e))

-- the first does not: the second decides
pub gone_on : (n k : ℕ) → done ≡ n → k ≡ pick (eqb n done) k n
gone_on n k is = sym (ap (λ m. pick (eqb m done) k m) (sym is))

-- 4 is the number of no open run alone
pub not_no_run : (e : Refusal) → (e ≡ NoRun → ⊥) → eqb (number_of e) no_run ≡ false
not_no_run BadChain other = refl
not_no_run BadMode other = refl
not_no_run RunOpen other = refl
not_no_run NoRun other = absurd (other refl)
not_no_run NoPreamble other = refl
not_no_run Barred other = refl
not_no_run NoCheck other = refl
not_no_run BadCheckByte other = refl
not_no_run EndsHere other = refl
not_no_run LastDevice other = refl
not_no_run BadStart other = refl
not_no_run BadEnd other = refl
not_no_run BadTables other = refl
not_no_run BadData other = refl
not_no_run TooShort other = refl
not_no_run UsedUp other = refl
not_no_run IllFormed other = refl
not_no_run PastEprom other = refl
not_no_run BadJump other = refl
not_no_run BadLengths other = refl
not_no_run NoHead other = refl
