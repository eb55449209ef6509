-- No two refusals have one number, so that an answer's number says which refusal it is. Assumes nothing.
use Rattle.std.specs.Prelude.{ℕ, ◌≡◌, refl, [], ◌∷◌}
use mathlib.Core.Path.{sym, ◌∙◌, ap}
use Rattle.chain.specs.declared.refusal.Refusal.{Refusal}
use Rattle.chain.specs.declared.refusal.Refusal.TheVariants.{BadChain, BadMode, RunOpen, NoRun, NoPreamble, Barred, NoCheck, BadCheckByte, EndsHere, LastDevice, BadStart, BadEnd, BadTables, BadData, TooShort, UsedUp, IllFormed, PastEprom, BadJump, BadLengths, NoHead}
use Rattle.chain.specs.Paper.{bad_chain, bad_mode, run_open, no_run, no_preamble, barred, no_check, bad_check_byte, ends_here, last_device, bad_start, bad_end, bad_tables, bad_data, too_short, more, ill_formed, past_eprom, bad_jump, bad_lengths}
use Rattle.chain.specs.Refusal.{number_of}
use Rattle.chain.specs.Rules.{◌⇒◌, row_of}

-- the refusal that has the number n; of a number that none has, the last
named : ℕ → Refusal
named n = row_of n
    ((bad_chain ⇒ BadChain) ∷ (bad_mode ⇒ BadMode) ∷ (run_open ⇒ RunOpen) ∷ (no_run ⇒ NoRun) ∷ (no_preamble ⇒ NoPreamble) ∷ (barred ⇒ Barred)
    ∷ (no_check ⇒ NoCheck) ∷ (bad_check_byte ⇒ BadCheckByte) ∷ (ends_here ⇒ EndsHere) ∷ (last_device ⇒ LastDevice) ∷ (bad_start ⇒ BadStart)
    ∷ (bad_end ⇒ BadEnd) ∷ (bad_tables ⇒ BadTables) ∷ (bad_data ⇒ BadData) ∷ (too_short ⇒ TooShort) ∷ (more ⇒ UsedUp) ∷ (ill_formed ⇒ IllFormed)
    ∷ (past_eprom ⇒ PastEprom) ∷ (bad_jump ⇒ BadJump) ∷ (bad_lengths ⇒ BadLengths) ∷ [])
    NoHead

named_again : (e : Refusal) → named (number_of e) ≡ e
unfolding named
named_again BadChain = refl
named_again BadMode = refl
named_again RunOpen = refl
named_again NoRun = refl
named_again NoPreamble = refl
named_again Barred = refl
named_again NoCheck = refl
named_again BadCheckByte = refl
named_again EndsHere = refl
named_again LastDevice = refl
named_again BadStart = refl
named_again BadEnd = refl
named_again BadTables = refl
named_again BadData = refl
named_again TooShort = refl
named_again UsedUp = refl
named_again IllFormed = refl
named_again PastEprom = refl
named_again BadJump = refl
named_again BadLengths = refl
named_again NoHead = refl

pub one_number : (e f : Refusal) → number_of e ≡ number_of f → e ≡ f
one_number e f same = sym (named_again e) ∙ (ap named same ∙ named_again f)
