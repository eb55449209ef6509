-- The numbers of the refusals, and of what a call answers. Assumes nothing.
use Rattle.std.specs.Prelude.{ℕ, Result, Ok, Err}
use Rattle.chain.specs.declared.refusal.Refusal.{Refusal}
use Rattle.chain.specs.declared.refusal.Refusal.TheVariants.{BadChain, BadMode, RunOpen, NoRun, NoPreamble, Barred, NoCheck, BadCheckByte, EndsHere, LastDevice, BadStart, BadEnd, BadTables, BadData, TooShort, UsedUp, IllFormed, PastEprom, BadJump, BadLengths, NoHead}
use Rattle.chain.specs.Paper.{done, bad_chain, bad_mode, run_open, no_run, no_preamble, barred, no_check, bad_check_byte, ends_here, last_device, bad_start, bad_end, bad_tables, bad_data, too_short, more, ill_formed, past_eprom, bad_jump, bad_lengths, no_head}

abbrev pub number_of : Refusal → ℕ
number_of BadChain = bad_chain
number_of BadMode = bad_mode
number_of RunOpen = run_open
number_of NoRun = no_run
number_of NoPreamble = no_preamble
number_of Barred = barred
number_of NoCheck = no_check
number_of BadCheckByte = bad_check_byte
number_of EndsHere = ends_here
number_of LastDevice = last_device
number_of BadStart = bad_start
number_of BadEnd = bad_end
number_of BadTables = bad_tables
number_of BadData = bad_data
number_of TooShort = too_short
number_of UsedUp = more
number_of IllFormed = ill_formed
number_of PastEprom = past_eprom
number_of BadJump = bad_jump
number_of BadLengths = bad_lengths
number_of NoHead = no_head

-- the number that a call gives: 0 where it is done
abbrev pub answered : {A : Type 0} → Result A Refusal → ℕ
answered (Ok x) = done
answered (Err e) = number_of e

-- a figure that is answered, 0 with a refusal
abbrev pub length_in : Result ℕ Refusal → ℕ
length_in (Ok n) = n
length_in (Err e) = 0
