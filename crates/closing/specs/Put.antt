-- For the contracts of private helpers alone, no promise cites it: bytes written to the front of an output, where there is room. Assumes nothing.
use Rattle.std.specs.Prelude.{ℕ, List, [], ◌∷◌, length, ltb, Result}
use Rattle.chain.specs.declared.Written.{Written}
use Rattle.chain.specs.declared.refusal.Refusal.{Refusal}
use Rattle.chain.specs.Paper.{done, too_short}
use Rattle.chain.specs.Refusal.{answered, length_in}
use Rattle.chain.specs.Rules.{◌gives◌, first_of}
use Rattle.chain.specs.Output.{Writes}

-- 15 where the output is shorter than the bytes
abbrev pub room_number : ℕ → List ℕ → ℕ
room_number room bytes = first_of ((ltb room (length bytes) gives too_short) ∷ []) done

abbrev pub Put : List ℕ → List ℕ → Written → List ℕ → Type 0
Put bytes out r out' = Writes (room_number (length out) bytes) bytes out r out'

-- how many bytes were written, or why none, as the call answers it
abbrev pub told : Result ℕ Refusal → Written
told r = record { number = answered r; length = length_in r }
