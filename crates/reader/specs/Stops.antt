-- Where the reading of a stream stops: a number, 0 where what was read is whole, and the bytes taken up to there. Assumes nothing.
use Rattle.std.specs.Prelude.{ℕ, Bool, List, [], ◌∷◌, eqb, Result, Ok, Err}
use Rattle.chain.specs.Paper.{done}
use Rattle.chain.specs.Refusal.{number_of}
use Rattle.chain.specs.Rules.{pick}
use Rattle.reader.specs.declared.stop.Stopped.{Stopped}

pub record Stop : Type 0 where
  pub number : ℕ
  pub taken : ℕ

abbrev pub stop : ℕ → ℕ → Stop
stop number taken = record { number = number; taken = taken }

-- a condition, the number that it gives, and the bytes taken where it does
pub data Row : Type 0 where
  ◌gives◌after◌ : Bool → ℕ → ℕ → Row

infix 25 ◌gives◌after◌
-- the first whose condition holds, e where none does
abbrev pub first_stop : List Row → Stop → Stop
first_stop [] e = e
first_stop ((holds gives n after t) ∷ rows) e = pick holds (stop n t) (first_stop rows e)

-- what was read is whole, and the reading goes on from there; else it is over
infixl 20 ◌then◌
abbrev pub ◌then◌ : Stop → (ℕ → Stop) → Stop
e then f = pick (eqb e.number done) (f e.taken) e

-- an answer, 0 unless the number is 0
abbrev pub if_done : Stop → ℕ → ℕ
if_done e x = pick (eqb e.number done) x 0

-- what a reading answers: the position after what was read, or why it stopped
abbrev pub stop_of : Result ℕ Stopped → Stop
stop_of (Ok at) = stop done at
stop_of (Err e) = stop (number_of e.refusal) e.taken
