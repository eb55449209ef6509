-- Number 17 of a saved place, as a proposition. Assumes nothing.
use Rattle.std.specs.Prelude.{ℕ, ◌≡◌, List, length, get_or}
use Rattle.chain.specs.declared.Chain.{Chain}
use Rattle.chain.specs.WellFormed.{WellFormed}
use Rattle.saved.specs.Layout.{form1, saved_length, held_in, place_in, registers_in}

-- a saved place that is well formed: length 27, form 1, zero bits 0, and the rest as in a lent state
pub record WellSaved (c : Chain) (s : List ℕ) : Type 0 where
  pub length_27 : length s ≡ saved_length
  pub form_1 : get_or (held_in form1 s) 0 0 ≡ form1.number
  pub zero_bit : get_or (held_in form1 s) 5 0 ≡ 0
  pub zero_byte : get_or (held_in form1 s) 7 0 ≡ 0
  pub place : WellFormed c (registers_in form1 s) (place_in form1 s)
