-- For the contracts of private helpers alone, no promise cites it: 'Well formed' by awaited byte, each row with what it leaves to be tested. Assumes
-- nothing.
use Rattle.std.specs.Prelude.{ℕ, ◌%◌, Bool, false, not, ◌&&◌, [], ◌∷◌, eqb, ltb, leb}
use Rattle.chain.specs.declared.Place.{Place}
use Rattle.chain.specs.Paper.{at_preamble, at_second, at_control, at_address, at_address2, at_address3, at_count, at_null, at_start, at_start_low, at_end, at_end_low, at_data, at_check, writing, checking, first_mode, two_preambles, B3, B4}
use Rattle.chain.specs.Rules.{◌⇒◌, row_of, all_of, ◌implies◌, from}

-- whatever byte is awaited
abbrev pub held : Place → ℕ → Bool → Bool
held p count unused =
    all_of
    (from first_mode two_preambles p.mode
    ∷ from writing checking p.check
    ∷ ltb p.device count
    ∷ unused
    ∷ (eqb p.check writing implies eqb p.mismatches 0)
    ∷ [])

-- no window is open and none is left
abbrev pub none_open : Place → Bool
none_open p = eqb p.left 0 && eqb p.start 0 && eqb p.end 0 && eqb p.next 0

-- a control byte that was taken in a check has B3 clear
abbrev pub checkable : Place → Bool
checkable p = eqb p.check checking implies not (B3 p.control)

-- each row, where h holds whatever byte is awaited
abbrev pub row_at_preamble : Place → Bool → Bool
row_at_preamble p h = all_of (h ∷ eqb p.device 0 ∷ eqb p.control 0 ∷ none_open p ∷ [])

abbrev pub row_at_second : Place → Bool → Bool
row_at_second p h = all_of (h ∷ eqb p.device 0 ∷ eqb p.mode two_preambles ∷ eqb p.control 0 ∷ none_open p ∷ [])

abbrev pub row_at_control : Place → Bool → ℕ → Bool
row_at_control p h g = all_of (h ∷ eqb p.control 0 ∷ none_open p ∷ not (B4 g) ∷ (eqb p.check checking implies not (B3 g)) ∷ [])

abbrev pub outside : Place → Bool → ℕ → Bool
outside p h g = all_of (h ∷ eqb p.control g ∷ checkable p ∷ none_open p ∷ [])

abbrev pub inside : Place → Bool → ℕ → Bool → Bool
inside p h g bounds = all_of (h ∷ eqb p.control g ∷ checkable p ∷ leb 1 p.left ∷ bounds ∷ [])

-- the bounds of the window, as far as they are taken
abbrev pub no_bounds : Place → Bool
no_bounds p = eqb p.start 0 && eqb p.end 0 && eqb p.next 0

abbrev pub half_start : Place → Bool
half_start p = eqb (p.start % 256) 0 && eqb p.end 0 && eqb p.next 0

abbrev pub start_alone : Place → ℕ → Bool
start_alone p size = ltb p.start size && eqb p.end 0 && eqb p.next 0

abbrev pub half_end : Place → ℕ → Bool
half_end p size = ltb p.start size && eqb (p.end % 256) 0 && eqb p.next 0

abbrev pub both_bounds : Place → ℕ → Bool
both_bounds p size = leb p.start p.next && leb p.next p.end && ltb p.end size

unfoldable pub formed_by_row : Place → Bool → ℕ → ℕ → Bool
formed_by_row p h g size =
    row_of p.awaited
    ((at_preamble ⇒ row_at_preamble p h)
    ∷ (at_second ⇒ row_at_second p h)
    ∷ (at_control ⇒ row_at_control p h g)
    ∷ (at_address ⇒ outside p h g)
    ∷ (at_address2 ⇒ outside p h g)
    ∷ (at_address3 ⇒ outside p h g)
    ∷ (at_count ⇒ outside p h g)
    ∷ (at_null ⇒ inside p h g (no_bounds p))
    ∷ (at_start ⇒ inside p h g (no_bounds p))
    ∷ (at_start_low ⇒ inside p h g (half_start p))
    ∷ (at_end ⇒ inside p h g (start_alone p size))
    ∷ (at_end_low ⇒ inside p h g (half_end p size))
    ∷ (at_data ⇒ inside p h g (both_bounds p size))
    ∷ (at_check ⇒ outside p h g)
    ∷ []) false
