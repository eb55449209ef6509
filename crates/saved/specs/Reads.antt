-- For the contracts of private functions alone, no promise cites it: what is read from a saved place. Assumes nothing.
use Rattle.std.specs.Prelude.{ℕ, ◌≡◌, Bool, true, false, ◌&&◌, List, length, eqb, Result, MatchResult}
use Rattle.chain.specs.declared.refusal.Refusal.{Refusal}
use Rattle.chain.specs.declared.refusal.Refusal.TheVariants.{IllFormed}
use Rattle.chain.specs.Rules.{all_of}
use Rattle.saved.specs.declared.Saved.{Saved}
use Rattle.saved.specs.Layout.{form1, rows, marks, held_in, place_in, registers_in, saved_length}

-- the length is right, the form is 1, zero bits are 0
abbrev pub marked : List ℕ → Bool
marked s = eqb (length s) saved_length && all_of (marks form1.number rows (held_in form1 s))

abbrev pub Reads : List ℕ → Result Saved Refusal → Type 0
Reads s r =
    MatchResult r
    (λ h. (marked s ≡ true) × (h.registers ≡ registers_in form1 s) × (h.place ≡ place_in form1 s))
    (λ e. (marked s ≡ false) × (e ≡ IllFormed))
