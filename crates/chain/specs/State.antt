-- What makes a lent state refused: number 1, and number 17 with the whole paragraph 'Well formed'. Assumes nothing.
use Rattle.std.specs.Prelude.{ℕ, ◌%◌, Bool, true, not, ◌&&◌, ◌||◌, List, [], ◌∷◌, get_or, drop, eqb, ltb, leb}
use Rattle.chain.specs.declared.Chain.{Chain}
use Rattle.chain.specs.declared.Place.{Place}
use Rattle.chain.specs.Paper.{at_preamble, at_second, at_control, at_count, at_null, at_start, at_start_low, at_end, at_end_low, at_data, at_check, closed, opened, writing, checking, first_mode, two_preambles, most_devices, most_memory, B3, B4, done, bad_chain, no_run, ill_formed}
use Rattle.chain.specs.Rules.{Rule, ◌gives◌, first_of, all_of, ◌implies◌, from}
use Rattle.chain.specs.Kinds.{size_at, base_of, known_of}

-- 1: count not 1 to 8, unknown kind, total over 65,536, or lent memory of another length
unfoldable pub is_bad_chain : ℕ → List ℕ → ℕ → Bool
is_bad_chain count kinds len =
    not (from 1 most_devices count)
    || not (known_of kinds count)
    || ltb most_memory (base_of kinds count)
    || not (eqb (base_of kinds count) len)

abbrev pub zeros : List ℕ → Bool
zeros [] = true
zeros (x ∷ xs) = eqb x 0 && zeros xs

-- those past the first n are zero
unfoldable pub unused_zero : List ℕ → ℕ → Bool
unused_zero xs n = zeros (drop n xs)

-- document 01's paragraph 'Well formed', sentence by sentence, the control byte as document 02 has it: p a place in a chain of count devices,
-- unused whether the unused registers are zero, g the stored register of the place's device, size its size. Length, form and zero bits are
-- the saved place's own
abbrev pub formed : Place → ℕ → Bool → ℕ → ℕ → List Bool
formed p count unused g size =
    from first_mode two_preambles p.mode
    ∷ from writing checking p.check
    ∷ from at_preamble at_check p.awaited
    ∷ ltb p.device count
    ∷ unused
    ∷ (eqb p.check writing implies eqb p.mismatches 0)
    ∷ (from at_preamble at_second p.awaited implies eqb p.device 0)
    ∷ (eqb p.awaited at_second implies eqb p.mode two_preambles)
    ∷ (leb p.awaited at_control implies eqb p.control 0)
    ∷ (ltb at_control p.awaited implies eqb p.control g)
    ∷ (ltb at_control p.awaited && eqb p.check checking implies not (B3 p.control))
    ∷ (from at_preamble at_count p.awaited || eqb p.awaited at_check implies eqb p.left 0 && eqb p.start 0 && eqb p.end 0 && eqb p.next 0)
    ∷ (from at_null at_data p.awaited implies leb 1 p.left)
    ∷ (from at_null at_start p.awaited implies eqb p.start 0 && eqb p.end 0 && eqb p.next 0)
    ∷ (eqb p.awaited at_start_low implies eqb (p.start % 256) 0 && eqb p.end 0 && eqb p.next 0)
    ∷ (eqb p.awaited at_end implies ltb p.start size && eqb p.end 0 && eqb p.next 0)
    ∷ (eqb p.awaited at_end_low implies ltb p.start size && eqb (p.end % 256) 0 && eqb p.next 0)
    ∷ (eqb p.awaited at_data implies leb p.start p.next && leb p.next p.end && ltb p.end size)
    ∷ (eqb p.awaited at_control implies not (B4 g))
    ∷ (eqb p.awaited at_control && eqb p.check checking implies not (B3 g))
    ∷ []

-- the place p, with these registers, is well formed in the chain c
unfoldable pub is_well_formed : Chain → List ℕ → Place → Bool
is_well_formed c registers p =
    all_of (formed p c.count (unused_zero registers c.count) (get_or registers p.device 0) (size_at c p.device))

-- 17: unused kinds or registers not zero, or an open place that is not well formed
unfoldable pub is_ill_formed : Chain → Bool
is_ill_formed c =
    not (unused_zero c.kinds c.count)
    || not (unused_zero c.registers c.count)
    || not (eqb c.place.running closed || eqb c.place.running opened && is_well_formed c c.registers c.place)

-- what every call on a state gives before it looks at more: 1, then 17
abbrev pub state_rules : Chain → ℕ → List Rule → List Rule
state_rules c len rules =
    (is_bad_chain c.count c.kinds len gives bad_chain)
    ∷ (is_ill_formed c gives ill_formed)
    ∷ rules

-- and a call that wants a run open: 4
abbrev pub open_rules : Chain → ℕ → List Rule → List Rule
open_rules c len rules = state_rules c len ((eqb c.place.running closed gives no_run) ∷ rules)

-- and a call that feeds bytes: the same
abbrev pub feed_rules : Chain → ℕ → List Rule → List Rule
feed_rules c len rules = open_rules c len rules

unfoldable pub state_number : Chain → ℕ → ℕ
state_number c len = first_of (state_rules c len []) done

unfoldable pub open_number : Chain → ℕ → ℕ
open_number c len = first_of (open_rules c len []) done

unfoldable pub feed_number : Chain → ℕ → ℕ
feed_number c len = first_of (feed_rules c len []) done
