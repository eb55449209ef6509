-- Save and pick-up: what each refuses, in document 01's order, and what it answers and leaves. Assumes nothing.
use Rattle.std.specs.Prelude.{ℕ, not, ◌≡◌, List, [], ◌∷◌, length, eqb, ltb}
use Rattle.chain.specs.declared.Chain.{Chain}
use Rattle.chain.specs.declared.Made.{Made}
use Rattle.chain.specs.declared.Written.{Written}
use Rattle.chain.specs.Paper.{opened, done, run_open, too_short, ill_formed}
use Rattle.chain.specs.Rules.{pick, Rule, ◌gives◌, first_of}
use Rattle.chain.specs.State.{state_rules, open_rules}
use Rattle.chain.specs.Output.{written_of, output_of, Writes}
use Rattle.saved.specs.Layout.{form1, saved_length, saved_bytes, place_in, registers_in, well_saved}

-- save: 1, 17, 4, then 15 where the output is shorter than needed
abbrev pub save_rules : Chain → ℕ → ℕ → List Rule
save_rules c len room = open_rules c len ((ltb room saved_length gives too_short) ∷ [])

unfoldable pub save_number : Chain → ℕ → ℕ → ℕ
save_number c len room = first_of (save_rules c len room) done

abbrev pub save_of : Chain → ℕ → ℕ → Written
save_of c len room = written_of (save_number c len room) (saved_bytes c.registers c.place)

-- only the needed front part is written
abbrev pub save_output : Chain → ℕ → List ℕ → List ℕ
save_output c len out = output_of (save_number c len (length out)) (saved_bytes c.registers c.place) out

-- pick-up: 1 and 17 for the state, 3 while a run is open, then 17 for the saved place
abbrev pub pick_up_rules : Chain → ℕ → List ℕ → List Rule
pick_up_rules c len s =
    state_rules c len
    ((eqb c.place.running opened gives run_open)
    ∷ (not (well_saved c s) gives ill_formed)
    ∷ [])

unfoldable pub pick_up_number : Chain → ℕ → List ℕ → ℕ
pick_up_number c len s = first_of (pick_up_rules c len s) done

-- the chain with the registers and the place that were saved
abbrev pub picked_up : Chain → List ℕ → Chain
picked_up c s = record { count = c.count; kinds = c.kinds; registers = registers_in form1 s; place = place_in form1 s }

unfoldable pub pick_up_of : Chain → ℕ → List ℕ → Made
pick_up_of c len s =
    record { chain = pick (eqb (pick_up_number c len s) done) (picked_up c s) c; number = pick_up_number c len s }

-- what a reader may hold save and pick-up to: r is the answer, out' the output left
abbrev pub Save : Chain → List ℕ → List ℕ → Written → List ℕ → Type 0
Save c m out r out' = Writes (save_number c (length m) (length out)) (saved_bytes c.registers c.place) out r out'

pub record PickUp (c : Chain) (m s : List ℕ) (r : Made) : Type 0 where
  pub made : r ≡ pick_up_of c (length m) s
