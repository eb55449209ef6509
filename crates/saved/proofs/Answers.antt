-- The two calls' answers, by what was found: the state's number first, then the call's own rules. Assumes nothing.
use Prim.Native.Nat.{ℕ}
use mathlib.Core.Bool.{Bool, true, false, not, ◌&&◌}
use mathlib.Core.Path.{◌≡◌, sym, ap, ◌∙◌}
use mathlib.Core.List.{List, [], ◌∷◌}
use native.Mathlib.Omega.{arith}
use borrow.Author.Tests.{ne_eqb}
use lib.ListN.{length}
use lib.Dec.{eqb, ltb}
use Rattle.chain.specs.declared.Chain.{Chain}
use Rattle.chain.specs.declared.Place.{Place}
use Rattle.chain.specs.Paper.{done, opened, closed, run_open, too_short, ill_formed}
use Rattle.chain.specs.Rules.{Rule, ◌gives◌, first_of}
use Rattle.chain.specs.State.{is_bad_chain, is_ill_formed, is_well_formed, state_number, open_number}
use Rattle.chain.specs.Output.{over, Writes}
use Rattle.chain.proofs.ByCases.{by_test}
use Rattle.chain.proofs.Sound.{placed-taken}
use Rattle.saved.specs.Reads.{marked}
use Rattle.chain.proofs.Numbers.{state_none, state_gives, state_passes, open_gives, open_passes}
use Rattle.saved.specs.Layout.{form1, held_in, registers_in, place_in, saved_length, well_saved_in, well_saved}
use Rattle.saved.specs.Calls.{save_number, pick_up_number, picked_up, pick_up_of}

-- ---- save

module _ {m n : ℕ} (bytes out : List ℕ) (e : m ≡ n) where
  pub writes-off : (n ≡ done → ⊥) → Writes m bytes out (record { number = n; length = 0 }) out
  writes-off h = record { answer = rw (e, ne_eqb n done h); output = rw (e, ne_eqb n done h) }

pub writes-on : {m : ℕ} (bytes out : List ℕ) → m ≡ done → Writes m bytes out (record { number = done; length = length bytes }) (over bytes out)
writes-on bytes out e = record { answer = rw e; output = rw e }

module _ (c : Chain) (len room : ℕ) where
  abbrev saveOwn : List Rule
  saveOwn = (ltb room saved_length gives too_short) ∷ []

  pub save_refused : (open_number c len ≡ done → ⊥) → save_number c len room ≡ open_number c len
  unfolding save_number
  save_refused = open_gives c len saveOwn done

  pub save-asked : open_number c len ≡ done → save_number c len room ≡ first_of saveOwn done
  unfolding save_number
  save-asked = open_passes c len saveOwn done

-- ---- pick-up

module _ (c : Chain) (len : ℕ) (s : List ℕ) where
  abbrev pickUpOwn : List Rule
  pickUpOwn = (eqb c.place.running opened gives run_open) ∷ (not (well_saved c s) gives ill_formed) ∷ []

  pub pick-up-refused : (state_number c len ≡ done → ⊥) → pick_up_number c len s ≡ state_number c len
  unfolding pick_up_number
  pick-up-refused = state_gives c len pickUpOwn done

  pub pick-up-asked : state_number c len ≡ done → pick_up_number c len s ≡ first_of pickUpOwn done
  unfolding pick_up_number
  pick-up-asked = state_passes c len pickUpOwn done

  pub pick-up-off : (n : ℕ) → (n ≡ done → ⊥) → pick_up_number c len s ≡ n → record { chain = c; number = n } ≡ pick_up_of c len s
  unfolding pick_up_of
  pick-up-off n h e = rw (e, ne_eqb n done h)

  pub pick-up-on : pick_up_number c len s ≡ done → record { chain = picked_up c s; number = done } ≡ pick_up_of c len s
  unfolding pick_up_of
  pick-up-on e = rw e

  -- the marks are not those of the form
  pub unmarked : marked s ≡ false → well_saved c s ≡ false
  unfolding well_saved_in
  unmarked e = ap (λ (b : Bool). b && is_well_formed c (registers_in form1 s) (place_in form1 s)) e

  -- they are: what the bytes hold decides
  pub found : (g : List ℕ) (p : Place) → marked s ≡ true → g ≡ registers_in form1 s → p ≡ place_in form1 s → well_saved c s ≡ is_well_formed c g p
  unfolding well_saved_in
  found g p m e f = (λ k. m k && is_well_formed c (sym e k) (sym f k))

  module _ (h : state_number c len ≡ done) where
    -- the place that is held is open
    running_in : {p : Place} → p ≡ place_in form1 s → p.running ≡ opened
    unfolding held_in
    running_in f = ap (λ (p : Place). p.running) f

    abbrev held : List ℕ → Place → Chain
    held g p = record { count = c.count; kinds = c.kinds; registers = g; place = p }

    -- a chain with what is held is taken exactly where that is well saved, and else it is ill formed
    pub taken_held : (g : List ℕ) (p : Place) → marked s ≡ true → g ≡ registers_in form1 s → p ≡ place_in form1 s
        → eqb (state_number (held g p) len) done ≡ well_saved c s
    taken_held g p m e f = placed-taken c len g p h (running_in f) ∙ sym (found g p m e f)

    pub refused_held : (g : List ℕ) (p : Place) → (state_number (held g p) len ≡ done → ⊥) → state_number (held g p) len ≡ ill_formed
    unfolding state_number
    refused_held g p not_taken =
        let fits : is_bad_chain c.count c.kinds len ≡ false = (state_none c len h).0 in
        by_test (is_ill_formed (held g p)) (λ t. rw (fits, t)) (λ f. absurd (not_taken (rw (fits, f))))

  -- with no run open the saved place decides
  module _ (h : state_number c len ≡ done) (shut : c.place.running ≡ closed) where
    decided : (b : Bool) → well_saved c s ≡ b → pick_up_number c len s ≡ first_of ((not b gives ill_formed) ∷ []) done
    decided b e =
        pick-up-asked h ∙ (λ k. first_of ((eqb (shut k) opened gives run_open) ∷ (not (e k) gives ill_formed) ∷ []) done)

    pub picked : well_saved c s ≡ true → record { chain = picked_up c s; number = done } ≡ pick_up_of c len s
    picked e = pick-up-on (decided true e)

    pub not-picked : well_saved c s ≡ false → record { chain = c; number = ill_formed } ≡ pick_up_of c len s
    not-picked e = pick-up-off ill_formed (λ q. omega arith) (decided false e)
