-- A state that the calls take, as facts: none of 1 and 17 is given for it, and with a run open not 4 either. Assumes nothing.
use Prim.Native.Nat.{ℕ}
use mathlib.Core.Bool.{true, true≢false}
use mathlib.Core.Logic.{inl, inr, ⊎_elim}
use mathlib.Core.Path.{◌≡◌, refl, sym, ◌∙◌}
use mathlib.Core.List.{List, []}
use native.Mathlib.Omega.{arith}
use borrow.Author.Tests.{eqb-false, eq-eqb, ne_eqb}
use lib.Dec.{eqb}
use Rattle.chain.specs.declared.Chain.{Chain}
use Rattle.chain.specs.declared.Place.{Place}
use Rattle.chain.specs.Paper.{closed, opened, done, more}
use Rattle.chain.specs.Set.{with_place, closed_place}
use Rattle.chain.specs.State.{is_well_formed, state_rules, open_rules, feed_rules, state_number, open_number, feed_number}
use Rattle.chain.specs.WellFormed.{UnusedZero, WellFormed}
use Rattle.chain.proofs.ByCases.{by_test}
use Rattle.chain.proofs.FirstOf.{none_first, first_never}
use Rattle.chain.proofs.Numbers.{state_none, open_none}
use Rattle.chain.proofs.BadChain.{Fits, m_fits}
use Rattle.chain.proofs.WellFormed.{formed_of, of_formed, m-not_ill}

-- what every call wants of a state, whatever its place
pub record Usable (c : Chain) (len : ℕ) : Type 0 where
  pub fits : Fits c.count c.kinds len
  pub kinds : UnusedZero c.kinds c.count
  pub registers : UnusedZero c.registers c.count

-- and with a run open
pub record Sound (c : Chain) (len : ℕ) : Type 0 where
  pub usable : Usable c len
  pub running : c.place.running ≡ opened
  pub formed : WellFormed c c.registers c.place

module _ (c : Chain) (len : ℕ) where
  pub state_usable : state_number c len ≡ done → Usable c len
  state_usable h =
      let r = state_none c len h in
      let u = (m-not_ill c).says r.1.0 in
      record { fits = (m_fits c.count c.kinds len).says r.0; kinds = u.0.0; registers = u.0.1 }

  pub usable_closed : Usable c len → state_number (with_place c closed_place) len ≡ done
  unfolding state_number
  usable_closed u =
      none_first (state_rules (with_place c closed_place) len []) done
      ((m_fits c.count c.kinds len).said u.fits, ((m-not_ill (with_place c closed_place)).said ((u.kinds, u.registers), inl refl), tt))

  pub open_is_taken : open_number c len ≡ done → state_number c len ≡ done
  unfolding state_number
  open_is_taken h = let r = open_none c len h in none_first (state_rules c len []) done (r.0, (r.1.0, tt))

  pub sound_of : open_number c len ≡ done → Sound c len
  sound_of h =
      let r = open_none c len h in
      let ready = ⊎_elim (λ z. absurd (eqb-false c.place.running closed r.1.1.0 z)) (λ w. w) ((m-not_ill c).says r.1.0).1 in
      record { usable = state_usable (open_is_taken h); running = ready.0; formed = ready.1 }

  pub of_sound : Sound c len → open_number c len ≡ done
  unfolding open_number
  of_sound s =
      let u = s.usable in
      none_first (open_rules c len []) done
      ((m_fits c.count c.kinds len).said u.fits, ((m-not_ill c).said ((u.kinds, u.registers), inr (s.running, s.formed)), (rw s.running, tt)))

-- ---- another open place, with other registers, in a chain that is taken

module _ (c : Chain) (len : ℕ) (g : List ℕ) (p : Place) (h : state_number c len ≡ done) (o : p.running ≡ opened) where
  abbrev placed : Chain
  placed = record { count = c.count; kinds = c.kinds; registers = g; place = p }

  -- the chain's count and kinds are all that 'Well formed' asks of it
  same-formed : is_well_formed placed g p ≡ is_well_formed c g p
  unfolding is_well_formed
  same-formed = refl

  formed-taken : is_well_formed c g p ≡ true → state_number placed len ≡ done
  formed-taken w =
      let u = state_usable c len h in
      let f = formed_of placed g p (same-formed ∙ w) in
      open_is_taken placed len
      (of_sound placed len (record { usable = record { fits = u.fits; kinds = u.kinds; registers = f.unused_registers }; running = o; formed = f }))

  taken-formed : state_number placed len ≡ done → is_well_formed c g p ≡ true
  taken-formed t =
      let r = state_none placed len t in
      sym same-formed ∙ of_formed placed g p (⊎_elim (λ z. absurd (eqb-false opened closed refl (sym o ∙ z))) (λ w. w.1) ((m-not_ill placed).says r.1.0).1)

  -- is taken exactly where it is well formed
  pub placed-taken : eqb (state_number placed len) done ≡ is_well_formed c g p
  placed-taken =
      by_test (is_well_formed c g p) (λ w. eq-eqb (state_number placed len) done (formed-taken w) ∙ sym w)
      (λ w. ne_eqb (state_number placed len) done (λ t. true≢false (sym (taken-formed t) ∙ w)) ∙ sym w)

-- ---- a state that takes bytes: today every state with a run open

module _ (c : Chain) (len : ℕ) where
  pub feed_is_open : feed_number c len ≡ done → open_number c len ≡ done
  unfolding feed_number open_number
  feed_is_open h = h

  pub feed_sound : feed_number c len ≡ done → Sound c len
  feed_sound h = sound_of c len (feed_is_open h)

  pub sound_feed : Sound c len → feed_number c len ≡ done
  unfolding feed_number open_number
  sound_feed s = of_sound c len s

  pub feed_is_taken : feed_number c len ≡ done → state_number c len ≡ done
  feed_is_taken h = open_is_taken c len (feed_is_open h)

  -- with its run closed every call takes it
  pub feed_closed : feed_number c len ≡ done → state_number (with_place c closed_place) len ≡ done
  feed_closed h = usable_closed c len (feed_sound h).usable

  -- these numbers are never 16
  pub feed_never_more : feed_number c len ≡ more → ⊥
  unfolding feed_number
  feed_never_more = first_never (feed_rules c len []) done more (omega arith) tt
