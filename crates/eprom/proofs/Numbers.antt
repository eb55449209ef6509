-- A fetch's number: the state's own, or the fetch's; and what holds where it is done. Assumes nothing.
use Rattle.std.proofs.Common.{◌≡◌, ℕ, Bool, true, false, not, eqb, ltb, List, [], ◌∷◌, length, sym, refl, ◌∙◌, arith, ltb-false, eqb-true}
use borrow.Author.Tests.{eqb-false}
use Rattle.chain.specs.declared.Chain.{Chain}
use Rattle.chain.specs.Paper.{closed, done, bad_mode, no_run, ill_formed}
use Rattle.chain.specs.Rules.{pick, Rule, ◌gives◌}
use Rattle.chain.specs.State.{state_number, feed_number, feed_rules}
use Rattle.chain.proofs.ByCases.{by_test}
use Rattle.chain.proofs.FirstOf.{None, first-none, none_first}
use Rattle.chain.proofs.Numbers.{state_gives, state_passes}
use Rattle.chain.proofs.Sound.{feed_sound}
use Rattle.eprom.specs.declared.Fetcher.{Fetcher}
use Rattle.eprom.specs.Counter.{fetches, last_count}
use Rattle.eprom.specs.declared.Fetched.{Fetched}
use Rattle.eprom.specs.Fetch.{fetch_all}
use Rattle.eprom.specs.Calls.{fetch_rules, fetch_number, lent, fetched_of, fetch_of, fetch_memory, Fetch}
use Rattle.eprom.specs.Steps.{Going}

module _ (c : Chain) (f : Fetcher) (len : ℕ) where
  -- the rules after the state's
  abbrev own : List Rule
  own =
      (ltb last_count f.counter gives ill_formed)
      ∷ (eqb c.place.running closed gives no_run)
      ∷ (not (fetches c.place.mode) gives bad_mode)
      ∷ []

  pub fetch_gives : (state_number c len ≡ done → ⊥) → fetch_number c f len ≡ state_number c len
  unfolding fetch_number
  fetch_gives h = state_gives c len own done h

  pub fetch_passes : state_number c len ≡ done
      → fetch_number c f len
      ≡ pick (ltb last_count f.counter) ill_formed
      (pick (eqb c.place.running closed) no_run (pick (not (fetches c.place.mode)) bad_mode done))
  unfolding fetch_number
  fetch_passes h = state_passes c len own done h

  -- the state's number comes first
  pub fetch_of_state : fetch_number c f len
      ≡ pick (eqb (state_number c len) done)
      (pick (ltb last_count f.counter) ill_formed
      (pick (eqb c.place.running closed) no_run (pick (not (fetches c.place.mode)) bad_mode done)))
      (state_number c len)
  fetch_of_state =
      by_test (eqb (state_number c len) done) (λ e. rw e (fetch_passes (eqb-true (state_number c len) done e)))
      (λ e. rw e (fetch_gives (eqb-false (state_number c len) done e)))

  -- no rule of a call that fetches
  none : fetch_number c f len ≡ done → None (fetch_rules c f len)
  unfolding fetch_number
  none h = first-none (fetch_rules c f len) done tt h

  -- what fetches takes bytes
  pub fetch_feeds : fetch_number c f len ≡ done → feed_number c len ≡ done
  unfolding feed_number
  fetch_feeds h = let n = none h in none_first (feed_rules c len []) done (n.0, (n.1.0, (n.1.1.1.0, tt)))

  pub fetch_going : fetch_number c f len ≡ done → Going c f
  fetch_going h =
      let n = none h in
      let s = feed_sound c len (fetch_feeds h) in
      record {
        running = s.running;
        few = s.usable.fits.few;
        device = s.formed.device_in_chain;
        known = s.formed.awaited_0_to_13.1;
        mode = not_false (fetches c.place.mode) n.1.1.1.1.0;
        counter = omega (arith, ltb-false last_count f.counter n.1.1.0);
      }
    where
      not_false : (b : Bool) → not b ≡ false → b ≡ true
      not_false true e = refl
      not_false false e = sym e

-- what fetches answers for the bytes that it takes
pub fetch_done : (c : Chain) (f : Fetcher) (m e : List ℕ) (n : ℕ) (r : Fetched) (w : List ℕ) → done ≡ fetch_number c f (length m)
    → r ≡ fetched_of (fetch_all e n (lent c m f)) → w ≡ (fetch_all e n (lent c m f)).run.memory → Fetch c f m e n r w
unfolding fetch_of fetch_memory
fetch_done c f m e n r w d v h = record { answer = v ∙ rw (← d); memory = h ∙ rw (← d) }
