-- The state's own numbers stand before a call's: where one is given it is the call's, where none is the call's own follow. Assumes nothing.
use Prim.Native.Nat.{ℕ}
use mathlib.Core.Bool.{Bool, true, false}
use mathlib.Core.Path.{◌≡◌, refl}
use mathlib.Core.List.{List, []}
use lib.Dec.{eqb}
use Rattle.chain.specs.declared.Chain.{Chain}
use Rattle.chain.specs.Paper.{closed, done, bad_chain, no_run, ill_formed}
use Rattle.chain.specs.Rules.{pick, Rule, first_of}
use Rattle.chain.specs.State.{is_bad_chain, is_ill_formed, state_rules, open_rules, feed_rules, state_number, open_number, feed_number}
use Rattle.chain.proofs.FirstOf.{None, first-none, first_passes, first_gives}

module _ (c : Chain) (len : ℕ) where
  pub state_none : state_number c len ≡ done → None (state_rules c len [])
  unfolding state_number
  state_none h = first-none (state_rules c len []) done tt h

  pub open_none : open_number c len ≡ done → None (open_rules c len [])
  unfolding open_number
  open_none h = first-none (open_rules c len []) done tt h

  pub feed_none : feed_number c len ≡ done → None (feed_rules c len [])
  unfolding feed_number
  feed_none h = first-none (feed_rules c len []) done tt h

-- 4 comes after 1 and 17: without it what a call gives that wants a run open is what every call gives
pub state_of_open : (c : Chain) (len : ℕ) → state_number c len ≡ pick (eqb (open_number c len) no_run) done (open_number c len)
unfolding state_number open_number
state_of_open c len = each (is_bad_chain c.count c.kinds len) (is_ill_formed c) (eqb c.place.running closed)
  where
    each : (b i r : Bool)
        → pick b bad_chain (pick i ill_formed done)
        ≡ pick (eqb (pick b bad_chain (pick i ill_formed (pick r no_run done))) no_run) done (pick b bad_chain (pick i ill_formed (pick r no_run done)))
    each true i r = refl
    each false true r = refl
    each false false true = refl
    each false false false = refl

module _ (c : Chain) (len : ℕ) (rules : List Rule) (n : ℕ) where
  pub state_gives : (state_number c len ≡ done → ⊥) → first_of (state_rules c len rules) n ≡ state_number c len
  unfolding state_number
  state_gives h = first_gives rules n (state_rules c len []) done h

  pub state_passes : state_number c len ≡ done → first_of (state_rules c len rules) n ≡ first_of rules n
  state_passes h = first_passes rules n (state_rules c len []) (state_none c len h)

  pub open_gives : (open_number c len ≡ done → ⊥) → first_of (open_rules c len rules) n ≡ open_number c len
  unfolding open_number
  open_gives h = first_gives rules n (open_rules c len []) done h

  pub open_passes : open_number c len ≡ done → first_of (open_rules c len rules) n ≡ first_of rules n
  open_passes h = first_passes rules n (open_rules c len []) (open_none c len h)

  pub feed_gives : (feed_number c len ≡ done → ⊥) → first_of (feed_rules c len rules) n ≡ feed_number c len
  unfolding feed_number
  feed_gives h = first_gives rules n (feed_rules c len []) done h

  pub feed_passes : feed_number c len ≡ done → first_of (feed_rules c len rules) n ≡ first_of rules n
  feed_passes h = first_passes rules n (feed_rules c len []) (feed_none c len h)
