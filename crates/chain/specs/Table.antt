-- 'Given exactly when': a call's table of numbers, its conditions in document 01's order, and the rows that calls on a state have in common.
-- Assumes nothing.
use Rattle.std.specs.Prelude.{ℕ, ◌↔◌, ◌≡◌, List, [], ◌∷◌, ◌++◌, length}
use Rattle.chain.specs.declared.Chain.{Chain}
use Rattle.chain.specs.Paper.{closed, first_mode, two_preambles, bad_chain, no_run, ill_formed}
use Rattle.chain.specs.WellFormed.{Between, BadChain, IllFormed}

-- a number and its condition
pub data Claim : Type 1 where
  ◌when◌ : ℕ → Type 0 → Claim

infix 1 ◌when◌
-- none of the conditions holds
abbrev pub NoneOf : List Claim → Type 0
NoneOf [] = Unit {0}
NoneOf ((n when P) ∷ claims) = (P → ⊥) × NoneOf claims

-- each number is the answer exactly when its condition holds and none before it does, n exactly when none holds
abbrev pub TableAfter : List Claim → ℕ → List Claim → ℕ → Type 0
TableAfter before answer [] n = answer ≡ n ↔ NoneOf before
TableAfter before answer ((m when P) ∷ claims) n =
    (answer ≡ m ↔ NoneOf before × P) × TableAfter (before ++ ((m when P) ∷ [])) answer claims n

abbrev pub Table : ℕ → List Claim → ℕ → Type 0
Table answer claims n = TableAfter [] answer claims n

-- ---- a state

-- new and reset
abbrev pub chain_table : ℕ → List ℕ → List ℕ → List Claim
chain_table count kinds m = (bad_chain when BadChain count kinds (length m)) ∷ []

-- every other call on a state: 1, then 17
abbrev pub state_table : Chain → List ℕ → List Claim → List Claim
state_table c m claims =
    (bad_chain when BadChain c.count c.kinds (length m))
    ∷ (ill_formed when IllFormed c)
    ∷ claims

-- a call that wants a run open: 4
abbrev pub open_table : Chain → List ℕ → List Claim → List Claim
open_table c m claims = state_table c m ((no_run when c.place.running ≡ closed) ∷ claims)

-- a byte or a slice: the same
abbrev pub feed_table : Chain → List ℕ → List Claim → List Claim
feed_table c m claims = open_table c m claims

-- the state takes a slice: none of these is given
abbrev pub Running : Chain → List ℕ → Type 0
Running c m = NoneOf (feed_table c m [])

-- a mode not 1 to 6
abbrev pub NoMode : ℕ → Type 0
NoMode mode = Between first_mode two_preambles mode → ⊥
