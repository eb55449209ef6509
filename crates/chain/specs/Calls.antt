-- A new state, and reset: what each answers and leaves. Assumes nothing.
use Rattle.std.specs.Prelude.{ℕ, ◌-◌, ◌≡◌, List, [], ◌∷◌, ◌++◌, length, take, replicate, eqb}
use Rattle.chain.specs.declared.Chain.{Chain}
use Rattle.chain.specs.declared.Made.{Made}
use Rattle.chain.specs.Paper.{done, bad_chain}
use Rattle.chain.specs.Rules.{pick, Rule, ◌gives◌, first_of}
use Rattle.chain.specs.Set.{closed_place}
use Rattle.chain.specs.State.{is_bad_chain}

-- those past the first n are taken as zero
unfoldable pub first_only : ℕ → List ℕ → List ℕ
first_only n xs = take n xs ++ replicate (length xs - n) 0

abbrev pub no_chain : Chain
no_chain = record { count = 0; kinds = replicate 8 0; registers = replicate 8 0; place = closed_place }

-- zero registers and no open run
abbrev pub fresh_chain : ℕ → List ℕ → Chain
fresh_chain count kinds = record { count = count; kinds = first_only count kinds; registers = replicate 8 0; place = closed_place }

-- new and reset refuse with 1 alone
abbrev pub chain_rules : ℕ → List ℕ → ℕ → List Rule
chain_rules count kinds len = (is_bad_chain count kinds len gives bad_chain) ∷ []

unfoldable pub chain_number : ℕ → List ℕ → ℕ → ℕ
chain_number count kinds len = first_of (chain_rules count kinds len) done

unfoldable pub new_of : ℕ → List ℕ → ℕ → Made
new_of count kinds len =
    record {
      chain = pick (eqb (chain_number count kinds len) done) (fresh_chain count kinds) no_chain;
      number = chain_number count kinds len;
    }

-- reset is taken with a run open, and with a state that is 17 for other calls; refused, it hands all back as lent
unfoldable pub reset_of : Chain → ℕ → Made
reset_of c len =
    record {
      chain = pick (eqb (chain_number c.count c.kinds len) done) (fresh_chain c.count c.kinds) c;
      number = chain_number c.count c.kinds len;
    }

unfoldable pub reset_memory : Chain → List ℕ → List ℕ
reset_memory c m = pick (eqb (chain_number c.count c.kinds (length m)) done) (replicate (length m) 0) m

-- what a reader may hold new and reset to: r is the answer, m' the memory left
pub record New (count : ℕ) (kinds m : List ℕ) (r : Made) : Type 0 where
  pub made : r ≡ new_of count kinds (length m)

pub record Reset (c : Chain) (m : List ℕ) (r : Made) (m' : List ℕ) : Type 0 where
  pub made : r ≡ reset_of c (length m)
  pub memory : m' ≡ reset_memory c m
