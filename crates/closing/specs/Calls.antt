-- The closing call: what it refuses, in document 01's order, what it answers and what output it leaves. Assumes nothing.
use Rattle.std.specs.Prelude.{ℕ, List, [], ◌∷◌, length, ltb}
use Rattle.chain.specs.declared.Chain.{Chain}
use Rattle.chain.specs.declared.Written.{Written}
use Rattle.chain.specs.Paper.{done, too_short}
use Rattle.chain.specs.Rules.{Rule, ◌gives◌, first_of}
use Rattle.chain.specs.State.{open_rules}
use Rattle.chain.specs.Output.{written_of, output_of, Writes}
use Rattle.closing.specs.Closing.{closing_bytes}

-- 1, 17, 4, then 15 where the output is shorter than the closing bytes
abbrev pub closing_rules : Chain → List ℕ → ℕ → List Rule
closing_rules c m room = open_rules c (length m) ((ltb room (length (closing_bytes c m)) gives too_short) ∷ [])

unfoldable pub written_number : Chain → List ℕ → ℕ → ℕ
written_number c m room = first_of (closing_rules c m room) done

-- the answer, and the output that is left
abbrev pub closing_of : Chain → List ℕ → ℕ → Written
closing_of c m room = written_of (written_number c m room) (closing_bytes c m)

abbrev pub closing_output : Chain → List ℕ → List ℕ → List ℕ
closing_output c m out = output_of (written_number c m (length out)) (closing_bytes c m) out

-- what a reader may hold the call to: r is the answer, out' the output left; chain and memory are lent to be read alone
abbrev pub Closing : Chain → List ℕ → List ℕ → Written → List ℕ → Type 0
Closing c m out r out' = Writes (written_number c m (length out)) (closing_bytes c m) out r out'
