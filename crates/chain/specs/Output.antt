-- A call that writes into a lent output: what it answers and leaves, once its number and the bytes to write are known. Assumes nothing.
use Rattle.std.specs.Prelude.{ℕ, ◌≡◌, List, ◌++◌, eqb, length, drop}
use Rattle.chain.specs.declared.Written.{Written}
use Rattle.chain.specs.Paper.{done}
use Rattle.chain.specs.Rules.{pick}

-- these bytes over the front of an output, the rest as it was
abbrev pub over : List ℕ → List ℕ → List ℕ
over bytes out = bytes ++ drop (length bytes) out

-- a figure that is answered on 0, and is 0 on a refusal
abbrev pub on_done : ℕ → ℕ → ℕ
on_done n figure = pick (eqb n done) figure 0

-- how many bytes were written
abbrev pub length_of : ℕ → List ℕ → ℕ
length_of n bytes = on_done n (length bytes)

abbrev pub written_of : ℕ → List ℕ → Written
written_of n bytes = record { number = n; length = length_of n bytes }

-- on 0 only the needed front part is written; refused, the output is as lent
abbrev pub output_of : ℕ → List ℕ → List ℕ → List ℕ
output_of n bytes out = pick (eqb n done) (over bytes out) out

-- what a reader may hold such a call to: n its number, r the answer, out' the output left
pub record Writes (n : ℕ) (bytes out : List ℕ) (r : Written) (out' : List ℕ) : Type 0 where
  pub answer : r ≡ written_of n bytes
  pub output : out' ≡ output_of n bytes out

-- and what a refusal leaves: len is the length answered
pub record NothingWritten (len : ℕ) (out out' : List ℕ) : Type 0 where
  pub empty : len ≡ 0
  pub as_lent : out' ≡ out
