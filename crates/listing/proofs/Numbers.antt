-- The program's own numbers, and the bytes taken that it prints with them: 1 for the kind, 2 for the mode, 5 for a hunt without a position, each
-- with 0; else the lister's number and bytes taken. Assumes nothing.
use Prim.Native.Nat.{ℕ}
use mathlib.Core.Bool.{true, false, ◌&&◌}
use mathlib.Core.Path.{◌≡◌}
use mathlib.Core.List.{List}
use lib.Dec.{eqb}
use borrow.Author.Tests.{eq-eqb}
use Rattle.chain.specs.Paper.{first_mode, two_preambles, bad_chain, bad_mode, no_preamble, serial}
use Rattle.chain.specs.Rules.{from}
use Rattle.chain.specs.WellFormed.{Known, Between}
use Rattle.chain.specs.Table.{NoMode}
use Rattle.chain.proofs.BadChain.{m_known, m_unknown}
use Rattle.chain.proofs.Means.{said, reads}
use Rattle.hunt.specs.Hunt.{found_at, nowhere}
use Rattle.reader.specs.Stops.{stop}
use Rattle.listing.specs.Program.{given_of, lister_stop, program_stop}

pub record ProgramNumbers (kind mode : ℕ) (s : List ℕ) : Type 0 where
  pub one : (Known kind → ⊥) → program_stop kind mode s ≡ stop bad_chain 0
  pub two : Known kind → NoMode mode → program_stop kind mode s ≡ stop bad_mode 0
  pub five : Known kind → Between first_mode two_preambles mode → serial mode ≡ true → found_at s ≡ nowhere → program_stop kind mode s ≡ stop no_preamble 0
  pub own : Known kind → Between first_mode two_preambles mode → (serial mode && eqb (found_at s) nowhere) ≡ false
      → program_stop kind mode s ≡ lister_stop kind mode (given_of mode s)

pub program_numbers : (kind mode : ℕ) (s : List ℕ) → ProgramNumbers kind mode s
unfolding program_stop
program_numbers kind mode s =
    record {
      one = λ u. rw ((m_unknown kind).said u);
      two = λ k n. let f : from first_mode two_preambles mode ≡ false = said (search reads) n in rw ((m_known kind).said k, f);
      five = λ k b z e. let f : from first_mode two_preambles mode ≡ true = said (search reads) b in rw ((m_known kind).said k, f, z, eq-eqb (found_at s) nowhere e);
      own = λ k b z. let f : from first_mode two_preambles mode ≡ true = said (search reads) b in rw ((m_known kind).said k, f, z);
    }
