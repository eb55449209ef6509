-- What a run stores, read off the chain, its place and the bytes alone, never off memory: each byte with where the machine puts it, and of
-- these the cells and bytes that are stored. Assumes nothing.
use Rattle.std.specs.Prelude.{ℕ, Bool, true, List, [], ◌∷◌, eqb, set}
use Rattle.chain.specs.declared.Chain.{Chain}
use Rattle.chain.specs.Paper.{at_control, at_data, more}
use Rattle.chain.specs.Rules.{pick}
use Rattle.awaited.specs.Byte.{awaits, number_of}
use Rattle.machine.specs.Run.{writes, address_of, went_on}
use Rattle.grammar.specs.Sent.{Target, framing, register, cell, Sent, frame, Store, memory, registers}

-- where the machine puts the byte that it awaits
abbrev pub aim : Chain → Target
aim c = pick (awaits c at_data) (cell (address_of c)) (pick (awaits c at_control) (register c.place.device) framing)

-- the bytes that a run looks at, each with where it goes; the byte that ends the run goes nowhere. The chain goes on with no memory at all
unfoldable pub walk_of : Chain → List ℕ → List Sent
walk_of c [] = []
walk_of c (b ∷ bs) = pick (eqb (number_of c b) more) (record { byte = b; to = aim c } ∷ walk_of (went_on c [] b) bs) (frame b ∷ [])

-- which runs change a store: a write both, a check the registers alone
abbrev pub changes : Store → Chain → Bool
changes memory c = writes c
changes registers c = true

-- the bytes that a run puts into a store, each with where it goes
abbrev pub stored_of : Store → Chain → List ℕ → List Sent
stored_of k c bs = pick (changes k c) (walk_of c bs) []

-- a cell of the chain's memory and the byte that goes there
pub record Put : Type 0 where
  pub cell : ℕ
  pub byte : ℕ

-- the bytes that are meant for a cell
abbrev pub put_of : Target → ℕ → List Put → List Put
put_of framing b ps = ps
put_of (register d) b ps = ps
put_of (cell i) b ps = record { cell = i; byte = b } ∷ ps

abbrev pub puts_in : List Sent → List Put
puts_in [] = []
puts_in (x ∷ xs) = put_of x.to x.byte (puts_in xs)

-- what a run stores: cells and bytes, in order
abbrev pub puts_of : Chain → List ℕ → List Put
puts_of c bs = puts_in (stored_of memory c bs)

-- a memory into which they were put, one after another
abbrev pub put_into : List Put → List ℕ → List ℕ
put_into [] m = m
put_into (p ∷ ps) m = put_into ps (set m p.cell p.byte)
