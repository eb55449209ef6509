-- A byte sent and what it is meant for, and what a chain's stores hold after such bytes. The machine is not mentioned. Assumes nothing.
use Rattle.std.specs.Prelude.{ℕ, ◌+◌, List, [], ◌∷◌, eqb, get_or}
use Rattle.chain.specs.Rules.{pick}

-- what a stream byte is meant for
pub data Target : Type 0 where
  framing : Target
  register : ℕ → Target
  cell : ℕ → Target

-- a byte sent, and what it is meant for
pub record Sent : Type 0 where
  pub byte : ℕ
  pub to : Target

abbrev pub frame : ℕ → Sent
frame b = record { byte = b; to = framing }

-- the bytes alone
abbrev pub bytes_of : List Sent → List ℕ
bytes_of [] = []
bytes_of (x ∷ xs) = x.byte ∷ bytes_of xs

-- the chain has two stores: the memories, one after another, and the registers
pub data Store : Type 0 where
  memory : Store
  registers : Store

-- the place in a store that a byte is meant for, if any
pub data Slot : Type 0 where
  no_slot : Slot
  index : ℕ → Slot

abbrev pub slot : Store → Target → Slot
slot memory framing = no_slot
slot memory (register d) = no_slot
slot memory (cell i) = index i
slot registers framing = no_slot
slot registers (register d) = index d
slot registers (cell i) = no_slot

-- what stands at i after byte b went to a slot
abbrev pub after : Slot → ℕ → ℕ → ℕ → ℕ
after no_slot b i old = old
after (index j) b i old = pick (eqb i j) b old

-- the last byte sent to place i of a store, or its old value
abbrev pub last_to : Store → List Sent → ℕ → ℕ → ℕ
last_to k [] i old = old
last_to k (x ∷ xs) i old = last_to k xs i (after (slot k x.to) x.byte i old)

-- a data byte unlike its cell counts one; all other bytes count nothing
abbrev pub unlike : List ℕ → Target → ℕ → ℕ
unlike m framing b = 0
unlike m (register d) b = 0
unlike m (cell i) b = pick (eqb (get_or m i 0) b) 0 1

-- how many data bytes are unlike their cells
abbrev pub unlikes : List ℕ → List Sent → ℕ
unlikes m [] = 0
unlikes m (x ∷ xs) = unlike m x.to x.byte + unlikes m xs
