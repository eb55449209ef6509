-- A chain with other registers: for laws that set two runs side by side. Assumes nothing.
use Prim.Native.Nat.{ℕ}
use mathlib.Core.List.{List}
use Rattle.chain.specs.declared.Chain.{Chain}

abbrev pub with_registers : Chain → List ℕ → Chain
with_registers c g = record { count = c.count; kinds = c.kinds; registers = g; place = c.place }
