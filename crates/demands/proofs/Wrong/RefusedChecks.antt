-- A loader that answers, stores and leaves anything where a check would be refused does not meet the second demand: by (f) it may change no cell
-- there, and leave no other register than ours does. Assumes nothing.
use Prim.Native.Nat.{ℕ, ◌<◌}
use mathlib.Core.Bool.{false, ◌||◌}
use mathlib.Core.Logic.{◌⊎◌, ◌≢◌, ⊎_elim}
use mathlib.Core.Path.{◌≡◌, ap, sym, ◌∙◌}
use mathlib.Core.List.{List, []}
use lib.Dec.{eqb}
use lib.ListN.{length, get_or}
use Rattle.chain.specs.declared.Chain.{Chain}
use Rattle.chain.specs.Paper.{writing, done, more}
use Rattle.chain.specs.Bytes.{Bytes}
use Rattle.machine.specs.Run.{writes}
use Rattle.demands.specs.Loader.{AfterSlice, Idle, Mode}
use Rattle.demands.specs.Demand2.{Demand2f}
use Rattle.demands.specs.Ours.{ours}
use Rattle.demands.specs.Wrong.{careless}
use Rattle.demands.proofs.Loads.CheckLeaves.{second_f}

module _ (f : Chain → List ℕ → List ℕ → AfterSlice) (c : Chain) (m : List ℕ) (check mode : ℕ) (s : List ℕ) where
  -- the check that a start opens
  abbrev begun : Chain
  begun = (ours.start c m mode check).chain

  -- it is a check, and refused
  abbrev Refused : Type 0
  Refused =
      (eqb (ours.slice begun m s).fed.answer.number done || eqb (ours.slice begun m s).fed.answer.number more || writes begun) ≡ false

  does : Refused → (careless f).slice begun m s ≡ f begun m s
  does r = rw r

  -- a register other than ours leaves
  abbrev Other : Type 0
  Other = (d : ℕ) × (d < length c.registers) × (get_or (f begun m s).fed.chain.registers d 0 ≢ get_or (ours.slice begun m s).fed.chain.registers d 0)

  pub careless_out : Idle c m → Mode mode → Bytes s → eqb check writing ≡ false → Refused → ((f begun m s).memory ≢ m) ⊎ Other → Demand2f (careless f) → ⊥
  careless_out i o u k r h d =
      let theirs = d c m check mode [] s i o u k in
      let own = second_f c m check mode [] s i o u k in
      ⊎_elim (λ z. z (sym (ap (λ (a : AfterSlice). a.memory) (does r)) ∙ theirs.cells))
      (λ z.
      z.2
      (sym (ap (λ (a : AfterSlice). get_or a.fed.chain.registers z.0 0) (does r)) ∙ theirs.regs z.0 z.1 ∙ sym (own.regs z.0 z.1))) h
