-- What a well-formed place says of its fields: how large they are. Assumes nothing.
use Prim.Native.Nat.{ℕ, ◌^◌, ◌<◌}
use mathlib.Core.Bool.{true, false}
use mathlib.Core.Logic.{⊎_elim}
use mathlib.Core.Path.{◌≡◌}
use mathlib.Core.List.{List}
use native.Mathlib.Omega.{arith}
use borrow.Author.Tests.{eqb-false}
use lib.Dec.{eqb}
use Rattle.chain.specs.declared.Chain.{Chain}
use Rattle.chain.specs.declared.Place.{Place}
use Rattle.chain.specs.Paper.{closed, opened}
use Rattle.chain.specs.State.{is_bad_chain, is_ill_formed, is_well_formed, unused_zero}
use Rattle.chain.proofs.BadChain.{m_fits}
use Rattle.chain.proofs.WellFormed.{m_unused, formed_of, of_formed, m-not_ill, next-le-end}
use Rattle.saved.proofs.Ranged.{Narrow}

module _ (c : Chain) (len : ℕ) (g : List ℕ) (p : Place) (h : is_bad_chain c.count c.kinds len ≡ false) (w : is_well_formed c g p ≡ true) where
  pub narrow : Narrow p
  narrow =
      let f = formed_of c g p w in
      let n = ((m_fits c.count c.kinds len).says h).few in
      record {
        mode = omega (arith, f.mode_1_to_6);
        check = omega (arith, f.write_or_check);
        device = omega (arith, f.device_in_chain, n);
        awaited = omega (arith, f.awaited_0_to_13);
      }

  pub next_fits : p.end < 2 ^ 16 → p.next < 2 ^ 16
  next_fits e = omega (arith, next-le-end c g p (formed_of c g p w))

-- a state that is not 17 and not closed is open, and its place is well formed
pub open_well : (c : Chain) → is_ill_formed c ≡ false → eqb c.place.running closed ≡ false
    → (c.place.running ≡ opened) × (is_well_formed c c.registers c.place ≡ true)
open_well c h n =
    let r = ⊎_elim (λ z. absurd (eqb-false c.place.running closed n z)) (λ w. w) ((m-not_ill c).says h).1 in
    (r.0, of_formed c c.registers c.place r.1)

pub kinds_unused : (c : Chain) → is_ill_formed c ≡ false → unused_zero c.kinds c.count ≡ true
kinds_unused c h = (m_unused c.kinds c.count).said ((m-not_ill c).says h).0.0

pub registers_unused : (c : Chain) (g : List ℕ) (p : Place) → is_well_formed c g p ≡ true → unused_zero g c.count ≡ true
registers_unused c g p w = (m_unused g c.count).said (formed_of c g p w).unused_registers
