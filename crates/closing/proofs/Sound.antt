-- What closing leans on in a state whose run is open: what 'Well formed' says of the cells awaited, and that the device lies in memory. Assumes nothing.
use Prim.Native.Nat.{ℕ, zero, suc, ◌+◌, ◌<◌, ◌≤◌}
use mathlib.Core.Path.{◌≡◌}
use mathlib.Core.List.{List, [], ◌∷◌}
use native.Mathlib.Nat.{not-suc-le-zero, le_of_suc-le-suc}
use native.Mathlib.Omega.{arith}
use lib.ListN.{length, get_or}
use borrow.Author.Tests.{eqb-false}
use Rattle.chain.specs.declared.Chain.{Chain}
use Rattle.chain.specs.Paper.{at_data, done}
use Rattle.chain.specs.Kinds.{size_of, base_of, size_here}
use Rattle.chain.specs.State.{open_number}
use Rattle.chain.proofs.Sizes.{size_most, size-least}
use Rattle.chain.proofs.BadChain.{m_known}
use Rattle.chain.proofs.Sound.{sound_of}

-- a device's memory ends where that of a later one begins, or before
base_below : (ks : List ℕ) (i n : ℕ) → i < n → n ≤ length ks → base_of ks i + size_of (get_or ks i 0) ≤ base_of ks n
unfolding base_of
base_below ks i zero h l = absurd (not-suc-le-zero h)
base_below [] i (suc n) h l = absurd (not-suc-le-zero l)
base_below (k ∷ ks) zero (suc n) h l = omega arith
base_below (k ∷ ks) (suc i) (suc n) h l = omega (arith, base_below ks i n (le_of_suc-le-suc h) (le_of_suc-le-suc l))

-- an open run
pub record Within (c : Chain) (m : List ℕ) : Type 0 where
  pub awaited : c.place.awaited < 14
  pub least : 52 ≤ size_here c
  pub most : size_here c ≤ 16381
  pub inside : base_of c.kinds c.place.device + size_here c ≤ length m
  pub cells : c.place.awaited ≡ at_data → (c.place.next ≤ c.place.end) × (c.place.end < size_here c)

-- the struct holds eight kinds
pub within : (c : Chain) (m : List ℕ) → open_number c (length m) ≡ done → length c.kinds ≡ 8 → Within c m
within c m h eight =
    let p = c.place in
    let s = sound_of c (length m) h in
    let fits = s.usable.fits in
    let f = s.formed in
    let kind = get_or c.kinds p.device 0 in
    record {
      awaited = omega (arith, f.awaited_0_to_13);
      least = size-least kind (eqb-false (size_of kind) 0 ((m_known kind).said (fits.known p.device f.device_in_chain)));
      most = size_most kind;
      inside = omega (arith, fits.few, fits.exact, base_below c.kinds p.device c.count f.device_in_chain (omega (arith, fits.few)));
      cells = λ e. let w = f.at_12 e in (w.1, w.2);
    }
