-- Closing bytes that are not the shortest way out: document 01's before wish 8, at 11 and, in a check, at 2, where one byte is a way out; and none at
-- all. Assumes nothing.
use Prim.Native.Nat.{ℕ, ◌<◌}
use mathlib.Core.Path.{◌≡◌, refl}
use mathlib.Core.List.{List, [], ◌∷◌}
use native.Mathlib.Omega.{arith}
use lib.Dec.{lit<}
use lib.ListN.{length, replicate}
use Rattle.chain.specs.declared.Chain.{Chain}
use Rattle.chain.specs.Paper.{done, more}
use Rattle.chain.specs.Kinds.{size_of, base_of, known_of}
use Rattle.chain.specs.State.{is_bad_chain, unused_zero, is_well_formed, is_ill_formed, feed_number}
use Rattle.chain.specs.Bytes.{Bytes}
use Rattle.chain.proofs.Bytes.{bytes_below}
use Rattle.awaited.specs.Byte.{number_of, passed_of, advance_of}
use Rattle.machine.specs.Run.{address_of, memory_of, registers_of, missed_of, step_of, run_of}
use Rattle.machine.specs.Calls.{fed_of, slice_of, slice_memory}
use Rattle.demands.specs.Loader.{Loader, offered, Open}
use Rattle.demands.specs.Shortest.{WayOut, Shortest}
use Rattle.demands.specs.Wrong.{offering, OlderAtEnd, OlderAtControl}
use Rattle.demands.proofs.Loads.StreamA.{cells0}
use Rattle.demands.proofs.Stops.AmendedPlaces.{two, at-two, eleven, cells2, at-eleven}

-- any loader: a way out with fewer bytes than those that are offered
pub outdone : (l : Loader) → Shortest l → (c : Chain) (m out bs : List ℕ) → Open c m → (l.closing c m out).written.number ≡ done → Bytes bs
    → WayOut c m (l.slice c m bs) → length bs < length (offered (l.closing c m out)) → ⊥
outdone l d c m out bs o e small w h = omega (arith, h, (d.shortest c m out o e).none_shorter [] bs small w)

-- at 11: 00 is a way out, by 12; 09, the cell and 4D were offered
pub older_end_out : (f : Chain → List ℕ → List ℕ) → OlderAtEnd f → Shortest (offering f) → ⊥
unfolding size_of base_of known_of is_bad_chain unused_zero is_well_formed is_ill_formed feed_number number_of passed_of advance_of address_of memory_of registers_of missed_of step_of run_of fed_of slice_of slice_memory
older_end_out f h d =
    let e = h (eleven 0x0009 0x0000) cells2 refl in
    outdone (offering f) d (eleven 0x0009 0x0000) cells2 (replicate 9 0) (0x00 ∷ []) at-eleven.below.is_open (rw e) (bytes_below (0x00 ∷ []) refl)
    (record { ends = twelve; cells = refl; registers = refl }) (rw e (lit< tt))
  where
    twelve : ◌≡◌ {A = ℕ} 12 more → ⊥
    twelve q = omega arith

-- at 2: 08 is a way out, by 7; the register and five bytes more were offered
pub older_control_out : (f : Chain → List ℕ → List ℕ) → OlderAtControl f → Shortest (offering f) → ⊥
unfolding size_of base_of known_of is_bad_chain unused_zero is_well_formed is_ill_formed feed_number number_of passed_of advance_of address_of memory_of registers_of missed_of step_of run_of fed_of slice_of slice_memory
older_control_out f h d =
    let e = h two cells0 refl refl in
    outdone (offering f) d two cells0 (replicate 9 0) (0x08 ∷ []) at-two.is_open (rw e) (bytes_below (0x08 ∷ []) refl)
    (record { ends = seven; cells = refl; registers = refl }) (rw e (lit< tt))
  where
    seven : ◌≡◌ {A = ℕ} 7 more → ⊥
    seven q = omega arith

-- nothing offered is short, and no way out
pub nothing_out : Shortest (offering (λ c m. [])) → ⊥
unfolding size_of base_of known_of is_bad_chain unused_zero is_well_formed is_ill_formed feed_number
nothing_out d = let z : 0 < 0 = (d.shortest two cells0 [] at-two.is_open refl).some in omega arith
