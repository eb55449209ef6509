-- Loaders that the stop in demand 3 shuts out: any whose memory is the same after two front parts that leave a cell different, and so the
-- eager loader, which stores a whole window at its first data byte and idles through the rest, however it makes up the bytes it was not
-- given. Assumes nothing.
use Prim.Native.Nat.{ℕ, ◌<◌}
use mathlib.Core.Path.{◌≡◌, refl, ap, sym, ◌∙◌}
use mathlib.Core.List.{List, [], ◌∷◌}
use native.Mathlib.Omega.{arith}
use lib.Dec.{lit<}
use lib.ListN.{length, get_or, take}
use lib.Seq.{sets}
use Rattle.chain.specs.declared.Chain.{Chain}
use Rattle.chain.specs.Kinds.{size_of, base_of, known_of}
use Rattle.chain.specs.State.{is_bad_chain, unused_zero, is_well_formed, is_ill_formed, state_number, feed_number}
use Rattle.awaited.specs.Byte.{number_of, passed_of, advance_of}
use Rattle.machine.specs.Run.{address_of, memory_of, registers_of, missed_of, step_of, run_of}
use Rattle.machine.specs.Calls.{start_number, start_of, fed_of, slice_of, slice_memory}
use Rattle.grammar.specs.Sent.{memory, last_to}
use Rattle.chain.specs.Bytes.{Bytes}
use Rattle.demands.specs.Loader.{Loader, Idle, Mode}
use Rattle.grammar.specs.Fits.{Reading, meant, Clear}
use Rattle.demands.specs.Demand3.{Whole, load, Demand3}
use Rattle.demands.specs.Ours.{ours}
use Rattle.demands.specs.Wrong.{eager}
use Rattle.demands.proofs.Loads.StreamA.{teaching, cells0, idle-teaching, mode-one, stream_a, small_A, reading_A}

-- any loader: what stands in a cell after j bytes and after k bytes of some stream is to differ, and does not
pub idling_out : (l : Loader) → Demand3 l → (c : Chain) (m : List ℕ) (mode : ℕ) (bs : List ℕ) → Idle c m → Mode mode → Bytes bs → Whole l mode bs c m
    → (x : Reading c mode bs) → Clear x.first x.others → (j k i : ℕ) → j < length bs → k < length bs → i < length m
    → (last_to memory (take j (meant x)) i (get_or m i 0) ≡ last_to memory (take k (meant x)) i (get_or m i 0) → ⊥)
    → (load l mode c m (take j bs)).memory ≡ (load l mode c m (take k bs)).memory → ⊥
idling_out l d c m mode bs i o u w x clear j k n a b h differ same =
    let s = (d c m mode bs i o u w).stops x clear in
    differ
    (sym ((s j a [] (take j bs) refl).seen.cells n h) ∙ ap (λ (y : List ℕ). get_or y n 0) same ∙ (s k b [] (take k bs) refl).seen.cells n h)

-- it loads stream A whole
pub eager-whole : (f : Chain → List ℕ → ℕ → List ℕ) → Whole (eager f) 1 stream_a teaching cells0
unfolding size_of base_of known_of is_bad_chain unused_zero is_well_formed is_ill_formed state_number feed_number number_of passed_of advance_of address_of memory_of registers_of missed_of step_of run_of start_number start_of fed_of slice_of slice_memory
eager-whole f = record { started = refl; number = refl; taken = refl }

-- and is out between the first data byte and the second
pub eager_out : (f : Chain → List ℕ → ℕ → List ℕ) → Demand3 (eager f) → ⊥
unfolding size_of base_of known_of is_bad_chain unused_zero is_well_formed is_ill_formed state_number feed_number number_of passed_of advance_of address_of memory_of registers_of missed_of step_of run_of start_number start_of fed_of slice_of slice_memory
eager_out f d =
    idling_out (eager f) d teaching cells0 1 stream_a idle-teaching mode-one small_A (eager-whole f) reading_A refl 12 13 10 (lit< tt) (lit< tt) (lit< tt) no refl
  where
    no : ◌≡◌ {A = ℕ} 0 0x22 → ⊥
    no q = omega arith

-- where what it makes up is what comes, it loads rightly: it is the stop that shuts it out
pub eager-right : (load (eager (λ c m b. sets m 9 (0x11 ∷ 0x22 ∷ 0x33 ∷ []))) 1 teaching cells0 stream_a).memory ≡ (load ours 1 teaching cells0 stream_a).memory
unfolding size_of base_of known_of is_bad_chain unused_zero is_well_formed is_ill_formed state_number feed_number number_of passed_of advance_of address_of memory_of registers_of missed_of step_of run_of start_number start_of fed_of slice_of slice_memory
eager-right = refl
