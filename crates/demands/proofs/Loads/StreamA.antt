-- Document 01's stream A on the teaching array: a stream that fits, for a write and for a check. Assumes nothing.
use Prim.Native.Nat.{ℕ, zero, suc}
use mathlib.Core.Path.{◌≡◌, refl}
use mathlib.Core.List.{List, [], ◌∷◌}
use native.Mathlib.Omega.{arith}
use lib.ListN.{replicate}
use lib.Dec.{lit<}
use Rattle.chain.specs.declared.Chain.{Chain}
use Rattle.chain.specs.Kinds.{size_of, base_of, known_of}
use Rattle.chain.specs.Set.{closed_place}
use Rattle.chain.specs.State.{is_bad_chain, unused_zero, is_well_formed, is_ill_formed, state_number}
use Rattle.grammar.specs.Stream.{Window, Section, stream_sent}
use Rattle.grammar.specs.Sent.{bytes_of}
use Rattle.grammar.specs.Fits.{SectionsFit, Fitting, Reading}
use Rattle.chain.specs.Bytes.{Bytes}
use Rattle.demands.specs.Loader.{Idle, Mode}
use Rattle.writer.specs.Stream.{section_of}
use Rattle.chain.proofs.Bytes.{bytes_below}

abbrev pub teaching : Chain
teaching = record { count = 1; kinds = replicate 8 0; registers = replicate 8 0; place = closed_place }

abbrev pub cells0 : List ℕ
cells0 = replicate 52 0

abbrev pub window_a : Window
window_a = record { null = 0; start = 9; end = 11; bytes = 0x11 ∷ 0x22 ∷ 0x33 ∷ [] }

abbrev pub section_a : Section
section_a = section_of 0 (0 ∷ 0 ∷ 0 ∷ []) (window_a ∷ [])

abbrev pub stream_a : List ℕ
stream_a = 0xb2 ∷ 0 ∷ 0 ∷ 0 ∷ 0 ∷ 0xfe ∷ 0 ∷ 0 ∷ 9 ∷ 0 ∷ 11 ∷ 0x11 ∷ 0x22 ∷ 0x33 ∷ 0x4d ∷ []

pub zeros-bytes : (n : ℕ) → Bytes (replicate n 0)
zeros-bytes zero = tt
zeros-bytes (suc n) = (lit< tt, zeros-bytes n)

pub idle-teaching : Idle teaching cells0
unfolding state_number is_bad_chain is_ill_formed unused_zero is_well_formed known_of base_of size_of
idle-teaching =
    record { kinds = refl; registers = refl; register_bytes = zeros-bytes 8; memory_bytes = zeros-bytes 52; sound = refl; is_closed = refl }

pub mode-one : Mode 1
mode-one = record { least = omega arith; most = omega arith }

pub small_A : Bytes stream_a
small_A = bytes_below stream_a refl

pub sections_A : SectionsFit teaching 0 section_a []
unfolding size_of
sections_A = (omega arith, record { few = omega arith; fit = (record { order = omega arith; inside = omega arith; full = refl }, tt) })

pub bytes-A : bytes_of (stream_sent teaching 1 section_a []) ≡ stream_a
unfolding base_of
bytes-A = refl

abbrev pub reading_A : Reading teaching 1 stream_a
reading_A = record { first = section_a; others = []; fits = sections_A; bytes = bytes-A }

pub fits_A : (check : ℕ) → Fitting teaching check 1 section_a []
fits_A check =
    record {
      fits = sections_A;
      lets = record { b4 = refl; b3 = λ e. refl; sent_b3 = λ e. refl };
      bytes = unfold base_of in small_A;
    }
