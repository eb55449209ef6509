-- Places where wish 8 amends the closing bytes, what is offered there, and the number that ends the run, by computation: at 2 in a check, and at 11
-- by each of its rows. They are instances of the open runs of which Shortest speaks. Assumes nothing.
use Prim.Native.Nat.{ℕ}
use mathlib.Core.Path.{◌≡◌, refl}
use mathlib.Core.List.{List, [], ◌∷◌}
use lib.ListN.{length, replicate}
use Rattle.chain.specs.declared.Chain.{Chain}
use Rattle.chain.specs.declared.Place.{Place}
use Rattle.chain.specs.Paper.{opened, writing, checking, at_control, at_end_low, done, no_check, bad_end}
use Rattle.chain.specs.Set.{with_running, with_mode, with_check, with_awaited, with_left, with_start, with_end, with_taken, with_place, closed_place}
use Rattle.chain.specs.Kinds.{size_of, base_of, known_of}
use Rattle.chain.specs.State.{is_bad_chain, unused_zero, is_well_formed, is_ill_formed, feed_number}
use Rattle.awaited.specs.Byte.{number_of, passed_of, advance_of}
use Rattle.machine.specs.Run.{address_of, memory_of, registers_of, missed_of, step_of, run_of}
use Rattle.machine.specs.Calls.{fed_of, slice_of, slice_memory}
use Rattle.closing.specs.Closing.{closing_bytes}
use Rattle.closing.specs.Calls.{written_number}
use Rattle.demands.specs.Loader.{offered, Open}
use Rattle.demands.specs.Ours.{ours}
use Rattle.demands.proofs.Loads.StreamA.{zeros-bytes, teaching, cells0}

-- an open run of that sort in mode 1, after n bytes
abbrev stopped : ℕ → ℕ → ℕ → Place
stopped check awaited n = with_taken (with_awaited (with_check (with_mode (with_running closed_place opened) 1) check) awaited) n

-- the place is open, these bytes are offered, and sent they end the run with n
pub record Offers (c : Chain) (m bytes : List ℕ) (n : ℕ) : Type 0 where
  pub is_open : Open c m
  pub bytes_are : offered (ours.closing c m (replicate 9 0)) ≡ bytes
  pub ends_with : (ours.slice c m bytes).fed.answer.number ≡ n

-- ---- at 2, the teaching array in a check

abbrev pub two : Chain
two = with_place teaching (stopped checking at_control 1)

pub at-two : Offers two cells0 (0x08 ∷ []) no_check
unfolding size_of base_of known_of is_bad_chain unused_zero is_well_formed is_ill_formed feed_number number_of passed_of advance_of address_of memory_of registers_of missed_of step_of run_of fed_of slice_of slice_memory closing_bytes written_number
at-two =
    record {
      is_open = record { kinds = refl; registers = refl; register_bytes = zeros-bytes 8; memory_bytes = zeros-bytes 52; sound = refl };
      bytes_are = refl;
      ends_with = refl;
    }

-- ---- at 11, a write into one device of kind 2, in its only window; the end's high byte is there

abbrev pub eleven : ℕ → ℕ → Chain
eleven start end =
    record {
      count = 1;
      kinds = 2 ∷ replicate 7 0;
      registers = replicate 8 0;
      place = with_end (with_start (with_left (stopped writing at_end_low 10) 1) start) end;
    }

abbrev pub cells2 : List ℕ
cells2 = replicate 2665 0

-- every field of such a place computes
here : (start end : ℕ) (bytes : List ℕ) (n : ℕ) → feed_number (eleven start end) (length cells2) ≡ done
    → offered (ours.closing (eleven start end) cells2 (replicate 9 0)) ≡ bytes → (ours.slice (eleven start end) cells2 bytes).fed.answer.number ≡ n
    → Offers (eleven start end) cells2 bytes n
here start end bytes n o e f =
    record {
      is_open = record { kinds = refl; registers = refl; register_bytes = zeros-bytes 8; memory_bytes = zeros-bytes 2665; sound = o };
      bytes_are = e;
      ends_with = f;
    }

-- 00 alone where h is the start's and the start's low byte is not zero, also for the last h, where FF would be refused too; FF alone where h is below the
-- start's, and for the last h, where it is past the size; else 00, the cells up to 256h and 4D: h is the start's, whose low byte is zero, and h is one
-- above
pub record AtEleven : Type 0 where
  pub below : Offers (eleven 0x0009 0x0000) cells2 (0x00 ∷ []) bad_end
  pub below_last : Offers (eleven 0x0a09 0x0a00) cells2 (0x00 ∷ []) bad_end
  pub past_start : Offers (eleven 0x0109 0x0000) cells2 (0xff ∷ []) bad_end
  pub past_size : Offers (eleven 0x0009 0x0a00) cells2 (0xff ∷ []) bad_end
  pub one_cell : Offers (eleven 0x0100 0x0100) cells2 (0x00 ∷ 0x00 ∷ 0x4d ∷ []) done
  pub one-above : Offers (eleven 0x00ff 0x0100) cells2 (0x00 ∷ 0x00 ∷ 0x00 ∷ 0x4d ∷ []) done

pub at-eleven : AtEleven
unfolding size_of base_of known_of is_bad_chain unused_zero is_well_formed is_ill_formed feed_number number_of passed_of advance_of address_of memory_of registers_of missed_of step_of run_of fed_of slice_of slice_memory closing_bytes written_number
at-eleven =
    record {
      below = here 0x0009 0x0000 (0x00 ∷ []) bad_end refl refl refl;
      below_last = here 0x0a09 0x0a00 (0x00 ∷ []) bad_end refl refl refl;
      past_start = here 0x0109 0x0000 (0xff ∷ []) bad_end refl refl refl;
      past_size = here 0x0009 0x0a00 (0xff ∷ []) bad_end refl refl refl;
      one_cell = here 0x0100 0x0100 (0x00 ∷ 0x00 ∷ 0x4d ∷ []) done refl refl refl;
      one-above = here 0x00ff 0x0100 (0x00 ∷ 0x00 ∷ 0x00 ∷ 0x4d ∷ []) done refl refl refl;
    }
