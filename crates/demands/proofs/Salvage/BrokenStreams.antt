-- Old disks for the teaching array: a stream of two windows that breaks off in its second, ones whose second start or end is bad, ones with a bad check byte or
-- the preamble of a second device, one that was accepted, with null bytes that are not 00 and other bytes after it, and streams of no windows. What is salvaged
-- of each, by computation, and the claims of these. Assumes nothing.
use Prim.Native.Nat.{ℕ}
use mathlib.Core.Path.{◌≡◌, refl, ap, sym, subst}
use mathlib.Core.List.{List, [], ◌∷◌, ◌++◌}
use lib.ListN.{drop, take, replicate}
use lib.Seq.{sets}
use Rattle.chain.specs.Paper.{at_null, at_data, done, bad_chain, no_preamble, bad_check_byte, ends_here, last_device, bad_start, bad_end, too_short, more, no_head}
use Rattle.chain.specs.Kinds.{size_of, base_of, known_of}
use Rattle.chain.specs.State.{is_bad_chain, unused_zero, is_well_formed, is_ill_formed, state_number, feed_number}
use Rattle.chain.specs.Calls.{first_only, chain_number, new_of}
use Rattle.chain.proofs.Bytes.{bytes_below}
use Rattle.awaited.specs.Byte.{number_of, passed_of, advance_of}
use Rattle.machine.specs.Run.{address_of, memory_of, registers_of, missed_of, step_of, run_of}
use Rattle.machine.specs.Calls.{start_number, start_of, fed_of, slice_of, slice_memory}
use Rattle.reader.specs.Windows.{window_stop, read_window_of, windows_stop, windows_of}
use Rattle.reader.specs.Stream.{preamble_at, head_stop, check_stop, stream_stop}
use Rattle.reader.specs.Given.{given_of}
use Rattle.salvage.specs.declared.Salvaged.{Salvaged}
use Rattle.salvage.specs.Salvage.{offset_of, salvaged, salvage_number}
use Rattle.demands.specs.Loader.{AfterSalvage, rescued}
use Rattle.demands.specs.Demand2.{ran}
use Rattle.demands.specs.Patches.{Sending, left_by}
use Rattle.demands.specs.OneFile.{Accepted}
use Rattle.demands.specs.OldDisks.{Rescued, Welcomes, Sound, mended, Mended, fed_first, place_after, AsMachine, SameCells, ComesOut}
use Rattle.demands.specs.Ours.{ours}
use Rattle.demands.proofs.Loads.StreamA.{teaching}
use Rattle.demands.proofs.Loads.FittingLoads.{second_a}
use Rattle.demands.proofs.Files.AcceptedAgain.{second_c}
use Rattle.demands.proofs.Patches.TwoPatches.{parked, device, once}
use Rattle.demands.proofs.Tidy.ThreeFiles.{stream_p, accepted_p}
use Rattle.demands.proofs.Salvage.SoundStream.{sound_always, salvage_kept}
use Rattle.demands.proofs.Salvage.SameStream.{same_comes_out}
use Rattle.demands.proofs.Salvage.EndsAccepted.{ends-accepted}
use Rattle.demands.proofs.Salvage.MendedStream.{as_mended}
use Rattle.demands.proofs.Salvage.AsFar.{as_far_as_whole}
use Rattle.demands.proofs.Salvage.AsMachine.{machine_gives}

-- ---- the streams

-- with the control byte 11, whose B4 is set, and the address 01 02 03: two windows announced, and the first, cells 9 to 11
abbrev pub whole_part : List ℕ
whole_part = 0xb2 ∷ 0x11 ∷ 0x01 ∷ 0x02 ∷ 0x03 ∷ 0xfd ∷ 0xaa ∷ 0 ∷ 9 ∷ 0 ∷ 11 ∷ 0x31 ∷ 0x32 ∷ 0x33 ∷ []

-- the second is of cells 20 to 22, and has data for two of them
abbrev pub cut_short : List ℕ
cut_short = whole_part ++ (0x55 ∷ 0 ∷ 20 ∷ 0 ∷ 22 ∷ 0x71 ∷ 0x72 ∷ [])

-- the second begins at 52, which is no cell; or ends there
abbrev pub bad_start_stream : List ℕ
bad_start_stream = whole_part ++ (0x55 ∷ 0 ∷ 52 ∷ 0 ∷ 52 ∷ 0x71 ∷ 0x4d ∷ [])

abbrev pub bad_end_stream : List ℕ
bad_end_stream = whole_part ++ (0x55 ∷ 0 ∷ 51 ∷ 0 ∷ 52 ∷ 0x71 ∷ 0x72 ∷ 0x4d ∷ [])

-- no windows are announced, whatever follows
abbrev without_windows : List ℕ → List ℕ
without_windows after = 0xb2 ∷ 0x11 ∷ 0x01 ∷ 0x02 ∷ 0x03 ∷ 0xff ∷ after

-- one is announced, and has a bad start
abbrev none_whole : List ℕ
none_whole = 0xb2 ∷ 0x11 ∷ 0x01 ∷ 0x02 ∷ 0x03 ∷ 0xfe ∷ 0xaa ∷ 0 ∷ 52 ∷ []

-- ---- what is salvaged

abbrev pub roomy : List ℕ
roomy = replicate 40 0xee

abbrev list : ℕ → ℕ → ℕ → ℕ → ℕ → Salvaged
list kept announced end offset length =
    record { number = done; kept = kept; announced = announced; end = end; offset = offset; length = length }

-- the first window alone, its null byte 00
abbrev pub first_alone : List ℕ
first_alone = 0xb2 ∷ 0x11 ∷ 0x01 ∷ 0x02 ∷ 0x03 ∷ 0xfe ∷ 0x00 ∷ 0 ∷ 9 ∷ 0 ∷ 11 ∷ 0x31 ∷ 0x32 ∷ 0x33 ∷ 0x4d ∷ []

-- one of two, up to byte 14; used up
pub of_cut : ours.salvage 0 cut_short roomy ≡ record { salvaged = list 1 2 more 14 15; out = first_alone ++ replicate 25 0xee }
unfolding size_of preamble_at head_stop check_stop stream_stop window_stop read_window_of windows_stop windows_of given_of offset_of salvaged salvage_number
of_cut = refl

-- the same, with the stream's own refusal
pub of_bad_start : ours.salvage 0 bad_start_stream roomy ≡ record { salvaged = list 1 2 bad_start 14 15; out = first_alone ++ replicate 25 0xee }
unfolding size_of preamble_at head_stop check_stop stream_stop window_stop read_window_of windows_stop windows_of given_of offset_of salvaged salvage_number
of_bad_start = refl

pub of_bad_end : ours.salvage 0 bad_end_stream roomy ≡ record { salvaged = list 1 2 bad_end 14 15; out = first_alone ++ replicate 25 0xee }
unfolding size_of preamble_at head_stop check_stop stream_stop window_stop read_window_of windows_stop windows_of given_of offset_of salvaged salvage_number
of_bad_end = refl

-- all of one, but no 4D
abbrev bad_check : List ℕ
bad_check = take 14 first_alone ++ (0x4c ∷ [])

pub of_bad_check : ours.salvage 0 bad_check roomy ≡ record { salvaged = list 1 1 bad_check_byte 14 15; out = first_alone ++ replicate 25 0xee }
unfolding size_of preamble_at head_stop check_stop stream_stop window_stop read_window_of windows_stop windows_of given_of offset_of salvaged salvage_number
of_bad_check = refl

-- or the preamble of a second device, where there is none: 10, and with bit 2 of the control byte set 9
abbrev second_device : ℕ → List ℕ
second_device control = 0xb2 ∷ control ∷ drop 2 (take 14 first_alone) ++ (0xb2 ∷ 0x00 ∷ [])

pub of_last_device : ours.salvage 0 (second_device 0x11) roomy ≡ record { salvaged = list 1 1 last_device 14 15; out = first_alone ++ replicate 25 0xee }
unfolding size_of preamble_at head_stop check_stop stream_stop window_stop read_window_of windows_stop windows_of given_of offset_of salvaged salvage_number
of_last_device = refl

pub of_ends_here : ours.salvage 0 (second_device 0x15) roomy
    ≡ record { salvaged = list 1 1 ends_here 14 15; out = 0xb2 ∷ 0x15 ∷ drop 2 first_alone ++ replicate 25 0xee }
unfolding size_of preamble_at head_stop check_stop stream_stop window_stop read_window_of windows_stop windows_of given_of offset_of salvaged salvage_number
of_ends_here = refl

-- none: the head, and 4D; in an output just as long
pub of_none_whole : ours.salvage 0 none_whole (replicate 7 0) ≡ record { salvaged = list 0 1 bad_start 6 7; out = without_windows (0x4d ∷ []) }
unfolding size_of preamble_at head_stop check_stop stream_stop window_stop read_window_of windows_stop windows_of given_of offset_of salvaged salvage_number
of_none_whole = refl

pub of_head : ours.salvage 0 (without_windows []) (replicate 7 0) ≡ record { salvaged = list 0 0 more 6 7; out = without_windows (0x4d ∷ []) }
unfolding size_of preamble_at head_stop check_stop stream_stop window_stop read_window_of windows_stop windows_of given_of offset_of salvaged salvage_number
of_head = refl

pub of_no_windows : ours.salvage 0 (without_windows (0x4d ∷ 0x00 ∷ [])) (replicate 7 0)
    ≡ record { salvaged = list 0 0 done 6 7; out = without_windows (0x4d ∷ []) }
unfolding size_of preamble_at head_stop check_stop stream_stop window_stop read_window_of windows_stop windows_of given_of offset_of salvaged salvage_number
of_no_windows = refl

-- an accepted stream, with a preamble and 00 after it: its own bytes, null bytes 00
abbrev pub accepted : List ℕ
accepted = stream_p ++ (0xb2 ∷ 0x00 ∷ [])

abbrev pub zero_nulls : List ℕ
zero_nulls =
    0xb2 ∷ 0x11 ∷ 0x01 ∷ 0x02 ∷ 0x03 ∷ 0xfb
    ∷ 0x00 ∷ 0 ∷ 30 ∷ 0 ∷ 31 ∷ 0x71 ∷ 0x72
    ∷ 0x00 ∷ 0 ∷ 12 ∷ 0 ∷ 14 ∷ 0x41 ∷ 0x42 ∷ 0x43
    ∷ 0x00 ∷ 0 ∷ 9 ∷ 0 ∷ 11 ∷ 0x31 ∷ 0x32 ∷ 0x33
    ∷ 0x00 ∷ 0 ∷ 14 ∷ 0 ∷ 15 ∷ 0x54 ∷ 0x55
    ∷ 0x4d ∷ []

pub of_accepted : ours.salvage 0 accepted roomy ≡ record { salvaged = list 4 4 done 36 37; out = zero_nulls ++ replicate 3 0xee }
unfolding size_of preamble_at head_stop check_stop stream_stop window_stop read_window_of windows_stop windows_of given_of offset_of salvaged salvage_number
of_accepted = refl

-- ---- refused: an unknown kind; five bytes, whatever they are, and none; no preamble; an output one byte short, as long as a head that has nothing after it

abbrev refusing : ℕ → AfterSalvage
refusing n = record { salvaged = record { number = n; kept = 0; announced = 0; end = 0; offset = 0; length = 0 }; out = roomy }

pub refused-kind : ours.salvage 1 cut_short roomy ≡ refusing bad_chain
unfolding size_of salvage_number
refused-kind = refl

pub refused_five : ours.salvage 0 (take 5 cut_short) roomy ≡ refusing no_head
unfolding size_of salvage_number
refused_five = refl

pub refused_five_others : ours.salvage 0 (0x00 ∷ take 4 (drop 1 cut_short)) roomy ≡ refusing no_head
unfolding size_of salvage_number
refused_five_others = refl

pub refused-empty : ours.salvage 0 [] roomy ≡ refusing no_head
unfolding size_of salvage_number
refused-empty = refl

pub refused-preamble : ours.salvage 0 (0xb3 ∷ drop 1 cut_short) roomy ≡ refusing no_preamble
unfolding size_of salvage_number
refused-preamble = refl

pub refused_room : (ours.salvage 0 (without_windows []) (replicate 6 0)).salvaged.number ≡ too_short
unfolding size_of window_stop read_window_of windows_of given_of salvaged salvage_number
refused_room = refl

-- ---- what the machine makes of the one cut short: at byte 14 it awaits the null byte of the last of two; at its end, the last data byte

pub between-windows : ((fed_first ours 0 cut_short 14).fed.answer.number ≡ more)
    × ((place_after ours 0 cut_short 14).awaited ≡ at_null) × ((place_after ours 0 cut_short 14).left ≡ 1)
unfolding size_of base_of known_of is_bad_chain unused_zero is_well_formed is_ill_formed state_number feed_number first_only chain_number new_of number_of passed_of advance_of address_of memory_of registers_of missed_of step_of run_of start_number start_of fed_of slice_of slice_memory
between-windows = (refl, refl, refl)

pub within-window : ((fed_first ours 0 cut_short 21).fed.answer.number ≡ more)
    × ((place_after ours 0 cut_short 21).awaited ≡ at_data) × ((place_after ours 0 cut_short 21).left ≡ 1)
unfolding size_of base_of known_of is_bad_chain unused_zero is_well_formed is_ill_formed state_number feed_number first_only chain_number new_of number_of passed_of advance_of address_of memory_of registers_of missed_of step_of run_of start_number start_of fed_of slice_of slice_memory
within-window = (refl, refl, refl)

-- ---- the cells: the stream cut short leaves two of its broken window; what is salvaged, and the stream up to byte 14, leave the whole one alone

pub cells_cut : (ran ours 0 1 teaching parked [] cut_short).memory ≡ sets (sets parked 9 (0x31 ∷ 0x32 ∷ 0x33 ∷ [])) 20 (0x71 ∷ 0x72 ∷ [])
unfolding size_of base_of known_of is_bad_chain unused_zero is_well_formed is_ill_formed state_number feed_number number_of passed_of advance_of address_of memory_of registers_of missed_of step_of run_of start_number start_of fed_of slice_of slice_memory
cells_cut = refl

pub cells_whole : (ran ours 0 1 teaching parked [] whole_part).memory ≡ sets parked 9 (0x31 ∷ 0x32 ∷ 0x33 ∷ [])
unfolding size_of base_of known_of is_bad_chain unused_zero is_well_formed is_ill_formed state_number feed_number number_of passed_of advance_of address_of memory_of registers_of missed_of step_of run_of start_number start_of fed_of slice_of slice_memory
cells_whole = refl

pub cells-salvaged : (left_by ours teaching parked (once 1 0xb2 (drop 1 first_alone))).memory ≡ sets parked 9 (0x31 ∷ 0x32 ∷ 0x33 ∷ [])
unfolding size_of base_of known_of is_bad_chain unused_zero is_well_formed is_ill_formed state_number feed_number number_of passed_of advance_of address_of memory_of registers_of missed_of step_of run_of start_number start_of fed_of slice_of slice_memory
cells-salvaged = refl

-- ---- the claims, of these

pub welcomes : Welcomes 0 teaching parked
welcomes = record { idle = device.idle; first = refl; clear = refl }

pub done-cut : Rescued (ours.salvage 0 cut_short roomy)
done-cut = ap (λ (w : AfterSalvage). w.salvaged.number) of_cut

pub sound_holds : Sound ours 0 cut_short roomy (ours.salvage 0 cut_short roomy)
sound_holds = sound_always ours second_a salvage_kept 0 cut_short roomy (bytes_below cut_short refl) done-cut

-- its first window as it stood, the count for one, and 4D
pub mended-cut : mended cut_short (ours.salvage 0 cut_short roomy).salvaged ≡ take 5 whole_part ++ (0xfe ∷ drop 6 whole_part) ++ (0x4d ∷ [])
mended-cut = ap (λ (w : AfterSalvage). mended cut_short w.salvaged) of_cut

pub mended-holds : Mended teaching cut_short (ours.salvage 0 cut_short roomy)
mended-holds = as_mended ours salvage_kept teaching parked cut_short roomy device (bytes_below cut_short refl) done-cut

pub machine-holds : AsMachine ours 0 bad_start_stream (list 1 2 bad_start 14 15)
machine-holds =
    subst (λ (w : AfterSalvage). AsMachine ours 0 bad_start_stream w.salvaged) of_bad_start
    (machine_gives 0 bad_start_stream roomy (bytes_below bad_start_stream refl) (ap (λ (w : AfterSalvage). w.salvaged.number) of_bad_start))

-- sent in three slices up to byte 14
abbrev cut_front : List (List ℕ)
cut_front = (0xb2 ∷ []) ∷ (take 9 (drop 1 whole_part)) ∷ []

pub as_far_holds : (x : Sending 1 (rescued (ours.salvage 0 cut_short roomy)))
    → SameCells ours (ours.salvage 0 cut_short roomy) teaching parked cut_front (drop 10 whole_part) x
as_far_holds =
    as_far_as_whole ours second_a salvage_kept 0 cut_short roomy (bytes_below cut_short refl) done-cut teaching parked welcomes cut_front (drop 10 whole_part)
    (ap (λ (w : AfterSalvage). take w.salvaged.offset cut_short) (sym of_cut))

pub same-holds : ComesOut ours accepted_p (0xb2 ∷ 0x00 ∷ []) roomy (ours.salvage 0 accepted roomy)
same-holds =
    same_comes_out ours second_a second_c salvage_kept teaching parked stream_p device accepted_p (0xb2 ∷ 0x00 ∷ []) roomy
    (bytes_below (0xb2 ∷ 0x00 ∷ []) refl)

pub ends-holds : (n : ℕ) × Accepted teaching (take n accepted)
ends-holds =
    ends-accepted ours salvage_kept teaching parked accepted roomy device (bytes_below accepted refl)
    (ap (λ (w : AfterSalvage). w.salvaged.number) of_accepted) (ap (λ (w : AfterSalvage). w.salvaged.end) of_accepted)
