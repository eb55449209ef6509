-- Start here: each sentence of the owner's three demands, the requests that have landed, and each loader that these shut out, with the statement
-- that says it and the theorem that has it. The statements stand in specs/; that `ours` is the code, Promised has for each call. Assumes nothing.
use Prim.Native.Nat.{ℕ, ◌<◌, ◌≤◌}
use mathlib.Core.Logic.{◌⊎◌}
use mathlib.Core.Path.{◌≡◌}
use mathlib.Core.List.{List, [], ◌∷◌, ◌++◌}
use lib.ListN.{length, take}
use Rattle.chain.specs.declared.Chain.{Chain}
use Rattle.chain.specs.Paper.{more}
use Rattle.chain.specs.Bytes.{Bytes}
use Rattle.closing.specs.Closing.{closing_bytes}
use Rattle.hunt.specs.declared.Hunted.{Hunted}
use Rattle.hunt.specs.Hunt.{nowhere, found_at, hunted_bytes}
use Rattle.hunt.proofs.CutShort.{hunt_cut}
use Rattle.grammar.specs.Sent.{bytes_of}
use Rattle.grammar.specs.Stream.{Section, stream_sent}
use Rattle.grammar.specs.Fits.{Fitting}
use Rattle.grammar.specs.Stores.{Put}
use Rattle.sheet.specs.Count.{cells_stored}
use Rattle.sheet.proofs.Times.{Inside}
use Rattle.sheet.proofs.Distinct.{Names, distinct}
use Rattle.eprom.specs.declared.Fetcher.{Fetcher}
use Rattle.eprom.specs.Calls.{FetcherNew}
use Rattle.demands.specs.Loader.{Loader, Idle, Open, Mode}
use Rattle.demands.specs.Demand1.{Demand1}
use Rattle.demands.specs.Demand2.{slices, joined, ran, Demand2a, Demand2e, Demand2f}
use Rattle.demands.specs.Files.{Demand2b, Demand2c}
use Rattle.demands.specs.Second.{Demand2}
use Rattle.demands.specs.Demand3.{Demand3}
use Rattle.demands.specs.WherePreamble.{Where, SaysWhere}
use Rattle.demands.specs.Shortest.{Amended, Shortest}
use Rattle.demands.specs.Patches.{PatchesExactly, Apart, AnyOrder, Stacked}
use Rattle.demands.specs.WrittenOnce.{WrittenAsOne}
use Rattle.demands.specs.OneFile.{KeepsTidy, AcceptedExactly, TidiesOnly, TidiesAll, OneFile, Twice, OnlyTidied}
use Rattle.demands.specs.OldDisks.{KeepsSalvage, InOrderExactly, AsMended, AsFarAsWhole, SoundAlways, MachineGives, OneList, OneStream, SameComesOut, EndsAccepted}
use Rattle.demands.specs.FetchTable.{FetchNumbers, FetchLeaves}
use Rattle.demands.specs.SheetTable.{KeepsSheet, SheetNumbers, SheetLeaves}
use Rattle.demands.specs.LoadSheets.{KeepsHand, Alone, ColumnSums, Within32, FiguresAmong, OneSheet}
use Rattle.demands.specs.EpromBoards.{KeepsFetch, KeepsCalls, FetchedAsFed, InParts, GoesOn, BootsHold}
use Rattle.demands.specs.EpromCounter.{StartsAt, CounterAsSaid, WithinBits, NeverBeyond}
use Rattle.demands.specs.EpromStreams.{HeldBoots}
use Rattle.demands.specs.Ours.{ours}
use Rattle.demands.specs.Cases.{table, All}
use Rattle.demands.specs.Wrong.{constant, idle, taking, undoing, eager, exclusive_end, plain_count, barring, check_writes, unloading, loading_first, earlier_wins, wiping, untidied, earlier_kept, touching_apart, announced_count, filled_up, taken_offset, accepted_alone, other_order, short_closing, offering, OlderAtEnd, OlderAtControl, offsets_from_first, left_before, counts_from_one, told_refused}
use Rattle.demands.specs.WrongFetch.{every_null, stale, upward, far_jump, never_home, shut_past, home_past}
use Rattle.demands.specs.WrongSheet.{refusing_sheets, filling_refused, wrapping_sum, every_store, stores_again, cells_for_bits, closing_counted, from_preamble, idle_accepted, reset_each, accepted_sums}
use Rattle.demands.proofs.Demand1.{demand1}
use Rattle.demands.proofs.Demand2.{demand2}
use Rattle.demands.proofs.Loads.TwelveCases.{twelve}
use Rattle.demands.proofs.Stops.StopsRight.{demand3}
use Rattle.demands.proofs.Stops.Amendments.{amended}
use Rattle.demands.proofs.Stops.ShortestWay.{shortest, shorter_goes_on}
use Rattle.demands.proofs.Patches.TwoLaws.{patches_exactly, apart, stacked}
use Rattle.demands.proofs.Patches.WrittenOnce.{written_as_one}
use Rattle.demands.proofs.Patches.TwoPatches.{any_order_out}
use Rattle.demands.proofs.Tidy.OneMeaning.{accepted_exactly, tidies_all}
use Rattle.demands.proofs.Tidy.OnlyAccepted.{tidies_only, tidy_kept}
use Rattle.demands.proofs.Tidy.NoOther.{only_tidied, one-file_each, twice}
use Rattle.demands.proofs.Salvage.SoundStream.{in_order_exactly, sound_always, salvage_kept}
use Rattle.demands.proofs.Salvage.AsFar.{as_far_as_whole}
use Rattle.demands.proofs.Salvage.MendedStream.{as_mended}
use Rattle.demands.proofs.Salvage.SameStream.{same_comes_out}
use Rattle.demands.proofs.Salvage.EndsAccepted.{ends-accepted}
use Rattle.demands.proofs.Salvage.AsMachine.{machine_gives}
use Rattle.demands.proofs.Salvage.OneList.{one_list, one_stream}
use Rattle.demands.proofs.Eprom.EveryLoader.{calls_kept, every_as_fed, every_in_parts, every_goes_on, every_boots, every_counter, every_held, every_within, every_beyond}
use Rattle.demands.proofs.Eprom.SeventeenBits.{starts-at}
use Rattle.demands.proofs.Boards.Kept.{fetch_kept, kept_numbers, kept_leaves}
use Rattle.demands.proofs.Boards.OnlyFetcher.{only_fetcher}
use Rattle.demands.proofs.Sheets.OnlySheet.{only_sheet}
use Rattle.demands.proofs.Sheets.Kept.{sheet_kept, sheet_numbers_kept, sheet_leaves-kept}
use Rattle.demands.proofs.Sheets.RowsByHand.{hand_kept, every_alone}
use Rattle.demands.proofs.Sheets.OneSheet.{columns_of, one_sheet}
use Rattle.demands.proofs.Sheets.Bounds.{within_32, figures_among}
use Rattle.demands.proofs.WherePreamble.{where_began, where_only}
use Rattle.demands.proofs.Wrong.Shut.{constant_out, idle_out, taken_out, per_slice_out}
use Rattle.demands.proofs.Wrong.Eager.{eager_out}
use Rattle.demands.proofs.Wrong.Readings.{exclusive_end_out, plain_count_out, barring_out, check_writes_out, unloading_out, loading_first_out, earlier_wins_out, undoing_out, short_closing_out, offsets_out}
use Rattle.demands.proofs.Wrong.OlderClosing.{older_end_out, older_control_out, nothing_out}
use Rattle.demands.proofs.Wrong.PatchOrders.{wiping-apart_out, wiping_stacked_out, barring_stacked_out, offsets-written_out}
use Rattle.demands.proofs.Wrong.Tidiers.{untidied_out, earlier_kept_out, touching_apart_out}
use Rattle.demands.proofs.Wrong.Salvagers.{announced_count_out, filled_up_out, taken_offset_out, accepted_alone_out, other_order_out}
use Rattle.demands.proofs.Wrong.Fetchers.{every_null_out, stale_out, upward_out, far_jump_out, never_home_out, shut_past_out, home_past_out}
use Rattle.demands.proofs.Wrong.Sheets.{refusing_sheets_out, filling_refused_out, wrapping_sum_out, every_store_out, stores_again_out, cells_for_bits_out, closing_counted_out, from_preamble_out, idle_accepted_out, reset_each_out, accepted_sums_out}
use Rattle.demands.proofs.Wrong.HuntFigures.{left_before_out, from_one_out, told_refused_out}

-- 1. 'It takes every byte string, mode, chain and saved place. Public calls ask nothing of the caller. Each refusal has its number in
-- document 01, given exactly under the condition there, and the state, memory and output it leaves are fixed.'
pub every_input : Demand1
every_input = demand1

-- 2. 'It loads and checks as the maker's AT6000 configuration guide says, in the reading of document 01' (a), (d), (e), (f), as document 02 amends
-- it. 'A stream written from a window list loads, where B4 was clear before, as those windows, later over earlier, and lists as the same
-- windows' (b); 'an accepted one-device stream, listed and written again, gives its own bytes up to its postamble, lead-in and null bytes
-- apart' (c)
pub loads_and_checks : Demand2 ours
loads_and_checks = demand2

-- 3. 'Take a stream that would load whole as a write into this chain and ends at its postamble, with bit B4 clear in every control byte. Stop
-- it after any number of bytes short of its end. Every cell that no data byte has reached holds its old value, every other the last byte sent
-- to it. The closing bytes we offer, sent next, end the run and change no cell and no control register. The same stream, started afresh in
-- the same mode, then leaves the memories and registers of an unbroken load.'
pub every_stop : Demand3 ours
every_stop = demand3

-- on a serial board the stop may come at any raw byte: what is hunted of a front part is a front part of what is hunted, or nothing
pub serial_stop : (s : List ℕ) (k : ℕ) → k ≤ length s
    → (found_at (take k s) ≡ nowhere) ⊎ (hunted_bytes (take k s) ≡ take (length (hunted_bytes (take k s))) (hunted_bytes s))
serial_stop s k l = hunt_cut s k l

-- Document 02, wish 4: 'The hunt shall also answer p and the number of bits left after the last whole byte, both 0 on a refusal.'
pub preamble_began : SaysWhere ours
preamble_began = where_began

-- and what is said leaves a loader no other p, left or length
pub began_once : (s : List ℕ) (g h : Hunted) → Where s g → Where s h → (g.p ≡ h.p) × (g.left ≡ h.left) × (g.length ≡ h.length)
began_once = where_only

-- Document 02, wish 5: 'From now on a check stores the control byte too, after the test for 7.' What a check of any bytes leaves, in any cut,
-- ended or not. CheckBars has one whose B4 bars the next run
pub check_leaves : Demand2f ours
check_leaves = demand2.f

-- Document 02, wish 8: 'For the byte at 11, send 00 when h equals the start's high byte and the start's low byte is not zero: the end is then below
-- start. In a check at 2, send 08 alone: number 7 ends it.' AmendedPlaces has each row at 11 by computation
pub amended_bytes : Amended ours
amended_bytes = amended

-- 'With both amendments prove that no shorter byte string, from the same open place and memory, ends the run with every cell and register as it
-- was.'
pub shortest_way : Shortest ours
shortest_way = shortest

-- and more than was asked for: fewer bytes leave the run open, whatever they change; so do the closing bytes before their last
pub fewer_go_on : (c : Chain) (m : List ℕ) → Open c m → (ps : List (List ℕ)) (last : List ℕ) → Bytes (joined ps ++ last)
    → length (joined ps ++ last) < length (closing_bytes c m) → (slices ours c m ps last).fed.answer.number ≡ more
fewer_go_on = shorter_goes_on

-- Document 02, wish 9: 'For one device and write streams that load whole and leave B4 clear', which are the patches,
pub all_patches : (l : Loader) → Demand2a l → Demand2e l → PatchesExactly l
all_patches = patches_exactly

-- 'two that share no cell leave the same memory in either order;' of every loader that meets clause (a)
pub patches_apart : (l : Loader) → Demand2a l → Apart l
patches_apart = apart

-- 'share no cell' is needed: TwoPatches has a pair that shares one, and there the order matters
pub no_cell_needed : (l : Loader) → Demand2a l → AnyOrder l → ⊥
no_cell_needed = any_order_out

-- 'S then T leaves the memory of one stream with S's windows, then T's, if 255 suffice.'
pub patches_stacked : (l : Loader) → Demand2a l → Stacked l
patches_stacked = stacked

-- and that stream is what the writer gives from the two listings put together
pub patches_written_once : (l : Loader) → Demand2a l → Demand2b l → Demand2c l → WrittenAsOne l
patches_written_once = written_as_one

-- so it is of ours
pub our_patches : PatchesExactly ours × Apart ours × Stacked ours × WrittenAsOne ours
our_patches = (
  all_patches ours demand2.a demand2.e,
  patches_apart ours demand2.a,
  patches_stacked ours demand2.a,
  patches_written_once ours demand2.a demand2.b demand2.c,
)

-- Document 02, wish 2: 'Add a tidier for accepted one-device streams in mode 1', which are those that one device loads whole,
pub all_accepted : (l : Loader) → Demand2a l → Demand2e l → AcceptedExactly l
all_accepted = accepted_exactly

-- and whatever is tidied begins with one. The numbers, 'the lister's, then 15', are in the first demand
pub only_accepted : (l : Loader) → KeepsTidy l → TidiesOnly l
only_accepted = tidies_only

-- 'Out come the windows ascending, disjoint, never touching, each cell with its last value, null bytes zero, control and external address kept.' The last
-- values are those that the stream leaves: both load alike, on every memory. 'And more windows than given are never needed'; an output as long as the
-- stream has room. Of every loader whose tidier keeps its promise and that meets clause (a)
pub stream_tidied : (l : Loader) → Demand2a l → KeepsTidy l → TidiesAll l
stream_tidied = tidies_all

-- and that leaves a tidier no other bytes. From here on of every loader that meets clause (a) and tidies so, whatever its tidier promises
pub no_other_bytes : (l : Loader) → Demand2a l → TidiesAll l → OnlyTidied l
no_other_bytes = only_tidied

-- 'Two streams tidy to equal bytes exactly when they agree in control byte, external address and their effect on every memory of that kind.'
pub one_meaning_one_file : (l : Loader) → Demand2a l → TidiesAll l → OneFile l
one_meaning_one_file = one-file_each

-- 'Tidying twice changes nothing'
pub tidied_twice : (l : Loader) → Demand2a l → TidiesAll l → Twice l
tidied_twice = twice

-- so it is of ours; ThreeFiles has files of one meaning and of two, by computation
pub our_tidier : KeepsTidy ours × AcceptedExactly ours × TidiesOnly ours × TidiesAll ours × OnlyTidied ours × OneFile ours × Twice ours
our_tidier =
    let tidies = stream_tidied ours demand2.a tidy_kept in (
      tidy_kept,
      all_accepted ours demand2.a demand2.e,
      only_accepted ours tidy_kept,
      tidies,
      no_other_bytes ours demand2.a tidies,
      one_meaning_one_file ours demand2.a tidies,
      tidied_twice ours demand2.a tidies,
    )

-- Document 02, wish 12: 'From a one-device mode 1 stream whose first six bytes are in order', and from nothing else. The numbers, '1 for the kind, 27 for
-- fewer than six bytes, 5 for the preamble, then 15', are in the first demand. Of every loader whose salvage keeps its promise
pub six_in_order : (l : Loader) → KeepsSalvage l → InOrderExactly l
six_in_order = in_order_exactly

-- 'Write a sound stream with the right count and 4D': the given bytes up to the told offset with that count and 4D are an accepted stream, and its bytes are
-- written, null bytes zeroed
pub stream_mended : (l : Loader) → KeepsSalvage l → AsMended l
stream_mended = as_mended

-- 'keep the whole windows before the first refused byte or the end': what is salvaged leaves the cells and registers that the stream itself had left up to the
-- byte after the last of them. From here on with clause (a)
pub as_far_as_kept : (l : Loader) → Demand2a l → KeepsSalvage l → AsFarAsWhole l
as_far_as_kept = as_far_as_whole

-- 'Loading the result stores exactly the kept windows.'
pub stream_sound : (l : Loader) → Demand2a l → KeepsSalvage l → SoundAlways l
stream_sound = sound_always

-- 'and a change list: windows kept, windows announced, offset of the byte after the last kept window (6 if none), and the number of the stream's end: 0, its
-- refusal or 16': what our machine gives. It leaves one list, of any loader
pub list_as_machine : MachineGives ours
list_as_machine = machine_gives

pub one_change_list : (l : Loader) → OneList l
one_change_list = one_list

-- and with that list one stream: no other bytes can be written
pub one_stream_only : (l : Loader) → OneStream l
one_stream_only = one_stream

-- 'An accepted stream comes out the same up to its postamble, null bytes zeroed.' With clause (c) it is what the writer writes from its listing
pub same_stream : (l : Loader) → Demand2a l → Demand2c l → KeepsSalvage l → SameComesOut l
same_stream = same_comes_out

-- and where the list says end 0, the stream begins with an accepted one
pub accepted_at_end : (l : Loader) → KeepsSalvage l → EndsAccepted l
accepted_at_end = ends-accepted

-- so it is of ours; BrokenStreams has streams that broke off, were refused and were accepted, by computation
pub our_salvage : KeepsSalvage ours × InOrderExactly ours × AsMended ours × AsFarAsWhole ours × SoundAlways ours × MachineGives ours × OneList ours
    × OneStream ours × SameComesOut ours × EndsAccepted ours
our_salvage = (
  salvage_kept,
  six_in_order ours salvage_kept,
  stream_mended ours salvage_kept,
  as_far_as_kept ours demand2.a salvage_kept,
  stream_sound ours demand2.a salvage_kept,
  list_as_machine,
  one_change_list ours,
  one_stream_only ours,
  same_stream ours demand2.a demand2.c salvage_kept,
  accepted_at_end ours salvage_kept,
)

-- Document 02, wish 1: 'A fetcher's 17-bit counter starts at 00000 (1FFFF in mode 2) and steps up by one each byte (down in mode 2), wrapping past either end.
-- If the first device's control byte sets B1, the counter takes the external address after that section's first null byte; with no windows there is no jump.
-- When a run ends, B0 of that control byte decides: clear resets the counter for that run's mode, set keeps its next value.' What each byte leaves, and
-- 'Refusals: 2, after 4, for any other mode; 17 for a lent counter above 1FFFF; 18 when the counter is not below the EPROM's length: no byte is taken, the
-- run stays open; 19 for a jump above 1FFFF, at the null byte, which counts as taken and closes the run', are rows of the first demand; here of every loader
-- whose fetch keeps its promise
pub each_byte : (l : Loader) → KeepsFetch l → FetchNumbers l × FetchLeaves l
each_byte l k = (kept_numbers l k, kept_leaves l k)

-- and they leave a loader no other fetch
pub no_other_fetch : (l : Loader) → FetchNumbers l → FetchLeaves l → KeepsFetch l
no_other_fetch = only_fetcher

-- 'A fetched run equals the machine fed with its bytes, 19 apart'. From here on of every loader whose start, slice, closing and fetch keep their promises
pub fed_with_its_bytes : (l : Loader) → KeepsCalls l → FetchedAsFed l
fed_with_its_bytes = every_as_fed

-- 'boot in modes 1, 2 and 5 from a parallel EPROM': so a stream that fits, and that the EPROM holds where its own bytes send the counter, is fetched and loads
pub held_streams_boot : (l : Loader) → KeepsCalls l → HeldBoots l
held_streams_boot = every_held

-- 'bytes fed directly, even those that end a run, and a reset leave the counter': to byte, slice and reset no fetcher is lent, as their types say. A run may
-- be fetched in parts;
pub run_in_parts : (l : Loader) → KeepsCalls l → InParts l
run_in_parts = every_in_parts

-- and with 18 'no byte is taken, the run stays open': where more bytes stand behind those that there were, it goes on
pub goes_on_past : (l : Loader) → KeepsCalls l → GoesOn l
goes_on_past = every_goes_on

-- 'Where demand 3 is read of a fetched stream, the fresh start is lent the counter that the stopped run began with.' Memories, registers and fetcher are then
-- those of the unbroken fetch
pub every_stop_fetched : (l : Loader) → KeepsCalls l → BootsHold l
every_stop_fetched = every_boots

-- 'Beside the saved place a stop keeps the counter, that device's control and address bytes (zero until taken) and whether its first null was taken.' This, and
-- where the counter goes and what a run's end does to it, read off the run's bytes alone
pub counter_as_bytes_say : (l : Loader) → KeepsCalls l → CounterAsSaid l
counter_as_bytes_say = every_counter

-- 'starts at 00000 (1FFFF in mode 2)': a new fetcher
pub counter_starts : (mode : ℕ) (f : Fetcher) → FetcherNew mode f → StartsAt mode f
counter_starts = starts-at

-- '17-bit': a counter never leaves them; 'an EPROM of up to 131,072 bytes': of a longer one the rest is never read
pub seventeen_bits : (l : Loader) → KeepsCalls l → WithinBits l × NeverBeyond l
seventeen_bits l k = (every_within l k, every_beyond l k)

-- so it is of ours; Jumps, JumpDown, ShortEproms and Wraps have EPROMs that show it, by computation
pub our_boards : KeepsCalls ours × FetchNumbers ours × FetchLeaves ours × FetchedAsFed ours × InParts ours × GoesOn ours × BootsHold ours × CounterAsSaid ours
    × HeldBoots ours × WithinBits ours × NeverBeyond ours
our_boards = (
  calls_kept,
  (each_byte ours fetch_kept).0,
  (each_byte ours fetch_kept).1,
  fed_with_its_bytes ours calls_kept,
  run_in_parts ours calls_kept,
  goes_on_past ours calls_kept,
  every_stop_fetched ours calls_kept,
  counter_as_bytes_say ours calls_kept,
  held_streams_boot ours calls_kept,
  (seventeen_bits ours calls_kept).0,
  (seventeen_bits ours calls_kept).1,
)

-- Document 02, wish 10: 'Exact totals over streams loaded in order into one reset device. Per stream, and as sums of these: bytes taken, data bytes, distinct
-- cells stored into, cells stored more than once, and bits of memory that differ before and after', and 'clock edges'. The row of each stream in its place in
-- the tables, the sums of the columns, and 'Refusals: 23, first, when there are over 65,536 lengths, they do not sum to the slice, or it is over 67,108,864
-- bytes; then 1, 2, 15', are rows of the first demand; here of every loader whose sheet keeps its promise
pub each_stream : (l : Loader) → KeepsSheet l → SheetNumbers l × SheetLeaves l
each_stream l k = (sheet_numbers_kept l k, sheet_leaves-kept l k)

-- and they leave a loader no other sheet
pub no_other_sheet : (l : Loader) → SheetNumbers l → SheetLeaves l → KeepsSheet l
no_other_sheet = only_sheet

-- 'Serial streams are hunted first. A stream that runs out is listed with 16, then closed by uncounted closing bytes; a refused one with its number and the
-- figures up to the refused byte.' Every row is what the loader's own calls give, of every loader whose hunt, start, slice, closing and sheet keep their promises
pub rows_by_hand : (l : Loader) → KeepsHand l → Alone l
rows_by_hand = every_alone

-- and rows so given, with the sums of their columns, leave no other sheet beside the same calls
pub one_by_hand : (l : Loader) → Alone l → SheetLeaves l → OneSheet l
one_by_hand l a h = one_sheet l a (columns_of l h)

-- 'distinct cells': as many as a list that names each of them once
pub distinct_cells : (size k : ℕ) (ps : List Put) (xs : List ℕ) → Inside size ps → 1 ≤ k → Names k ps xs → cells_stored size k ps ≡ length xs
distinct_cells = distinct

-- 'exact': nothing passes 32 bits
pub exact_totals : (l : Loader) → KeepsSheet l → Within32 l
exact_totals = within_32

-- and the figures of a row fit each other
pub figures_of_a_row : (l : Loader) → KeepsSheet l → FiguresAmong l
figures_of_a_row = figures_among

-- so it is of ours; OneMonth and SerialMonth have sheets with streams that were cut, refused, barred, empty or not found, by computation, and MonthsByHand
-- has them loaded by hand
pub our_sheet : KeepsHand ours × SheetNumbers ours × SheetLeaves ours × Alone ours × OneSheet ours × Within32 ours × FiguresAmong ours
our_sheet = (
  hand_kept,
  (each_stream ours sheet_kept).0,
  (each_stream ours sheet_kept).1,
  rows_by_hand ours hand_kept,
  one_by_hand ours (rows_by_hand ours hand_kept) (each_stream ours sheet_kept).1,
  exact_totals ours sheet_kept,
  figures_of_a_row ours sheet_kept,
)

-- The twelve cases of the paper, one table
pub twelve_cases : All 1 table
twelve_cases = twelve

-- Shut out of any loader: a count of bytes taken that is made up, wrong on some stream that fits, in some cut, with something after it.
-- Shut has the same of a front part, of mismatches, and of a rule that makes them up
pub made_up_count : (l : Loader) → Demand2 l → (c : Chain) (m : List ℕ) (check mode : ℕ) (s : Section) (ss : List Section) → Idle c m → Mode mode
    → Fitting c check mode s ss → (ps : List (List ℕ)) (b : ℕ) (last rest : List ℕ) → joined ps ++ (b ∷ last) ≡ bytes_of (stream_sent c mode s ss)
    → ((ran l check mode c m ps ((b ∷ last) ++ rest)).fed.answer.taken ≡ length (stream_sent c mode s ss) → ⊥) → ⊥
made_up_count l d = taken_out l d.a

-- Shut out by name: ours, with one call replaced
pub record ShutOut : Type 0 where
  -- a constant answer, and so refusing all; storing nothing; counting the bytes of the slice; taking back what a refused slice stored
  pub constant_answer : (n t w : ℕ) → Demand2 (constant n t w) → ⊥
  pub stores_nothing : Demand2 idle → ⊥
  pub counts_slice : Demand2 (taking (λ c m s. length s)) → ⊥
  pub undoes : Demand2 undoing → ⊥
  -- storing the whole window at its first byte, whatever is made up for the bytes to come: the stop
  pub stores_early : (f : Chain → List ℕ → ℕ → List ℕ) → Demand3 (eager f) → ⊥
  -- 'Easy to get wrong', in its order
  pub end_exclusive : Demand2 exclusive_end → ⊥
  pub count_plain : Demand2 plain_count → ⊥
  pub own_bar : Demand2 barring → ⊥
  pub writes_on_check : Demand2 check_writes → ⊥
  pub lets_earlier_win : Demand2 earlier_wins → ⊥
  -- document 02, wish 5: a check that loads nothing; a check that loads before the test for 7
  pub check_unloaded : Demand2 unloading → ⊥
  pub check_loads_first : Demand2 loading_first → ⊥
  -- closing bytes one short; offsets from the stream's first byte
  pub closing_short : Demand3 short_closing → ⊥
  pub offsets_first : Demand2 offsets_from_first → ⊥
  -- document 02, wish 8: document 01's closing bytes at 11, and at 2 in a check, whatever is offered elsewhere; none at all
  pub older_at_end : (f : Chain → List ℕ → List ℕ) → OlderAtEnd f → Shortest (offering f) → ⊥
  pub older_at_control : (f : Chain → List ℕ → List ℕ) → OlderAtControl f → Shortest (offering f) → ⊥
  pub offers_nothing : Shortest (offering (λ c m. [])) → ⊥
  -- document 02, wish 9: a memory emptied at each stream; B4 held against the one stream; data picked up one byte late
  pub wiping_apart : Apart wiping → ⊥
  pub wiping_stacked : Stacked wiping → ⊥
  pub own_bar_stacked : Stacked barring → ⊥
  pub offsets_written : WrittenAsOne offsets_from_first → ⊥
  -- document 02, wish 2: the stream given back as it came; of overlapping windows the earlier; touching windows left apart
  pub tidies_nothing : OneFile untidied → ⊥
  pub keeps_earlier : TidiesAll earlier_kept → ⊥
  pub leaves_touching : TidiesAll touching_apart → ⊥
  -- document 02, wish 12: the announced count; the window that is not whole, filled up; the bytes taken for the offset; accepted streams alone;
  -- two windows in the other order
  pub counts_announced : SoundAlways announced_count → ⊥
  pub fills_up : SoundAlways filled_up → ⊥
  pub offset_taken : MachineGives taken_offset → ⊥
  pub salvages_accepted : InOrderExactly accepted_alone → ⊥
  pub in_other_order : AsMended other_order → ⊥
  -- document 02, wish 1: a jump after every null byte; what the run before left, kept at a fresh start; counting up in mode 2; a jump above 1FFFF; the
  -- counter kept though B0 is clear; 18 that closes the run; 18 that puts the counter back
  pub jumps_every_null : FetchedAsFed every_null → ⊥
  pub keeps_stale : BootsHold stale → ⊥
  pub counts_up : FetchedAsFed upward → ⊥
  pub jumps_far : FetchNumbers far_jump → ⊥
  pub stays_from_home : FetchLeaves never_home → ⊥
  pub shuts_past : GoesOn shut_past → ⊥
  pub homes_past : GoesOn home_past → ⊥
  -- document 02, wish 10: one number for all, and so refusing all; lengths added modulo 2^32; a table written on a refusal; a cell once for each store;
  -- stores for cells stored more than once; cells for bits; closing bytes counted; p left out of the edges; no edges to idle for a stream that runs out; a
  -- reset before each stream; sums of accepted streams alone
  pub refuses_sheets : (n : ℕ) → SheetNumbers (refusing_sheets n) → ⊥
  pub wraps_lengths : SheetNumbers wrapping_sum → ⊥
  pub fills_refused : SheetLeaves filling_refused → ⊥
  pub counts_stores : SheetLeaves every_store → ⊥
  pub counts_again : Alone stores_again → ⊥
  pub takes_cells_for_bits : Alone cells_for_bits → ⊥
  pub counts_closing : SheetLeaves closing_counted → ⊥
  pub leaves_p_out : SheetLeaves from_preamble → ⊥
  pub idles_accepted : Alone idle_accepted → ⊥
  pub resets_each : SheetLeaves reset_each → ⊥
  pub sums_accepted : ColumnSums accepted_sums → ⊥
  -- the hunt: the bits before the preamble for those left; positions from 1; a position with a refusal
  pub tells_left_before : SaysWhere left_before → ⊥
  pub from_one : SaysWhere counts_from_one → ⊥
  pub tells_refused : SaysWhere told_refused → ⊥

pub shut_out : ShutOut
shut_out =
    record {
      constant_answer = λ n t w d. constant_out n t w d.a;
      stores_nothing = λ d. idle_out d.a;
      counts_slice = λ d. per_slice_out d.a;
      undoes = λ d. undoing_out d.d;
      stores_early = eager_out;
      end_exclusive = λ d. exclusive_end_out d.a;
      count_plain = λ d. plain_count_out d.a;
      own_bar = λ d. barring_out d.a;
      writes_on_check = λ d. check_writes_out d.f;
      lets_earlier_win = λ d. earlier_wins_out d.a;
      check_unloaded = λ d. unloading_out d.a;
      check_loads_first = λ d. loading_first_out d.d;
      closing_short = short_closing_out;
      offsets_first = λ d. offsets_out d.b;
      older_at_end = older_end_out;
      older_at_control = older_control_out;
      offers_nothing = nothing_out;
      wiping_apart = wiping-apart_out;
      wiping_stacked = wiping_stacked_out;
      own_bar_stacked = barring_stacked_out;
      offsets_written = offsets-written_out;
      tidies_nothing = untidied_out;
      keeps_earlier = earlier_kept_out;
      leaves_touching = touching_apart_out;
      counts_announced = announced_count_out;
      fills_up = filled_up_out;
      offset_taken = taken_offset_out;
      salvages_accepted = accepted_alone_out;
      in_other_order = other_order_out;
      jumps_every_null = every_null_out;
      keeps_stale = stale_out;
      counts_up = upward_out;
      jumps_far = far_jump_out;
      stays_from_home = never_home_out;
      shuts_past = shut_past_out;
      homes_past = home_past_out;
      refuses_sheets = refusing_sheets_out;
      wraps_lengths = wrapping_sum_out;
      fills_refused = filling_refused_out;
      counts_stores = every_store_out;
      counts_again = stores_again_out;
      takes_cells_for_bits = cells_for_bits_out;
      counts_closing = closing_counted_out;
      leaves_p_out = from_preamble_out;
      idles_accepted = idle_accepted_out;
      resets_each = reset_each_out;
      sums_accepted = accepted_sums_out;
      tells_left_before = left_before_out;
      from_one = from_one_out;
      tells_refused = told_refused_out;
    }
