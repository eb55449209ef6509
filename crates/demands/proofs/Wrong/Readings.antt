-- Wrong readings, each shut out by a demand: for each line of 'Easy to get wrong' any loader that reads it so, and one by name; then the
-- registers of a check, a slice undone, closing bytes and offsets. Assumes nothing.
use Prim.Native.Nat.{ℕ, ◌<◌, ◌≤◌}
use mathlib.Core.Bool.{true, false, true≢false}
use mathlib.Core.Path.{◌≡◌, refl, ap, sym, ◌∙◌}
use mathlib.Core.List.{List, [], ◌∷◌, ◌++◌}
use native.Mathlib.Omega.{arith}
use lib.Dec.{eqb, lit<}
use lib.ListN.{length, get_or, replicate}
use Rattle.chain.specs.declared.Chain.{Chain}
use Rattle.chain.specs.Paper.{writing, checking, barred, done, more, B3}
use Rattle.chain.specs.Set.{closed_place}
use Rattle.chain.specs.Kinds.{size_of, base_of, known_of}
use Rattle.chain.specs.State.{is_bad_chain, unused_zero, is_well_formed, is_ill_formed, state_number, feed_number}
use Rattle.awaited.specs.Byte.{number_of, passed_of, advance_of}
use Rattle.machine.specs.Run.{address_of, memory_of, registers_of, missed_of, step_of, run_of}
use Rattle.machine.specs.Calls.{start_number, start_of, fed_of, slice_of, slice_memory}
use Rattle.writer.specs.Stream.{lead_in, stream_of, section_of}
use Rattle.writer.specs.Write.{windows_number, sum_of, number_of as writeNumber-of, write_number}
use Rattle.reader.specs.Windows.{window_stop, read_window_of, windows_stop, windows_of}
use Rattle.reader.specs.Stream.{preamble_at, head_stop, check_stop, stream_stop}
use Rattle.lister.specs.Listing.{list_stop, listed_of, listing_of}
use Rattle.closing.specs.Closing.{closing_bytes}
use Rattle.closing.specs.Calls.{written_number}
use Rattle.grammar.specs.Stream.{Window, Section, stream_sent}
use Rattle.chain.specs.Bytes.{Bytes}
use Rattle.grammar.specs.Sent.{bytes_of}
use Rattle.demands.specs.Loader.{Loader, Idle, Mode}
use Rattle.grammar.specs.Fits.{Fitting}
use Rattle.demands.specs.Demand2.{joined, ran, Demand2a, Demand2d, Demand2e, Demand2f}
use Rattle.demands.specs.Demand3.{Whole, Demand3}
use Rattle.demands.specs.Files.{Demand2b}
use Rattle.grammar.specs.Tables.{starts, offsets, windows_from}
use Rattle.demands.specs.Ours.{ours}
use Rattle.demands.specs.Wrong.{undoing, exclusive_end, plain_count, barring, check_writes, unloading, loading_first, earlier_wins, short_closing, offsets_from_first}
use Rattle.grammar.proofs.FitsAccepted.{first_lets}
use Rattle.demands.proofs.Loads.StreamA.{teaching, cells0, window_a, section_a, zeros-bytes, idle-teaching, mode-one, fits_A, stream_a, small_A, reading_A}
use Rattle.demands.proofs.Loads.OneSlice.{whole_seen}
use Rattle.chain.proofs.Bytes.{bytes_below}

-- ---- an end taken as exclusive: A then leaves cell 11

pub exclusive_out : (l : Loader) → Demand2a l → get_or (ran l writing 1 teaching cells0 [] stream_a).memory 11 0 ≡ get_or cells0 11 0 → ⊥
unfolding base_of
exclusive_out l d h =
    let e : ◌≡◌ {A = ℕ} 0 0x33 = sym h ∙ (whole_seen l d teaching cells0 writing 1 section_a [] idle-teaching mode-one (fits_A writing)).cells 11 (lit< tt) in
    omega arith

pub exclusive_end_out : Demand2a exclusive_end → ⊥
unfolding size_of base_of known_of is_bad_chain unused_zero is_well_formed is_ill_formed state_number feed_number number_of passed_of advance_of address_of memory_of registers_of missed_of step_of run_of start_number start_of fed_of slice_of slice_memory
exclusive_end_out d = exclusive_out exclusive_end d refl

-- ---- a plain count: FE is read as 254 windows, and A is not yet at its end

pub plain_out : (l : Loader) → Demand2a l → (ran l writing 1 teaching cells0 [] stream_a).fed.answer.number ≡ more → ⊥
unfolding base_of
plain_out l d h =
    let e : ◌≡◌ {A = ℕ} 16 0 = sym h ∙ (whole_seen l d teaching cells0 writing 1 section_a [] idle-teaching mode-one (fits_A writing)).number in
    omega arith

pub plain_count_out : Demand2a plain_count → ⊥
unfolding size_of base_of known_of is_bad_chain unused_zero is_well_formed is_ill_formed state_number feed_number number_of passed_of advance_of address_of memory_of registers_of missed_of step_of run_of start_number start_of fed_of slice_of slice_memory
plain_count_out d = plain_out plain_count d refl

-- ---- B4 applied to the stream that sets it

abbrev section_c : Section
section_c = section_of 0x10 (0 ∷ 0 ∷ 0 ∷ []) []

fits_C : (check : ℕ) → Fitting teaching check 1 section_c []
unfolding size_of
fits_C check =
    record {
      fits = (omega arith, record { few = omega arith; fit = tt });
      lets = record { b4 = refl; b3 = λ e. refl; sent_b3 = λ e. refl };
      bytes = unfold base_of in bytes_below (bytes_of (stream_sent teaching 1 section_c [])) refl;
    }

pub own_bar_out : (l : Loader) → Demand2a l → (n : ℕ) → (n ≡ done → ⊥)
    → (ran l writing 1 teaching cells0 [] (0xb2 ∷ 0x10 ∷ 0 ∷ 0 ∷ 0 ∷ 0xff ∷ 0x4d ∷ [])).fed.answer.number ≡ n → ⊥
unfolding base_of
own_bar_out l d n h e = h (sym e ∙ (whole_seen l d teaching cells0 writing 1 section_c [] idle-teaching mode-one (fits_C writing)).number)

pub barring_out : Demand2a barring → ⊥
unfolding size_of base_of known_of is_bad_chain unused_zero is_well_formed is_ill_formed state_number feed_number number_of passed_of advance_of address_of memory_of registers_of missed_of step_of run_of start_number start_of fed_of slice_of slice_memory
barring_out d = own_bar_out barring d barred (λ q. omega arith) refl

-- ---- a check that writes: whatever the bits, the bytes and the answer

pub check_stores_out : (l : Loader) → Demand2f l → (c : Chain) (m : List ℕ) (check mode : ℕ) (ps : List (List ℕ)) (last : List ℕ) → Idle c m → Mode mode
    → Bytes (joined ps ++ last) → eqb check writing ≡ false → ((ran l check mode c m ps last).memory ≡ m → ⊥) → ⊥
check_stores_out l d c m check mode ps last i o u e h = h (d c m check mode ps last i o u e).cells

-- and one that is accepted where B3 is stored: here it is 7
pub check_accepts_out : (l : Loader) → Demand2e l → (c : Chain) (m : List ℕ) (check mode : ℕ) (ps : List (List ℕ)) (last : List ℕ) → Idle c m → Mode mode
    → Bytes (joined ps ++ last) → eqb check writing ≡ false → B3 (get_or c.registers 0 0) ≡ true → (ran l check mode c m ps last).fed.answer.number ≡ done → ⊥
check_accepts_out l d c m check mode ps last i o u e b z =
    let k = d c m check mode ps last i o u z in
    let x = k.reading in
    true≢false (sym b ∙ (first_lets check c.registers 0 x.first x.others (k.lets x)).b3 e)

-- the teaching array with B3 stored
abbrev disabled : Chain
disabled = record { count = 1; kinds = replicate 8 0; registers = 0x08 ∷ replicate 7 0; place = closed_place }

idle-disabled : Idle disabled cells0
unfolding state_number is_bad_chain is_ill_formed unused_zero is_well_formed known_of base_of size_of
idle-disabled =
    record { kinds = refl; registers = refl; register_bytes = (lit< tt, zeros-bytes 7); memory_bytes = zeros-bytes 52; sound = refl; is_closed = refl }

pub check_writes_out : Demand2f check_writes → ⊥
unfolding size_of base_of known_of is_bad_chain unused_zero is_well_formed is_ill_formed state_number feed_number number_of passed_of advance_of address_of memory_of registers_of missed_of step_of run_of start_number start_of fed_of slice_of slice_memory
check_writes_out d =
    let e : ◌≡◌ {A = ℕ} 0x11 0 = ap (λ (x : List ℕ). get_or x 9 0) (d disabled cells0 checking 1 [] stream_a idle-disabled mode-one small_A refl).cells in
    omega arith

pub check_writes_accepts_out : Demand2e check_writes → ⊥
unfolding size_of base_of known_of is_bad_chain unused_zero is_well_formed is_ill_formed state_number feed_number number_of passed_of advance_of address_of memory_of registers_of missed_of step_of run_of start_number start_of fed_of slice_of slice_memory
check_writes_accepts_out d = check_accepts_out check_writes d disabled cells0 checking 1 [] stream_a idle-disabled mode-one small_A refl refl refl

-- ---- overlaps follow stream order: 9..11 as in A, then 10..10 = 44

abbrev overlap : Section
overlap = section_of 0 (0 ∷ 0 ∷ 0 ∷ []) (window_a ∷ record { null = 0; start = 10; end = 10; bytes = 0x44 ∷ [] } ∷ [])

fits_overlap : Fitting teaching writing 1 overlap []
unfolding size_of
fits_overlap =
    record {
      fits = (
        omega arith,
        record {
          few = omega arith;
          fit = (record { order = omega arith; inside = omega arith; full = refl }, (record { order = omega arith; inside = omega arith; full = refl }, tt));
        },
      );
      lets = record { b4 = refl; b3 = λ e. refl; sent_b3 = λ e. refl };
      bytes = unfold base_of in bytes_below (bytes_of (stream_sent teaching 1 overlap [])) refl;
    }

pub overlaps_out : (l : Loader) → Demand2a l → (n : ℕ) → (n ≡ 0x44 → ⊥)
    → get_or (ran l writing 1 teaching cells0 [] (bytes_of (stream_sent teaching 1 overlap []))).memory 10 0 ≡ n → ⊥
unfolding base_of
overlaps_out l d n h e = h (sym e ∙ (whole_seen l d teaching cells0 writing 1 overlap [] idle-teaching mode-one fits_overlap).cells 10 (lit< tt))

pub earlier_wins_out : Demand2a earlier_wins → ⊥
unfolding size_of base_of known_of is_bad_chain unused_zero is_well_formed is_ill_formed state_number feed_number number_of passed_of advance_of address_of memory_of registers_of missed_of step_of run_of start_number start_of fed_of slice_of slice_memory
earlier_wins_out d = overlaps_out earlier_wins d 0x22 (λ q. omega arith) refl

-- ---- document 02, wish 5: any loader whose check leaves the register as it was

pub unloaded_out : (l : Loader) → Demand2a l
    → get_or (ran l checking 1 teaching cells0 [] (0xb2 ∷ 0x10 ∷ 0 ∷ 0 ∷ 0 ∷ 0xff ∷ 0x4d ∷ [])).fed.chain.registers 0 0 ≡ get_or teaching.registers 0 0 → ⊥
unfolding base_of
unloaded_out l d h =
    let e : ◌≡◌ {A = ℕ} 0 0x10 = sym h ∙ (whole_seen l d teaching cells0 checking 1 section_c [] idle-teaching mode-one (fits_C checking)).regs 0 (lit< tt) in
    omega arith

pub unloading_out : Demand2a unloading → ⊥
unfolding size_of base_of known_of is_bad_chain unused_zero is_well_formed is_ill_formed state_number feed_number number_of passed_of advance_of address_of memory_of registers_of missed_of step_of run_of start_number start_of fed_of slice_of slice_memory
unloading_out d = unloaded_out unloading d refl

-- and by what a write of the same bytes leaves, while the check goes on
pub unloading_goes_out : Demand2f unloading → ⊥
unfolding size_of base_of known_of is_bad_chain unused_zero is_well_formed is_ill_formed state_number feed_number number_of passed_of advance_of address_of memory_of registers_of missed_of step_of run_of start_number start_of fed_of slice_of slice_memory
unloading_goes_out d =
    let h = (d teaching cells0 checking 1 [] (0xb2 ∷ 0x10 ∷ []) idle-teaching mode-one (bytes_below (0xb2 ∷ 0x10 ∷ []) refl) refl).as_written refl in
    let e : ◌≡◌ {A = ℕ} 0 0x10 = ap (λ (x : List ℕ). get_or x 0 0) h in
    omega arith

-- a control byte that is 7, loaded before it is refused
pub loading_first_out : Demand2d loading_first → ⊥
unfolding size_of base_of known_of is_bad_chain unused_zero is_well_formed is_ill_formed state_number feed_number number_of passed_of advance_of address_of memory_of registers_of missed_of step_of run_of start_number start_of fed_of slice_of slice_memory
loading_first_out d =
    let h = (d (ours.start teaching cells0 1 checking).chain cells0 (0xb2 ∷ 0x08 ∷ []) 1 (lit< tt) refl seven).kept.registers in
    let e : ◌≡◌ {A = ℕ} 0x08 0 = ap (λ (x : List ℕ). get_or x 0 0) h in
    omega arith
  where
    seven : ◌≡◌ {A = ℕ} 7 more → ⊥
    seven q = omega arith

-- ---- a slice that ends in a refusal, undone: stream A with a bad check byte

pub undoing_out : Demand2d undoing → ⊥
unfolding size_of base_of known_of is_bad_chain unused_zero is_well_formed is_ill_formed state_number feed_number number_of passed_of advance_of address_of memory_of registers_of missed_of step_of run_of start_number start_of fed_of slice_of slice_memory
undoing_out d =
    let bad : List ℕ = 0xb2 ∷ 0 ∷ 0 ∷ 0 ∷ 0 ∷ 0xfe ∷ 0 ∷ 0 ∷ 9 ∷ 0 ∷ 11 ∷ 0x11 ∷ 0x22 ∷ 0x33 ∷ 0 ∷ [] in
    let e = (d (ours.start teaching cells0 1 writing).chain cells0 bad 14 (lit< tt) refl eight).kept.cells in
    let z : ◌≡◌ {A = ℕ} 0 0x22 = ap (λ (x : List ℕ). get_or x 10 0) e in
    omega arith
  where
    eight : ◌≡◌ {A = ℕ} 8 more → ⊥
    eight q = omega arith

-- ---- closing one byte short

whole : Whole short_closing 1 stream_a teaching cells0
unfolding size_of base_of known_of is_bad_chain unused_zero is_well_formed is_ill_formed state_number feed_number number_of passed_of advance_of address_of memory_of registers_of missed_of step_of run_of start_number start_of fed_of slice_of slice_memory
whole = record { started = refl; number = refl; taken = refl }

-- at the stop before the first byte the one closing byte is left out
pub short_closing_out : Demand3 short_closing → ⊥
unfolding size_of base_of known_of is_bad_chain unused_zero is_well_formed is_ill_formed state_number feed_number number_of passed_of advance_of address_of memory_of registers_of missed_of step_of run_of start_number start_of fed_of slice_of slice_memory closing_bytes written_number
short_closing_out d =
    let h = d teaching cells0 1 stream_a idle-teaching mode-one small_A whole in
    let z : 0 < 0 = ((h.stops reading_A refl 0 (lit< tt) [] [] refl).closes (replicate 9 0) refl).some in
    omega arith

-- ---- offsets from the stream's first byte in mode 6

-- the one window of a stream has its data from offset 11 on
first-offset : (ws : List Window) → starts ws ≡ 9 ∷ [] → offsets 6 ws ≡ 12 ∷ [] → ⊥
first-offset [] s e = let z : ◌≡◌ {A = ℕ} 0 9 = ap (λ (l : List ℕ). get_or l 0 0) s in omega arith
first-offset (w ∷ ws) s e = let z : ◌≡◌ {A = ℕ} 11 12 = ap (λ (l : List ℕ). get_or l 0 0) e in omega arith

pub offsets_out : Demand2b offsets_from_first → ⊥
unfolding size_of lead_in windows_from stream_of windows_number sum_of writeNumber-of write_number preamble_at head_stop check_stop stream_stop list_stop listed_of listing_of window_stop read_window_of windows_stop windows_of
offsets_out d =
    let w = d 0 6 0 0 0 0 (9 ∷ []) (11 ∷ []) (0x11 ∷ 0x22 ∷ 0x33 ∷ []) (replicate 20 0)
    (bytes_below (0 ∷ 0 ∷ 0 ∷ 0 ∷ 0x11 ∷ 0x22 ∷ 0x33 ∷ []) refl) refl
    in
    let table : List ℕ = replicate 255 0 in
    let room : length w.windows ≤ length table = w.fits.few in
    first-offset w.windows w.starts_are (sym (w.lists table table table (record { starts = room; ends = room; offsets = room })).offsets)
