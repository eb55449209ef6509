-- Loaders that the demands shut out: ours, with one call replaced. Assumes nothing.
use Rattle.std.specs.Prelude.{ℕ, zero, suc, ◌+◌, ◌-◌, ◌%◌, Bool, false, ◌&&◌, ◌||◌, not, ◌≡◌, List, [], ◌∷◌, ◌++◌, map, reverse, eqb, ltb, length, get_or, set, take, replicate}
use Rattle.chain.specs.declared.Chain.{Chain}
use Rattle.chain.specs.declared.Place.{Place}
use Rattle.chain.specs.Paper.{postamble, no_windows, at_preamble, at_control, at_address, at_count, at_null, at_end_low, at_data, at_check, writing, checking, first_mode, two_preambles, done, barred, no_check, too_short, more, B4}
use Rattle.chain.specs.Rules.{pick, ◌gives◌, first_of}
use Rattle.chain.specs.Output.{over, on_done, written_of, output_of}
use Rattle.chain.specs.Kinds.{size_of}
use Rattle.chain.specs.Set.{with_check, with_awaited, with_left, with_end, with_place}
use Rattle.chain.specs.State.{open_rules, feed_number}
use Rattle.chain.specs.Window.{high_byte, low_byte, with_low}
use Rattle.awaited.specs.Byte.{awaits}
use Rattle.machine.specs.Run.{writes, address_of, registers_of, ended, Run, run, step_of}
use Rattle.machine.specs.Calls.{answered, fed_of}
use Rattle.closing.specs.Closing.{stored_register, window, refuses_ff}
use Rattle.hunt.specs.declared.Hunted.{Hunted}
use Rattle.hunt.specs.Hunt.{found_at}
use Rattle.grammar.specs.Stream.{Window}
use Rattle.reader.specs.Windows.{next_at}
use Rattle.reader.specs.Stream.{stream_stop}
use Rattle.tidy.specs.Spans.{Span, span, has, covered}
use Rattle.reader.specs.Given.{given_of, stream_with}
use Rattle.tidy.specs.Tidy.{last_byte, window_over, tidy_windows, tidy_rules}
use Rattle.salvage.specs.declared.Salvaged.{Salvaged}
use Rattle.salvage.specs.Salvage.{offset_of, salvaged, changes_of}
use Rattle.demands.specs.Loader.{Loader, AfterSlice, AfterSalvage, with_slice, with_closing, with_list, with_hunt, with_tidy, with_salvage}
use Rattle.demands.specs.Ours.{ours}

-- ours, with what a slice leaves altered
abbrev pub altered : (Chain → List ℕ → List ℕ → AfterSlice → AfterSlice) → Loader
altered f = with_slice ours (λ c m s. f c m s (ours.slice c m s))

-- answers n, t and w whatever it is given, and does nothing: with n not 0 it refuses all
abbrev pub constant : ℕ → ℕ → ℕ → Loader
constant n t w = altered (λ c m s a. record { fed = answered c n t w; memory = m })

-- answers as ours, and stores nothing
abbrev pub idle : Loader
idle = altered (λ c m s a. record { fed = a.fed; memory = m })

-- makes up the bytes taken, or the mismatches, by any rule
abbrev pub counting : (Chain → List ℕ → List ℕ → AfterSlice → ℕ) → (Chain → List ℕ → List ℕ → AfterSlice → ℕ) → Loader
counting f g = altered (λ c m s a. record { fed = answered a.fed.chain a.fed.answer.number (f c m s a) (g c m s a); memory = a.memory })

abbrev pub taking : (Chain → List ℕ → List ℕ → ℕ) → Loader
taking f = counting (λ c m s a. f c m s) (λ c m s a. a.fed.answer.mismatches)

abbrev pub missing : (Chain → List ℕ → List ℕ → ℕ) → Loader
missing f = counting (λ c m s a. a.fed.answer.taken) (λ c m s a. f c m s)

-- where a slice ends in a refusal, takes back what that slice stored
abbrev pub undoing : Loader
undoing = altered (λ c m s a. record { fed = a.fed; memory = pick (eqb a.fed.answer.number done || eqb a.fed.answer.number more) a.memory m })

-- where a check would be refused, answers, stores and leaves what f says
abbrev pub careless : (Chain → List ℕ → List ℕ → AfterSlice) → Loader
careless f = altered (λ c m s a. pick (eqb a.fed.answer.number done || eqb a.fed.answer.number more || writes c) a (f c m s))

-- ---- another machine: what it makes of a byte of an open run, given what ours makes of it

abbrev pub stepping : (Chain → List ℕ → ℕ → Run → Run) → Run → List ℕ → Run
stepping f r [] = r
stepping f r (b ∷ bs) = stepping f (pick (eqb r.number more) (f r.chain r.memory b (step_of r.chain r.memory b)) r) bs

abbrev pub bent : (Chain → List ℕ → ℕ → Run → Run) → Loader
bent f =
    altered
    (λ c m s a.
    let r = stepping f (run c m more) s in
    pick (eqb (feed_number c (length m)) done) (record { fed = fed_of r; memory = r.memory }) a)

-- a run that came to another place
abbrev pub moved : Run → Place → Run
moved t p = run (with_place t.chain p) t.memory t.number

-- a run that left other registers
abbrev pub loaded : Run → List ℕ → Run
loaded t g = run (record { count = t.chain.count; kinds = t.chain.kinds; registers = g; place = t.chain.place }) t.memory t.number

-- at the first data byte of a window the memory becomes what f makes of it, the bytes not given yet made up; idle through the rest
abbrev pub eager : (Chain → List ℕ → ℕ → List ℕ) → Loader
eager f = bent (λ c m b t. run t.chain (pick (awaits c at_data && writes c && eqb c.place.next c.place.start) (f c m b) m) t.number)

-- ---- 'Easy to get wrong'

-- an end taken as exclusive
abbrev pub exclusive_end : Loader
exclusive_end = bent (λ c m b t. pick (awaits c at_end_low) (moved t (with_end t.chain.place (t.chain.place.end - 1))) t)

-- a plain count: FE read as 254 windows
abbrev pub plain_count : Loader
plain_count =
    bent (λ c m b t. pick (awaits c at_count) (moved t (with_awaited (with_left t.chain.place b) (pick (eqb b 0) at_check at_null))) t)

-- B4 applied to the stream that sets it: the byte after such a control byte ends the run with 6
abbrev pub barring : Loader
barring = bent (λ c m b t. pick (awaits c at_address && B4 c.place.control) (run (ended c) m barred) t)

-- a check with B3 set goes on as a write, where ours gives 7
abbrev pub check_writes : Loader
check_writes = bent (λ c m b t. pick (eqb t.number no_check) (step_of (with_place c (with_check c.place writing)) m b) t)

-- of overlapping windows the earlier wins: a cell that is not zero is stored no more
abbrev pub earlier_wins : Loader
earlier_wins = bent (λ c m b t. pick (awaits c at_data && writes c && not (eqb (get_or m (address_of c) 0) 0)) (run t.chain m t.number) t)

-- ---- document 02, wish 5: the registers of a check

-- a check that loads nothing
abbrev pub unloading : Loader
unloading = bent (λ c m b t. pick (writes c) t (loaded t c.registers))

-- a check that loads its control byte before the test for 7
abbrev pub loading_first : Loader
loading_first = bent (λ c m b t. pick (eqb t.number no_check) (loaded t (registers_of c b)) t)

-- ---- document 02, wish 9: patches that do not stack

-- a write that begins with an empty memory, so that what earlier patches stored is lost
abbrev pub wiping : Loader
wiping = bent (λ c m b t. pick (awaits c at_preamble && writes c) (run t.chain (replicate (length m) 0) t.number) t)

-- ---- document 02, wish 2: tidiers, refused as ours is, 15 by the length of their own bytes

abbrev pub tidying_to : (ℕ → List ℕ → List ℕ) → Loader
tidying_to f =
    with_tidy ours
    (λ kind s out.
    let n = first_of (tidy_rules (size_of kind) s (length (f kind s)) (length out)) done in
    record { written = written_of n (f kind s); out = output_of n (f kind s) out })

-- gives the stream back as it came, up to its postamble
abbrev pub untidied : Loader
untidied = tidying_to (λ kind s. take (stream_stop (size_of kind) first_mode s).taken s)

-- other windows, made of the device's size and the given ones; control byte and external address kept
abbrev pub rewindowed : (ℕ → List Window → List Window) → Loader
rewindowed f = tidying_to (λ kind s. stream_with s (f (size_of kind) (given_of (size_of kind) s)))

-- of overlapping windows the earlier wins: as if the last came first
abbrev pub earlier_kept : Loader
earlier_kept = rewindowed (λ size ws. tidy_windows size (reverse ws))

-- windows that touch are left apart, those that overlap joined: cell a goes on to the next one where some window has both
abbrev pub goes_on : List Window → ℕ → Bool
goes_on [] a = false
goes_on (w ∷ ws) a = has w.start w.end a && has w.start w.end (a + 1) || goes_on ws a

abbrev pub longer : ℕ → List Span → List Span
longer a [] = span a a ∷ []
longer a (x ∷ xs) = span a x.end ∷ xs

abbrev pub overlap_spans : List Window → ℕ → ℕ → List Span
overlap_spans ws zero a = []
overlap_spans ws (suc n) a =
    let xs = overlap_spans ws n (suc a) in
    pick (covered ws a) (pick (goes_on ws a) (longer a xs) (span a a ∷ xs)) xs

abbrev pub touching_apart : Loader
touching_apart = rewindowed (λ size ws. map (window_over (last_byte ws)) (overlap_spans ws size 0))

-- ---- document 02, wish 12: salvagers

-- ours, with what it answers and leaves altered
abbrev pub resalvaging : (ℕ → List ℕ → List ℕ → AfterSalvage → AfterSalvage) → Loader
resalvaging f = with_salvage ours (λ kind s out. f kind s out (ours.salvage kind s out))

-- a change list with another offset
abbrev pub with_offset : Salvaged → ℕ → Salvaged
with_offset r n =
    record { number = r.number; kept = r.kept; announced = r.announced; end = r.end; offset = on_done r.number n; length = r.length }

-- writes the count that was announced, and not that of the windows kept
abbrev pub announced_count : Loader
announced_count =
    resalvaging
    (λ kind s out w.
    record { salvaged = w.salvaged; out = pick (eqb w.salvaged.number done) (set w.out 5 (get_or s 5 0)) w.out })

-- keeps the window that is not whole too, the bytes that it lacks filled up with 00
abbrev pub filled_up : Loader
filled_up =
    resalvaging
    (λ kind s out w.
    pick (eqb w.salvaged.number done)
    (ours.salvage kind (s ++ replicate (next_at s (offset_of (size_of kind) s) - length s) 0x00) out)
    w)

-- tells how many bytes the stream's run takes, and not where the last kept window ended
abbrev pub taken_offset : Loader
taken_offset = resalvaging (λ kind s out w. record { salvaged = with_offset w.salvaged (stream_stop (size_of kind) first_mode s).taken; out = w.out })

-- salvages accepted streams alone, and refuses others with their own number, as a tidier does
abbrev pub accepted_alone : Loader
accepted_alone =
    resalvaging
    (λ kind s out w.
    let n = (stream_stop (size_of kind) first_mode s).number in
    pick (eqb w.salvaged.number done) (record { salvaged = changes_of (size_of kind) s n; out = output_of n (salvaged (size_of kind) s) out }) w)

-- of a stream that broke off or was refused, writes the first two windows in the other order
abbrev pub second_first : List Window → List Window
second_first [] = []
second_first (v ∷ []) = v ∷ []
second_first (v ∷ w ∷ ws) = w ∷ v ∷ ws

abbrev pub other_order : Loader
other_order =
    resalvaging
    (λ kind s out w.
    pick (eqb w.salvaged.end done) w
    (record { salvaged = w.salvaged; out = over (stream_with s (second_first (given_of (size_of kind) s))) out }))

-- ---- other calls

-- closing one byte short
abbrev pub short_closing : Loader
short_closing =
    with_closing ours
    (λ c m out.
    let w = ours.closing c m out in
    record { written = record { number = w.written.number; length = w.written.length - 1 }; out = w.out })

-- ours, with the bytes of f offered as closing bytes; refused as ours is, 15 by their own length
abbrev pub offering : (Chain → List ℕ → List ℕ) → Loader
offering f =
    with_closing ours
    (λ c m out.
    let n = first_of (open_rules c (length m) ((ltb (length out) (length (f c m)) gives too_short) ∷ [])) done in
    record { written = written_of n (f c m); out = output_of n (f c m) out })

-- document 01's closing bytes at 11, before wish 8: FF where 256h + 255 is no end, else the start's low byte if h is the start's high byte, else 00,
-- and the window
abbrev pub older_end : Chain → List ℕ → List ℕ
older_end c m =
    let p = c.place in
    let low = pick (eqb (high_byte p.end) (high_byte p.start)) (low_byte p.start) 0x00 in
    pick (refuses_ff c) (0xff ∷ []) (low ∷ window c m p.start (with_low p.end low))

-- and at 2, in a check too: the stored register, 00 00 00 FF 4D
abbrev pub older_control : Chain → List ℕ
older_control c = stored_register c ∷ 0x00 ∷ 0x00 ∷ 0x00 ∷ no_windows ∷ postamble ∷ []

-- f offers these at every such place, and anything elsewhere
abbrev pub OlderAtEnd : (Chain → List ℕ → List ℕ) → Type 0
OlderAtEnd f = (c : Chain) (m : List ℕ) → c.place.awaited ≡ at_end_low → f c m ≡ older_end c m

abbrev pub OlderAtControl : (Chain → List ℕ → List ℕ) → Type 0
OlderAtControl f = (c : Chain) (m : List ℕ) → c.place.awaited ≡ at_control → c.place.check ≡ checking → f c m ≡ older_control c

-- offsets from the stream's first byte, which in mode 6 is not the preamble before the control byte
abbrev pub one_more : List ℕ → List ℕ
one_more [] = []
one_more (x ∷ xs) = (x + 1) ∷ one_more xs

abbrev pub offsets_from_first : Loader
offsets_from_first =
    with_list ours
    (λ kind mode s starts ends offsets.
    let a = ours.list kind mode s starts ends offsets in
    record {
      listed = a.listed;
      starts = a.starts;
      ends = a.ends;
      offsets = pick (eqb mode two_preambles) (one_more a.offsets) a.offsets;
    })

-- ---- the hunt: ours, with other figures

abbrev pub figuring : (List ℕ → Hunted → ℕ) → (List ℕ → Hunted → ℕ) → Loader
figuring p left =
    with_hunt ours
    (λ s out.
    let a = ours.hunt s out in
    let h = a.hunted in
    record { hunted = record { number = h.number; p = p s h; left = left s h; length = h.length }; out = a.out })

-- the bits before the preamble in the byte where it begins, taken for those left
abbrev pub left_before : Loader
left_before = figuring (λ s h. h.p) (λ s h. h.p % 8)

-- positions counted from 1
abbrev pub counts_from_one : Loader
counts_from_one = figuring (λ s h. on_done h.number (h.p + 1)) (λ s h. h.left)

-- the position told though the output was too short
abbrev pub told_refused : Loader
told_refused = figuring (λ s h. pick (eqb h.number too_short) (found_at s) h.p) (λ s h. h.left)
