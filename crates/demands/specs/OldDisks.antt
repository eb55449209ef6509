-- Document 02, wish 12: salvage of the old disks, as predicates over a loader. Of a stream that broke off or was refused the whole windows are kept, in a
-- sound stream; the change list says how many, of how many, up to which byte, and how the stream ended. Assumes nothing.
use Rattle.std.specs.Prelude.{ℕ, ◌+◌, ◌-◌, ◌≤◌, ◌<◌, false, ◌≡◌, List, [], ◌∷◌, ◌++◌, eqb, length, get_or, set, take, replicate}
use Rattle.chain.specs.declared.Chain.{Chain}
use Rattle.chain.specs.declared.Place.{Place}
use Rattle.chain.specs.Paper.{preamble, postamble, no_windows, at_null, at_start, at_data, at_check, writing, first_mode, done, more, B4}
use Rattle.chain.specs.Rules.{pick}
use Rattle.chain.specs.Kinds.{size_of}
use Rattle.chain.specs.WellFormed.{Known}
use Rattle.chain.specs.Bytes.{Bytes}
use Rattle.chain.specs.Output.{over}
use Rattle.grammar.specs.Sent.{bytes_of}
use Rattle.grammar.specs.Stream.{Section, stream_sent}
use Rattle.grammar.specs.Tables.{nulls_off}
use Rattle.reader.specs.Stream.{head_length}
use Rattle.reader.specs.Given.{given_of, with_head}
use Rattle.salvage.specs.declared.Salvaged.{Salvaged}
use Rattle.salvage.specs.Salvage.{Salvages}
use Rattle.demands.specs.Loader.{Loader, AfterSlice, AfterWrite, offered, AfterSalvage, rescued, Idle}
use Rattle.demands.specs.Demand2.{joined, ran, Loads}
use Rattle.demands.specs.Demand3.{load}
use Rattle.demands.specs.ListTable.{fresh_device}
use Rattle.demands.specs.Files.{Room, rewritten}
use Rattle.demands.specs.Patches.{Device, Sending, left_by}
use Rattle.demands.specs.OneFile.{Accepted, section, windows}

-- salvage keeps its promise
abbrev pub KeepsSalvage : Loader → Type 0
KeepsSalvage l = (kind : ℕ) (s out : List ℕ) → Salvages kind s out (l.salvage kind s out).salvaged (l.salvage kind s out).out

-- something was salvaged, if only the head
abbrev pub Rescued : AfterSalvage → Type 0
Rescued w = w.salvaged.number ≡ done

-- ---- 'From a one-device mode 1 stream whose first six bytes are in order'

-- six bytes are there, and a freshly reset device of that kind takes them in a write: only the first could be refused
pub record InOrder (kind : ℕ) (s : List ℕ) : Type 0 where
  pub known : Known kind
  pub six : head_length ≤ length s
  pub first : get_or s 0 0 ≡ preamble

-- w is what came with this output. Nothing else is salvaged; each of these is, whatever follows its head, where the output is one byte longer than the
-- stream, and wherever it has room for the bytes that are told with another output
pub record Takes (l : Loader) (kind : ℕ) (s out : List ℕ) (w : AfterSalvage) : Type 0 where
  pub only : Rescued w → InOrder kind s
  pub room : InOrder kind s → length s < length out → Rescued w
  pub enough : Rescued w → (out' : List ℕ) → w.salvaged.length ≤ length out' → Rescued (l.salvage kind s out')

abbrev pub InOrderExactly : Loader → Type 0
InOrderExactly l = (kind : ℕ) (s out : List ℕ) → Bytes s → Takes l kind s out (l.salvage kind s out)

-- ---- 'Write a sound stream with the right count and 4D': what loading it stores

-- a chain whose first device is of that kind with B4 clear, and no run open; other devices may follow it, with any registers
pub record Welcomes (kind : ℕ) (c : Chain) (m : List ℕ) : Type 0 where
  pub idle : Idle c m
  pub first : get_or c.kinds 0 0 ≡ kind
  pub clear : B4 (get_or c.registers 0 0) ≡ false

-- the windows kept of a stream for a device of that size, under its own head
abbrev pub kept_section : ℕ → List ℕ → Section
kept_section size s = with_head s (given_of size s)

-- as many bytes as are told are written into the front of the output, and the rest of it is as lent; they are the kept windows' stream, whose 4D comes
-- where the last window had ended; and load as these windows, later over earlier, in any cut, into every chain that lets them in
pub record Sound (l : Loader) (kind : ℕ) (s out : List ℕ) (w : AfterSalvage) : Type 0 where
  pub told : w.salvaged.length ≡ length (rescued w)
  pub inside : length (rescued w) ≤ length out
  pub output : w.out ≡ over (rescued w) out
  pub kept : w.salvaged.kept ≡ length (given_of (size_of kind) s)
  pub offset : w.salvaged.offset + 1 ≡ length (rescued w)
  pub bytes : (c : Chain) → rescued w ≡ bytes_of (stream_sent c first_mode (kept_section (size_of kind) s) [])
  pub loads : (c : Chain) (m : List ℕ) → Welcomes kind c m → Loads l writing first_mode c m (rescued w) (stream_sent c first_mode (kept_section (size_of kind) s) [])

abbrev pub SoundAlways : Loader → Type 0
SoundAlways l = (kind : ℕ) (s out : List ℕ) → Bytes s → Rescued (l.salvage kind s out) → Sound l kind s out (l.salvage kind s out)

-- ---- the same: which bytes it has, by those given and the change list alone

-- the stream cut at offset, its count put right, and 4D
abbrev pub mended : List ℕ → Salvaged → List ℕ
mended s r = set (take r.offset s) 5 (no_windows - r.kept) ++ (postamble ∷ [])

-- that is an accepted stream, and its bytes are what is written, null bytes zeroed
pub record Mended (c : Chain) (s : List ℕ) (w : AfterSalvage) : Type 0 where
  pub accepted : Accepted c (mended s w.salvaged)
  pub bytes : rescued w ≡ bytes_of (stream_sent c first_mode (nulls_off (section accepted)) [])

-- of one device of that kind, whichever it is
abbrev pub AsMended : Loader → Type 0
AsMended l = (c : Chain) (m s out : List ℕ) → Device c m → Bytes s → Rescued (l.salvage (get_or c.kinds 0 0) s out)
    → Mended c s (l.salvage (get_or c.kinds 0 0) s out)

-- ---- 'keep the whole windows before the first refused byte or the end': what the machine makes of the stream

-- a write of the first n bytes, in mode 1, into one freshly reset device
abbrev pub fed_first : Loader → ℕ → List ℕ → ℕ → AfterSlice
fed_first l kind s n = load l first_mode (fresh_device kind) (replicate (size_of kind) 0) (take n s)

abbrev pub place_after : Loader → ℕ → List ℕ → ℕ → Place
place_after l kind s n = (fed_first l kind s n).fed.chain.place

-- r, the change list, says what the machine gives. At offset the run is open and between windows, as many left as were announced and not kept; with none kept
-- that is at the head's end. Later it is never again between windows: it has ended, or stands within the window that is not kept. end is the number of the
-- whole stream
pub record AsMachine (l : Loader) (kind : ℕ) (s : List ℕ) (r : Salvaged) : Type 0 where
  pub announced : r.announced ≡ 255 - get_or s 5 0
  pub none : r.kept ≡ 0 → r.offset ≡ head_length
  pub inside : r.offset ≤ length s
  pub still_open : (fed_first l kind s r.offset).fed.answer.number ≡ more
  pub between : (place_after l kind s r.offset).awaited ≡ pick (eqb (place_after l kind s r.offset).left 0) at_check at_null
  pub left : r.kept + (place_after l kind s r.offset).left ≡ r.announced
  pub later : (n : ℕ) → r.offset < n → n ≤ length s → (fed_first l kind s n).fed.answer.number ≡ more
      → (at_start ≤ (place_after l kind s n).awaited) × ((place_after l kind s n).awaited ≤ at_data)
      × ((place_after l kind s n).left ≡ (place_after l kind s r.offset).left)
  pub end : (fed_first l kind s (length s)).fed.answer.number ≡ r.end

abbrev pub MachineGives : Loader → Type 0
MachineGives l = (kind : ℕ) (s out : List ℕ) → Bytes s → Rescued (l.salvage kind s out) → AsMachine l kind s (l.salvage kind s out).salvaged

-- that leaves one change list, whatever is written
abbrev pub OneList : Loader → Type 0
OneList l = (kind : ℕ) (s : List ℕ) (r q : Salvaged) → AsMachine l kind s r → AsMachine l kind s q
    → (r.kept ≡ q.kept) × (r.announced ≡ q.announced) × (r.end ≡ q.end) × (r.offset ≡ q.offset)

-- and, the stream mended by it, one stream to write
abbrev pub OneStream : Loader → Type 0
OneStream l = (c : Chain) (s : List ℕ) (w v : AfterSalvage)
    → AsMachine l (get_or c.kinds 0 0) s w.salvaged → AsMachine l (get_or c.kinds 0 0) s v.salvaged
    → Mended c s w → Mended c s v → rescued w ≡ rescued v

-- and what is salvaged leaves what the stream itself had left up to offset: the same cells and the same registers, in every chain that lets them in, each
-- cut in any way
pub record SameCells (l : Loader) (w : AfterSalvage) (c : Chain) (m : List ℕ) (ps : List (List ℕ)) (last : List ℕ)
    (x : Sending first_mode (rescued w)) : Type 0 where
  pub still_open : (ran l writing first_mode c m ps last).fed.answer.number ≡ more
  pub memory : (ran l writing first_mode c m ps last).memory ≡ (left_by l c m x).memory
  pub registers : (ran l writing first_mode c m ps last).fed.chain.registers ≡ (left_by l c m x).fed.chain.registers

abbrev pub AsFarAsWhole : Loader → Type 0
AsFarAsWhole l = (kind : ℕ) (s out : List ℕ) → Bytes s → Rescued (l.salvage kind s out) → (c : Chain) (m : List ℕ) → Welcomes kind c m
    → (ps : List (List ℕ)) (last : List ℕ) → joined ps ++ last ≡ take (l.salvage kind s out).salvaged.offset s
    → (x : Sending first_mode (rescued (l.salvage kind s out))) → SameCells l (l.salvage kind s out) c m ps last x

-- ---- 'An accepted stream comes out the same up to its postamble, null bytes zeroed'

-- written again from its listing in any tables of room enough
abbrev pub written_again : Loader → ℕ → List ℕ → List ℕ → List ℕ → List ℕ → List ℕ → AfterWrite
written_again l kind s ts te to out = rewritten l kind first_mode s (l.list kind first_mode s ts te to) out

-- an accepted stream, with whatever follows it in its file: as long an output has room; nothing is missing; its own bytes come out, null bytes zeroed, which
-- is what the writer writes from its listing
pub record ComesOut (l : Loader) {c : Chain} {s : List ℕ} (a : Accepted c s) (after out : List ℕ) (w : AfterSalvage) : Type 0 where
  pub room : length s ≤ length out → Rescued w
  pub kept : Rescued w → w.salvaged.kept ≡ length (windows a)
  pub announced : Rescued w → w.salvaged.announced ≡ length (windows a)
  pub end : Rescued w → w.salvaged.end ≡ done
  pub offset : Rescued w → w.salvaged.offset + 1 ≡ length s
  pub bytes : Rescued w → rescued w ≡ bytes_of (stream_sent c first_mode (nulls_off (section a)) [])
  pub as_written : Rescued w → (ts te to out' : List ℕ) → Room (length (windows a)) ts te to → length s ≤ length out'
      → ((written_again l (get_or c.kinds 0 0) (s ++ after) ts te to out').written.number ≡ done)
      × (offered (written_again l (get_or c.kinds 0 0) (s ++ after) ts te to out') ≡ rescued w)

abbrev pub SameComesOut : Loader → Type 0
SameComesOut l = (c : Chain) (m s : List ℕ) → Device c m → (a : Accepted c s) (after out : List ℕ) → Bytes after
    → ComesOut l a after out (l.salvage (get_or c.kinds 0 0) (s ++ after) out)

-- and where the list says end 0, the stream begins with an accepted one, so that this speaks of all such
abbrev pub EndsAccepted : Loader → Type 0
EndsAccepted l = (c : Chain) (m s out : List ℕ) → Device c m → Bytes s → Rescued (l.salvage (get_or c.kinds 0 0) s out)
    → (l.salvage (get_or c.kinds 0 0) s out).salvaged.end ≡ done → (n : ℕ) × Accepted c (take n s)
