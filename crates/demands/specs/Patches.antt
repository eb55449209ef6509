-- Document 02, wish 9: laws for patches, as predicates over a loader. Two patches that share no cell may change places; two may be sent as one
-- stream that has the windows of the one and then those of the other. Assumes nothing.
use Rattle.std.specs.Prelude.{ℕ, ◌+◌, ◌≤◌, false, ◌↔◌, ◌⊎◌, ◌≡◌, List, [], ◌∷◌, ◌++◌, length, get_or}
use Rattle.chain.specs.declared.Chain.{Chain}
use Rattle.chain.specs.Paper.{writing, done, B4}
use Rattle.chain.specs.Bytes.{Bytes}
use Rattle.grammar.specs.Sent.{bytes_of}
use Rattle.grammar.specs.Stream.{Window, Section, stream_sent}
use Rattle.grammar.specs.Fits.{Reading, Clear}
use Rattle.grammar.specs.Tables.{nulled}
use Rattle.writer.specs.Write.{most_windows}
use Rattle.demands.specs.Loader.{Loader, AfterSlice, Idle, Mode}
use Rattle.demands.specs.Demand2.{joined, ran}
use Rattle.demands.specs.Demand3.{load, Whole}

-- one device of any kind, with no run open and its stored B4 clear, over any memory
pub record Device (c : Chain) (m : List ℕ) : Type 0 where
  pub one : c.count ≡ 1
  pub idle : Idle c m
  pub clear : B4 (get_or c.registers 0 0) ≡ false

-- a patch: a stream in its own mode that reads as windows of the device, with B4 clear in its control byte. In modes 3 and 4 it is the hunted bytes
pub record Patch (c : Chain) (mode : ℕ) (s : List ℕ) : Type 0 where
  pub of_mode : Mode mode
  pub bytes : Bytes s
  pub reading : Reading c mode s
  pub clear : Clear reading.first reading.others

-- in a chain of one device a reading has one section: others is empty
abbrev pub windows_in : {c : Chain} {mode : ℕ} {s : List ℕ} → Patch c mode s → List Window
windows_in p = p.reading.first.windows

-- the request's words: the stream loads whole as a write, and leaves B4 clear
pub record WholeClear (l : Loader) (c : Chain) (m : List ℕ) (mode : ℕ) (s : List ℕ) : Type 0 where
  pub whole : Whole l mode s c m
  pub clear : B4 (get_or (load l mode c m s).fed.chain.registers 0 0) ≡ false

-- on one device these are the patches, and its stored B4 was clear: what the laws say of patches they say of all such streams, and of no others
abbrev pub PatchesExactly : Loader → Type 0
PatchesExactly l = (c : Chain) (m : List ℕ) (mode : ℕ) (s : List ℕ) → c.count ≡ 1 → Idle c m → Mode mode → Bytes s
    → WholeClear l c m mode s ↔ Device c m × Patch c mode s

-- ---- sending

-- a stream cut into slices in any way, for a run in this mode: those before, then the slice with its last byte, which is byte, last and whatever
-- follows, rest
pub record Sending (mode : ℕ) (s : List ℕ) : Type 0 where
  pub before : List (List ℕ)
  pub byte : ℕ
  pub last : List ℕ
  pub rest : List ℕ
  pub all : joined before ++ (byte ∷ last) ≡ s

-- what it leaves as a write
abbrev pub left_by : Loader → Chain → List ℕ → {mode : ℕ} {s : List ℕ} → Sending mode s → AfterSlice
left_by l c m {mode} x = ran l writing mode c m x.before ((x.byte ∷ x.last) ++ x.rest)

-- it loads whole: accepted at its last byte
pub record LoadsWhole (l : Loader) (c : Chain) (m : List ℕ) {mode : ℕ} {s : List ℕ} (x : Sending mode s) : Type 0 where
  pub started : (l.start c m mode writing).number ≡ done
  pub number : (left_by l c m x).fed.answer.number ≡ done
  pub taken : (left_by l c m x).fed.answer.taken ≡ length s

-- one stream, and then another into what it left
abbrev pub left_by_both : Loader → Chain → List ℕ → {k n : ℕ} {s t : List ℕ} → Sending k s → Sending n t → AfterSlice
left_by_both l c m x y = left_by l (left_by l c m x).fed.chain (left_by l c m x).memory y

pub record BothLoad (l : Loader) (c : Chain) (m : List ℕ) {k n : ℕ} {s t : List ℕ} (x : Sending k s) (y : Sending n t) : Type 0 where
  pub first : LoadsWhole l c m x
  pub second : LoadsWhole l (left_by l c m x).fed.chain (left_by l c m x).memory y

-- ---- apart

-- cell i is in a window, and in one of several
abbrev pub In : ℕ → Window → Type 0
In i w = (w.start ≤ i) × (i ≤ w.end)

abbrev pub InSome : ℕ → List Window → Type 0
InSome i [] = ⊥
InSome i (w ∷ ws) = In i w ⊎ InSome i ws

-- no cell is in a window of both
abbrev pub NoneShared : List Window → List Window → Type 0
NoneShared vs ws = (i : ℕ) → InSome i vs → InSome i ws → ⊥

-- x then y, or y then x, however each is cut when it is sent first and when it is sent second
pub record EitherOrder (l : Loader) (c : Chain) (m : List ℕ) {k n : ℕ} {s t : List ℕ} (x x' : Sending k s) (y y' : Sending n t) : Type 0 where
  pub one_order : BothLoad l c m x y
  pub in_other_order : BothLoad l c m y' x'
  pub memory : (left_by_both l c m x y).memory ≡ (left_by_both l c m y' x').memory

abbrev pub Apart : Loader → Type 0
Apart l = (c : Chain) (m : List ℕ) (k n : ℕ) (s t : List ℕ) → Device c m → (p : Patch c k s) (q : Patch c n t) → NoneShared (windows_in p) (windows_in q)
    → (x x' : Sending k s) (y y' : Sending n t) → EitherOrder l c m x x' y y'

-- the same with 'share no cell' struck out: no loader that meets clause (a) of demand 2 has it
abbrev pub AnyOrder : Loader → Type 0
AnyOrder l = (c : Chain) (m : List ℕ) (k n : ℕ) (s t : List ℕ) → Device c m → Patch c k s → Patch c n t
    → (x x' : Sending k s) (y y' : Sending n t) → EitherOrder l c m x x' y y'

-- ---- stacked

-- z leaves the memory that x and then y leave
pub record AsOne (l : Loader) (c : Chain) (m : List ℕ) {k n o : ℕ} {s t u : List ℕ} (x : Sending k s) (y : Sending n t) (z : Sending o u) : Type 0 where
  pub both : BothLoad l c m x y
  pub one : LoadsWhole l c m z
  pub memory : (left_by l c m z).memory ≡ (left_by_both l c m x y).memory

-- for every section u with the windows of p and then those of q, whatever its control byte, its address and its null bytes, in every mode o
abbrev pub Stacked : Loader → Type 0
Stacked l = (c : Chain) (m : List ℕ) (k n o : ℕ) (s t : List ℕ) (u : Section) → Device c m → (p : Patch c k s) (q : Patch c n t)
    → length (windows_in p) + length (windows_in q) ≤ most_windows → nulled u.windows ≡ nulled (windows_in p ++ windows_in q)
    → Mode o → Bytes (bytes_of (stream_sent c o u []))
    → (x : Sending k s) (y : Sending n t) (z : Sending o (bytes_of (stream_sent c o u []))) → AsOne l c m x y z
