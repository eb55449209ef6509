-- Document 02, wish 2: one file for one meaning, as predicates over a loader. The tidier gives each accepted stream of one device the one stream with its
-- meaning: control byte, external address, and the memory that it leaves for every memory of that kind. Assumes nothing.
use Rattle.std.specs.Prelude.{ℕ, ◌+◌, ◌≤◌, ◌↔◌, ◌≡◌, List, [], ◌∷◌, ◌++◌, length, get_or, take}
use Rattle.chain.specs.declared.Chain.{Chain}
use Rattle.chain.specs.Paper.{first_mode, done}
use Rattle.chain.specs.Kinds.{size_of}
use Rattle.chain.specs.Bytes.{Bytes}
use Rattle.chain.specs.Output.{over}
use Rattle.grammar.specs.Stream.{Window, Section}
use Rattle.grammar.specs.Fits.{Reading}
use Rattle.grammar.specs.Tables.{nulled}
use Rattle.tidy.specs.Tidy.{tidied, Tidies}
use Rattle.demands.specs.Loader.{Loader, AfterWrite, offered}
use Rattle.demands.specs.Demand3.{Whole}
use Rattle.demands.specs.Patches.{Device, InSome, Sending, left_by, LoadsWhole}

-- the tidier keeps its promise
abbrev pub KeepsTidy : Loader → Type 0
KeepsTidy l = (kind : ℕ) (s out : List ℕ) → Tidies kind s out (l.tidy kind s out).written (l.tidy kind s out).out

-- a stream in mode 1 that reads as windows of a device; any control byte, B4 set too
pub record Accepted (c : Chain) (s : List ℕ) : Type 0 where
  pub bytes : Bytes s
  pub reading : Reading c first_mode s

-- these are the streams that one device whose stored B4 is clear loads whole
abbrev pub AcceptedExactly : Loader → Type 0
AcceptedExactly l = (c : Chain) (m s : List ℕ) → Device c m → Bytes s → Whole l first_mode s c m ↔ Accepted c s

-- in a chain of one device a reading has one section: others is empty
abbrev pub section : {c : Chain} {s : List ℕ} → Accepted c s → Section
section a = a.reading.first

abbrev pub windows : {c : Chain} {s : List ℕ} → Accepted c s → List Window
windows a = (section a).windows

-- a file that begins with the stream, whatever follows it, and an output
pub record TidyFile {c : Chain} {s : List ℕ} (a : Accepted c s) : Type 0 where
  pub after : List ℕ
  pub out : List ℕ

abbrev pub tidying : Loader → {c : Chain} {s : List ℕ} {a : Accepted c s} → TidyFile a → AfterWrite
tidying l {c} {s} f = l.tidy (get_or c.kinds 0 0) (s ++ f.after) f.out

abbrev pub Done : AfterWrite → Type 0
Done w = w.written.number ≡ done

-- ---- the shape

-- each window starts two cells or more above the end of the one before it: ascending, disjoint, never touching
abbrev pub Gaps : List Window → Type 0
Gaps [] = Unit {0}
Gaps (v ∷ []) = Unit {0}
Gaps (v ∷ w ∷ ws) = (v.end + 2 ≤ w.start) × Gaps (w ∷ ws)

-- control byte and external address
pub record SameHead (x y : Section) : Type 0 where
  pub control : x.control ≡ y.control
  pub address0 : x.address0 ≡ y.address0
  pub address1 : x.address1 ≡ y.address1
  pub address2 : x.address2 ≡ y.address2

-- u, tidied from the stream s: a stream again, with the head of s and windows over the same cells; no more of them, and no more bytes
pub record InShape {c : Chain} {s : List ℕ} (a : Accepted c s) (u : List ℕ) : Type 0 where
  pub accepted : Accepted c u
  pub head : SameHead (section accepted) (section a)
  pub gaps : Gaps (windows accepted)
  pub nulls_zero : nulled (windows accepted) ≡ windows accepted
  pub cells : (i : ℕ) → InSome i (windows accepted) ↔ InSome i (windows a)
  pub fewer : length (windows accepted) ≤ length (windows a)
  pub shorter : length u ≤ length s

-- ---- (i), (iv) and (v): of one stream

-- two streams load whole and leave the same memory and registers
pub record SameLoad (l : Loader) (c : Chain) (m : List ℕ) {s t : List ℕ} (x : Sending first_mode s) (y : Sending first_mode t) : Type 0 where
  pub one : LoadsWhole l c m x
  pub other : LoadsWhole l c m y
  pub memory : (left_by l c m x).memory ≡ (left_by l c m y).memory
  pub registers : (left_by l c m x).fed.chain.registers ≡ (left_by l c m y).fed.chain.registers

-- an output as long as the stream has room; as many bytes as are told are written into the front of the output, and the rest of it is as lent; they have
-- the shape, and on every memory of that kind they load as the stream does, each cut in any way
pub record WellTidied (l : Loader) {c : Chain} {s : List ℕ} {a : Accepted c s} (f : TidyFile a) : Type 0 where
  pub room : length s ≤ length f.out → Done (tidying l f)
  pub told : Done (tidying l f) → (tidying l f).written.length ≡ length (offered (tidying l f))
  pub output : Done (tidying l f) → (tidying l f).out ≡ over (offered (tidying l f)) f.out
  pub shape : Done (tidying l f) → InShape a (offered (tidying l f))
  pub loads : Done (tidying l f) → (m : List ℕ) → Device c m → (x : Sending first_mode s) (z : Sending first_mode (offered (tidying l f)))
      → SameLoad l c m x z

-- on whatever device there is: here and below m is any memory that it has now
abbrev pub TidiesAll : Loader → Type 0
TidiesAll l = (c : Chain) (m s : List ℕ) → Device c m → (a : Accepted c s) (f : TidyFile a) → WellTidied l f

-- that leaves a tidier no other bytes, whatever it promises
abbrev pub OnlyTidied : Loader → Type 0
OnlyTidied l = (c : Chain) (m s : List ℕ) → Device c m → (a : Accepted c s) (f : TidyFile a) → Done (tidying l f)
    → offered (tidying l f) ≡ tidied (size_of (get_or c.kinds 0 0)) (s ++ f.after)

-- whatever is tidied begins with an accepted stream, so that the claims of files speak of all that is
abbrev pub TidiesOnly : Loader → Type 0
TidiesOnly l = (c : Chain) (m bs out : List ℕ) → Device c m → Bytes bs → Done (l.tidy (get_or c.kinds 0 0) bs out)
    → (n : ℕ) × Accepted c (take n bs)

-- ---- (ii): of two

-- the same head, and the same memory left for every memory of that kind, however each is cut; by clause (a) the cut makes no difference
pub record SameMeaning (l : Loader) {c : Chain} {s t : List ℕ} (a : Accepted c s) (b : Accepted c t) : Type 0 where
  pub head : SameHead (section a) (section b)
  pub memory : (m : List ℕ) → Device c m → (x : Sending first_mode s) (y : Sending first_mode t) → (left_by l c m x).memory ≡ (left_by l c m y).memory

-- equal bytes exactly when
abbrev pub OneFile : Loader → Type 0
OneFile l = (c : Chain) (m s t : List ℕ) → Device c m → (a : Accepted c s) (b : Accepted c t) (f : TidyFile a) (g : TidyFile b)
    → Done (tidying l f) → Done (tidying l g) → (offered (tidying l f) ≡ offered (tidying l g)) ↔ SameMeaning l a b

-- ---- (iii): twice

abbrev pub tidied_again : (l : Loader) → {c : Chain} {s : List ℕ} {a : Accepted c s} → TidyFile a → List ℕ → List ℕ → AfterWrite
tidied_again l {c} f after out = l.tidy (get_or c.kinds 0 0) (offered (tidying l f) ++ after) out

-- what was tidied, whatever follows it then, tidied again: an output as long has room, and the same bytes are written
abbrev pub Twice : Loader → Type 0
Twice l = (c : Chain) (m s : List ℕ) → Device c m → (a : Accepted c s) (f : TidyFile a) → Done (tidying l f) → (after out : List ℕ)
    → (length (offered (tidying l f)) ≤ length out → Done (tidied_again l f after out))
    × (Done (tidied_again l f after out) → offered (tidied_again l f after out) ≡ offered (tidying l f))
