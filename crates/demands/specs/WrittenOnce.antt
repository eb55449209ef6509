-- Document 02, wish 9: two patches made one by lister and writer, as a predicate over a loader. Both files are listed, their tables and their data put
-- one after another, and written once. Assumes nothing.
use Rattle.std.specs.Prelude.{ℕ, ◌+◌, ◌≤◌, ◌≡◌, List, [], ◌∷◌, ◌++◌, length, get_or}
use Rattle.chain.specs.declared.Chain.{Chain}
use Rattle.chain.specs.Paper.{done}
use Rattle.chain.specs.Bytes.{Bytes}
use Rattle.grammar.specs.Sent.{bytes_of}
use Rattle.grammar.specs.Stream.{Section, stream_sent}
use Rattle.grammar.specs.Tables.{nulled}
use Rattle.writer.specs.Write.{most_windows}
use Rattle.demands.specs.Loader.{Loader, AfterWrite, offered, AfterList, Mode}
use Rattle.demands.specs.Files.{wanted, given, Room, front, listed_data}
use Rattle.demands.specs.Patches.{Device, Patch, windows_in, Sending, AsOne}

-- a patch's file, which may go on after the patch, and three tables that have room for its windows
pub record File {c : Chain} {mode : ℕ} {s : List ℕ} (p : Patch c mode s) : Type 0 where
  pub after : List ℕ
  pub after_bytes : Bytes after
  pub starts : List ℕ
  pub ends : List ℕ
  pub offsets : List ℕ
  pub room : Room (length (windows_in p)) starts ends offsets

-- its listing, and the data that the listing gives
abbrev pub file_listing : Loader → {c : Chain} {mode : ℕ} {s : List ℕ} {p : Patch c mode s} → File p → AfterList
file_listing l {c} {mode} {s} f = l.list (get_or c.kinds 0 0) mode (s ++ f.after) f.starts f.ends f.offsets

abbrev pub file_data : Loader → {c : Chain} {mode : ℕ} {s : List ℕ} {p : Patch c mode s} → File p → List ℕ
file_data l {c} {mode} {s} f = listed_data mode (s ++ f.after) (file_listing l f)

-- both listings written once in mode o, with the control byte and the address of the section u
abbrev pub written_once : Loader → {c : Chain} {k n : ℕ} {s t : List ℕ} {p : Patch c k s} {q : Patch c n t} → File p → File q → ℕ → Section → List ℕ → AfterWrite
written_once l {c} f g o u out =
    let a = file_listing l f in
    let b = file_listing l g in
    l.write (get_or c.kinds 0 0) o u.control (u.address0 ∷ u.address1 ∷ u.address2 ∷ [])
    (front a a.starts ++ front b b.starts) (front a a.ends ++ front b b.ends) (file_data l f ++ file_data l g) out

-- both files list, and w, what was written from their listings, is done where the output has room, for which as many bytes as both patches have are
-- enough. What is written is u with the lead-in of the mode; sent in any cut, in modes 3 and 4 hunted, it leaves the memory that the one patch and then the
-- other leave
pub record WritesOne (l : Loader) {c : Chain} (m : List ℕ) {k n : ℕ} {s t : List ℕ} {p : Patch c k s} {q : Patch c n t} (f : File p) (g : File q)
    (o : ℕ) (u : Section) (out : List ℕ) (w : AfterWrite) : Type 0 where
  pub lists : ((file_listing l f).listed.number ≡ done) × ((file_listing l g).listed.number ≡ done)
  pub room : length (wanted o u) ≤ length s + length t
  pub number : length (wanted o u) ≤ length out → w.written.number ≡ done
  pub bytes : w.written.number ≡ done → offered w ≡ wanted o u
  pub stream : w.written.number ≡ done → given l o (offered w) ≡ bytes_of (stream_sent c o u [])
  pub as_one : w.written.number ≡ done → (x : Sending k s) (y : Sending n t) (z : Sending o (given l o (offered w))) → AsOne l c m x y z

-- u has the windows of both, null bytes 00
abbrev pub WrittenAsOne : Loader → Type 0
WrittenAsOne l = (c : Chain) (m : List ℕ) (k n o : ℕ) (s t : List ℕ) (u : Section) → Device c m → (p : Patch c k s) (q : Patch c n t)
    → length (windows_in p) + length (windows_in q) ≤ most_windows → u.windows ≡ nulled (windows_in p ++ windows_in q)
    → Mode o → Bytes (bytes_of (stream_sent c o u [])) → (f : File p) (g : File q) (out : List ℕ)
    → WritesOne l m f g o u out (written_once l f g o u out)
