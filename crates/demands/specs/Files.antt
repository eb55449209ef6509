-- The second demand, clauses (b) and (c): what is written is such a stream, lists as its windows and loads; one section that is accepted,
-- listed and written again, gives its own bytes, lead-in and null bytes apart. Assumes nothing.
use Rattle.std.specs.Prelude.{ℕ, ◌+◌, ◌-◌, ◌≤◌, ◌||◌, eqb, ◌≡◌, List, [], ◌∷◌, ◌++◌, length, get_or, take, drop, replicate}
use Rattle.chain.specs.declared.Chain.{Chain}
use Rattle.chain.specs.Paper.{done, serial_external, serial_internal}
use Rattle.chain.specs.Rules.{pick}
use Rattle.chain.specs.Kinds.{size_of}
use Rattle.chain.specs.Calls.{no_chain}
use Rattle.writer.specs.Stream.{lead_in, section_of}
use Rattle.reader.specs.Stream.{preamble_at}
use Rattle.demands.specs.Loader.{Loader, AfterWrite, offered, AfterList, Idle, Mode}
use Rattle.demands.specs.Demand2.{ran, Loads}
use Rattle.chain.specs.Bytes.{Bytes}
use Rattle.grammar.specs.Fits.{SectionFits, Lets, Reading}
use Rattle.grammar.specs.Sent.{bytes_of}
use Rattle.grammar.specs.Stream.{Window, Section, sections_sent, stream_sent}
use Rattle.grammar.specs.Tables.{starts, ends, offsets, cells, nulled, nulls_off}

-- the data of listed windows, picked up in the stream: offsets count from position p
abbrev pub gathered : ℕ → List ℕ → List ℕ → List ℕ → List ℕ → List ℕ
gathered p s [] es os = []
gathered p s (a ∷ ss) [] os = []
gathered p s (a ∷ ss) (e ∷ es) [] = []
gathered p s (a ∷ ss) (e ∷ es) (o ∷ os) = take (e - a + 1) (drop (p + o) s) ++ gathered p s ss es os

-- the bytes of a section as the writer is to write it in a mode: the same in every chain
abbrev pub wanted : ℕ → Section → List ℕ
wanted mode s = lead_in mode ++ bytes_of (sections_sent no_chain 0 s [])

-- the bytes that the machine and the lister are given of a stream: in modes 3 and 4 the hunted ones, for which an output as long has room
abbrev pub given : Loader → ℕ → List ℕ → List ℕ
given l mode bs =
    pick (eqb mode serial_external || eqb mode serial_internal)
    (take (l.hunt bs (replicate (length bs) 0)).hunted.length (l.hunt bs (replicate (length bs) 0)).out)
    bs

-- three tables have room for n windows
pub record Room (n : ℕ) (ts te to : List ℕ) : Type 0 where
  pub starts : n ≤ length ts
  pub ends : n ≤ length te
  pub offsets : n ≤ length to

-- the front part of a listing's table, one entry for each window; and the windows' data, picked up in the stream bs
abbrev pub front : AfterList → List ℕ → List ℕ
front a table = take a.listed.windows table

abbrev pub listed_data : ℕ → List ℕ → AfterList → List ℕ
listed_data mode bs a = gathered (preamble_at mode) bs (front a a.starts) (front a a.ends) (front a a.offsets)

-- a listing says what a section holds, t bytes taken
pub record ListsAs (mode : ℕ) (bs : List ℕ) (t : ℕ) (s : Section) (a : AfterList) : Type 0 where
  pub number : a.listed.number ≡ done
  pub taken : a.listed.taken ≡ t
  pub control : a.listed.control ≡ s.control
  pub address : a.listed.address ≡ s.address0 ∷ s.address1 ∷ s.address2 ∷ []
  pub windows : a.listed.windows ≡ length s.windows
  pub starts : front a a.starts ≡ starts s.windows
  pub ends : front a a.ends ≡ ends s.windows
  pub offsets : front a a.offsets ≡ offsets 6 s.windows
  pub cells : listed_data mode bs a ≡ cells s.windows

-- clause (b): the windows that the writer was given, with null bytes 00, make a section that fits, head being its other parts; bs, which
-- was written, is its stream, lists as it in any tables of room enough, and loads as it into any chain whose first device is of that kind
-- and lets it in: for a write, where B4 was clear before
pub record Wrote (l : Loader) (kind mode : ℕ) (head : List Window → Section) (ss es d bs : List ℕ) : Type 0 where
  pub windows : List Window
  pub fits : SectionFits (size_of kind) (head windows)
  pub nulls_zero : nulled windows ≡ windows
  pub starts_are : starts windows ≡ ss
  pub ends_are : ends windows ≡ es
  pub cells_are : cells windows ≡ d
  pub bytes : bs ≡ wanted mode (head windows)
  pub given_are : given l mode bs ≡ bytes_of (stream_sent no_chain mode (head windows) [])
  pub lists : (ts te to : List ℕ) → Room (length windows) ts te to
      → ListsAs mode (given l mode bs) (length (given l mode bs)) (head windows) (l.list kind mode (given l mode bs) ts te to)
  pub loads : (c : Chain) (m : List ℕ) (check : ℕ) → Idle c m → Mode mode → get_or c.kinds 0 0 ≡ kind
      → Lets check (get_or c.registers 0 0) (head windows).control
      → Loads l check mode c m (given l mode bs) (stream_sent c mode (head windows) [])

abbrev pub Demand2b : Loader → Type 0
Demand2b l = (kind mode control a0 a1 a2 : ℕ) (ss es d out : List ℕ) → Bytes (control ∷ a0 ∷ a1 ∷ a2 ∷ d)
    → (l.write kind mode control (a0 ∷ a1 ∷ a2 ∷ []) ss es d out).written.number ≡ done
    → Wrote l kind mode (section_of control (a0 ∷ a1 ∷ a2 ∷ [])) ss es d (offered (l.write kind mode control (a0 ∷ a1 ∷ a2 ∷ []) ss es d out))

-- written again from its listing
abbrev pub rewritten : Loader → ℕ → ℕ → List ℕ → AfterList → List ℕ → AfterWrite
rewritten l kind mode bs a out =
    l.write kind mode a.listed.control a.listed.address (front a a.starts) (front a a.ends) (listed_data mode bs a) out

-- clause (c): the listing a of bs, whose first t bytes are the section s, says so, and s is written again from it, with the lead-in of the
-- mode and the null bytes 00, where the output has room
pub record Again (l : Loader) (kind mode : ℕ) (bs : List ℕ) (t : ℕ) (s : Section) (a : AfterList) : Type 0 where
  pub lists : ListsAs mode bs t s a
  pub number : (out : List ℕ) → length (wanted mode (nulls_off s)) ≤ length out → (rewritten l kind mode bs a out).written.number ≡ done
  pub bytes : (out : List ℕ) → (rewritten l kind mode bs a out).written.number ≡ done → offered (rewritten l kind mode bs a out) ≡ wanted mode (nulls_off s)

-- for whatever a write or a check accepted of bs, where its reading has one section, as always in a chain of one device, and the tables
-- have room. Clause (e) says that there is a reading. In modes 3 and 4 bs is the hunted bytes
abbrev pub Demand2c : Loader → Type 0
Demand2c l = (c : Chain) (m : List ℕ) (check mode : ℕ) (bs ts te to : List ℕ) → Idle c m → Mode mode → Bytes bs
    → (ran l check mode c m [] bs).fed.answer.number ≡ done
    → (x : Reading c mode (take (ran l check mode c m [] bs).fed.answer.taken bs)) → x.others ≡ [] → Room (length x.first.windows) ts te to
    → Again l (get_or c.kinds 0 0) mode bs (ran l check mode c m [] bs).fed.answer.taken x.first (l.list (get_or c.kinds 0 0) mode bs ts te to)
