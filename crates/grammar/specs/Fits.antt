-- Which sections fit a chain and what is stored in it, and the readings of a stream. The machine is not mentioned. Assumes nothing.
use Rattle.std.specs.Prelude.{ℕ, suc, ◌-◌, ◌≤◌, ◌<◌, false, ◌≡◌, List, [], ◌∷◌, eqb, length, get_or}
use Rattle.chain.specs.declared.Chain.{Chain}
use Rattle.chain.specs.Paper.{no_windows, writing, B2, B3, B4}
use Rattle.chain.specs.Kinds.{size_at}
use Rattle.chain.specs.Bytes.{Bytes}
use Rattle.grammar.specs.Sent.{Sent, bytes_of}
use Rattle.grammar.specs.Stream.{Window, Section, stream_sent}

-- a window that fits a device of that size
pub record Fits (size : ℕ) (w : Window) : Type 0 where
  pub order : w.start ≤ w.end
  pub inside : w.end < size
  pub full : length w.bytes ≡ suc (w.end - w.start)

abbrev pub AllFit : ℕ → List Window → Type 0
AllFit size [] = Unit {0}
AllFit size (w ∷ ws) = Fits size w × AllFit size ws

pub record SectionFits (size : ℕ) (s : Section) : Type 0 where
  pub few : length s.windows ≤ no_windows
  pub fit : AllFit size s.windows

-- the sections from device d on fit the chain; control bit 2 is set in the last at most
abbrev pub SectionsFit : Chain → ℕ → Section → List Section → Type 0
SectionsFit c d s [] = (d < c.count) × SectionFits (size_at c d) s
SectionsFit c d s (t ∷ ts) = (d < c.count) × SectionFits (size_at c d) s × (B2 s.control ≡ false) × SectionsFit c (suc d) t ts

-- a device lets a run in: its stored B4 is clear; in a check its stored B3, and B3 of the control byte sent to it, too
pub record Lets (check stored control : ℕ) : Type 0 where
  pub b4 : B4 stored ≡ false
  pub b3 : eqb check writing ≡ false → B3 stored ≡ false
  pub sent_b3 : eqb check writing ≡ false → B3 control ≡ false

-- each device met, from d on, lets the run in
abbrev pub AllLet : ℕ → List ℕ → ℕ → Section → List Section → Type 0
AllLet check g d s [] = Lets check (get_or g d 0) s.control
AllLet check g d s (t ∷ ts) = Lets check (get_or g d 0) s.control × AllLet check g (suc d) t ts

-- a stream that fits the chain and what is stored in it
pub record Fitting (c : Chain) (check mode : ℕ) (s : Section) (ss : List Section) : Type 0 where
  pub fits : SectionsFit c 0 s ss
  pub lets : AllLet check c.registers 0 s ss
  pub bytes : Bytes (bytes_of (stream_sent c mode s ss))

-- bit B4 is clear in every control byte
abbrev pub Clear : Section → List Section → Type 0
Clear s [] = B4 s.control ≡ false
Clear s (t ∷ ts) = (B4 s.control ≡ false) × Clear t ts

-- a reading of a stream: sections that fit the chain, and whose bytes it is
pub record Reading (c : Chain) (mode : ℕ) (bs : List ℕ) : Type 0 where
  pub first : Section
  pub others : List Section
  pub fits : SectionsFit c 0 first others
  pub bytes : bytes_of (stream_sent c mode first others) ≡ bs

-- each byte of the stream, with what it is meant for
abbrev pub meant : {c : Chain} {mode : ℕ} {bs : List ℕ} → Reading c mode bs → List Sent
meant {c} {mode} x = stream_sent c mode x.first x.others
