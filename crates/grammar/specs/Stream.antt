-- The grammar of a stream: which bytes it has, and what each is meant for. The machine is not mentioned. Assumes nothing.
use Rattle.std.specs.Prelude.{ℕ, suc, ◌+◌, ◌-◌, List, [], ◌∷◌, ◌++◌, eqb, length}
use Rattle.chain.specs.declared.Chain.{Chain}
use Rattle.chain.specs.Paper.{preamble, postamble, no_windows, two_preambles}
use Rattle.chain.specs.Rules.{pick}
use Rattle.chain.specs.Kinds.{base_of}
use Rattle.chain.specs.Window.{high_byte, low_byte}
use Rattle.grammar.specs.Sent.{register, cell, Sent, frame}

pub record Window : Type 0 where
  pub null : ℕ
  pub start : ℕ
  pub end : ℕ
  pub bytes : List ℕ

pub record Section : Type 0 where
  pub control : ℕ
  pub address0 : ℕ
  pub address1 : ℕ
  pub address2 : ℕ
  pub windows : List Window

-- data bytes, for the cells from i on
abbrev pub data_sent : ℕ → List ℕ → List Sent
data_sent i [] = []
data_sent i (b ∷ bs) = record { byte = b; to = cell i } ∷ data_sent (suc i) bs

-- a window, on a device whose memory begins at base: null, start and end (high, low), its data bytes
abbrev pub window_sent : ℕ → Window → List Sent
window_sent base w =
    frame w.null ∷ frame (high_byte w.start) ∷ frame (low_byte w.start) ∷ frame (high_byte w.end) ∷ frame (low_byte w.end)
    ∷ data_sent (base + w.start) w.bytes

abbrev pub windows_sent : ℕ → List Window → List Sent
windows_sent base [] = []
windows_sent base (w ∷ ws) = window_sent base w ++ windows_sent base ws

-- the head of a section of n windows for device d: the count is the ones' complement of n, FE for 1 and FF for none
abbrev pub head_sent : ℕ → ℕ → ℕ → ℕ → ℕ → ℕ → List Sent
head_sent d control address0 address1 address2 n =
    record { byte = control; to = register d } ∷ frame address0 ∷ frame address1 ∷ frame address2 ∷ frame (no_windows - n) ∷ []

-- the section of device d, whose memory begins at base
abbrev pub section_sent : ℕ → ℕ → Section → List Sent
section_sent base d s =
    head_sent d s.control s.address0 s.address1 s.address2 (length s.windows) ++ windows_sent base s.windows

-- the last section, and the postamble
abbrev pub last_sent : ℕ → ℕ → Section → List Sent
last_sent base d s = section_sent base d s ++ (frame postamble ∷ [])

-- where a device's memory begins in the chain's
abbrev pub base_at : Chain → ℕ → ℕ
base_at c d = base_of c.kinds d

-- the sections from device d on: each but the last is followed by a preamble
abbrev pub sections_sent : Chain → ℕ → Section → List Section → List Sent
sections_sent c d s [] = last_sent (base_at c d) d s
sections_sent c d s (t ∷ ts) = section_sent (base_at c d) d s ++ (frame preamble ∷ sections_sent c (suc d) t ts)

-- one preamble, in mode 6 two
abbrev pub lead_sent : ℕ → List Sent
lead_sent mode = pick (eqb mode two_preambles) (frame preamble ∷ frame preamble ∷ []) (frame preamble ∷ [])

-- the whole stream: at least one section
abbrev pub stream_sent : Chain → ℕ → Section → List Section → List Sent
stream_sent c mode s ss = lead_sent mode ++ sections_sent c 0 s ss
