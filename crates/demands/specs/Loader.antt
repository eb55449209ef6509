-- What a caller sees of a loader: each call as a function of what it is lent, with what it leaves there. Assumes nothing.
use Rattle.std.specs.Prelude.{ℕ, ◌≤◌, ◌≡◌, List, length, take}
use Rattle.chain.specs.declared.Chain.{Chain}
use Rattle.chain.specs.declared.Made.{Made}
use Rattle.chain.specs.declared.Written.{Written}
use Rattle.chain.specs.Paper.{closed, done, first_mode, two_preambles}
use Rattle.chain.specs.State.{state_number, feed_number}
use Rattle.machine.specs.declared.Fed.{Fed}
use Rattle.hunt.specs.declared.Hunted.{Hunted}
use Rattle.lister.specs.declared.Listed.{Listed}
use Rattle.salvage.specs.declared.Salvaged.{Salvaged}
use Rattle.eprom.specs.declared.Fetcher.{Fetcher}
use Rattle.eprom.specs.declared.Fetched.{Fetched}
use Rattle.sheet.specs.declared.Sheet.{Sheet}
use Rattle.chain.specs.Bytes.{Bytes}

-- a slice's answer and the memory it leaves
pub record AfterSlice : Type 0 where
  pub fed : Fed
  pub memory : List ℕ

-- a writing call's answer and the output it leaves
pub record AfterWrite : Type 0 where
  pub written : Written
  pub out : List ℕ

-- the bytes that it wrote
abbrev pub offered : AfterWrite → List ℕ
offered w = take w.written.length w.out

-- a hunt's
pub record AfterHunt : Type 0 where
  pub hunted : Hunted
  pub out : List ℕ

-- a listing's answer and the three tables it leaves
pub record AfterList : Type 0 where
  pub listed : Listed
  pub starts : List ℕ
  pub ends : List ℕ
  pub offsets : List ℕ

-- salvage's answer and the output it leaves
pub record AfterSalvage : Type 0 where
  pub salvaged : Salvaged
  pub out : List ℕ

-- the bytes that it wrote
abbrev pub rescued : AfterSalvage → List ℕ
rescued w = take w.salvaged.length w.out

-- a fetch's answer and the memory it leaves
pub record AfterFetch : Type 0 where
  pub fetched : Fetched
  pub memory : List ℕ

-- a sheet's sums and the two tables it leaves
pub record AfterSheet : Type 0 where
  pub sums : Sheet
  pub numbers : List ℕ
  pub figures : List ℕ

-- the parameters stand in the calls' own order
pub record Loader : Type 0 where
  pub start : Chain → List ℕ → ℕ → ℕ → Made
  pub slice : Chain → List ℕ → List ℕ → AfterSlice
  pub closing : Chain → List ℕ → List ℕ → AfterWrite
  pub write : ℕ → ℕ → ℕ → List ℕ → List ℕ → List ℕ → List ℕ → List ℕ → AfterWrite
  pub list : ℕ → ℕ → List ℕ → List ℕ → List ℕ → List ℕ → AfterList
  pub hunt : List ℕ → List ℕ → AfterHunt
  pub tidy : ℕ → List ℕ → List ℕ → AfterWrite
  pub salvage : ℕ → List ℕ → List ℕ → AfterSalvage
  pub fetch : Chain → Fetcher → List ℕ → List ℕ → ℕ → AfterFetch
  pub sheet : ℕ → ℕ → List ℕ → List ℕ → List ℕ → List ℕ → AfterSheet

-- a loader with one call replaced
abbrev pub with_start : Loader → (Chain → List ℕ → ℕ → ℕ → Made) → Loader
with_start l f = record { start = f; slice = l.slice; closing = l.closing; write = l.write; list = l.list; hunt = l.hunt; tidy = l.tidy; salvage = l.salvage; fetch = l.fetch; sheet = l.sheet }

abbrev pub with_slice : Loader → (Chain → List ℕ → List ℕ → AfterSlice) → Loader
with_slice l f = record { start = l.start; slice = f; closing = l.closing; write = l.write; list = l.list; hunt = l.hunt; tidy = l.tidy; salvage = l.salvage; fetch = l.fetch; sheet = l.sheet }

abbrev pub with_closing : Loader → (Chain → List ℕ → List ℕ → AfterWrite) → Loader
with_closing l f = record { start = l.start; slice = l.slice; closing = f; write = l.write; list = l.list; hunt = l.hunt; tidy = l.tidy; salvage = l.salvage; fetch = l.fetch; sheet = l.sheet }

abbrev pub with_list : Loader → (ℕ → ℕ → List ℕ → List ℕ → List ℕ → List ℕ → AfterList) → Loader
with_list l f = record { start = l.start; slice = l.slice; closing = l.closing; write = l.write; list = f; hunt = l.hunt; tidy = l.tidy; salvage = l.salvage; fetch = l.fetch; sheet = l.sheet }

abbrev pub with_hunt : Loader → (List ℕ → List ℕ → AfterHunt) → Loader
with_hunt l f = record { start = l.start; slice = l.slice; closing = l.closing; write = l.write; list = l.list; hunt = f; tidy = l.tidy; salvage = l.salvage; fetch = l.fetch; sheet = l.sheet }

abbrev pub with_tidy : Loader → (ℕ → List ℕ → List ℕ → AfterWrite) → Loader
with_tidy l f = record { start = l.start; slice = l.slice; closing = l.closing; write = l.write; list = l.list; hunt = l.hunt; tidy = f; salvage = l.salvage; fetch = l.fetch; sheet = l.sheet }

abbrev pub with_salvage : Loader → (ℕ → List ℕ → List ℕ → AfterSalvage) → Loader
with_salvage l f = record { start = l.start; slice = l.slice; closing = l.closing; write = l.write; list = l.list; hunt = l.hunt; tidy = l.tidy; salvage = f; fetch = l.fetch; sheet = l.sheet }

abbrev pub with_fetch : Loader → (Chain → Fetcher → List ℕ → List ℕ → ℕ → AfterFetch) → Loader
with_fetch l f = record { start = l.start; slice = l.slice; closing = l.closing; write = l.write; list = l.list; hunt = l.hunt; tidy = l.tidy; salvage = l.salvage; fetch = f; sheet = l.sheet }

abbrev pub with_sheet : Loader → (ℕ → ℕ → List ℕ → List ℕ → List ℕ → List ℕ → AfterSheet) → Loader
with_sheet l f = record { start = l.start; slice = l.slice; closing = l.closing; write = l.write; list = l.list; hunt = l.hunt; tidy = l.tidy; salvage = l.salvage; fetch = l.fetch; sheet = f }

-- a lent chain that no number refuses, with no run open: eight kinds and registers, and bytes, as the types of the code say
pub record Idle (c : Chain) (m : List ℕ) : Type 0 where
  pub kinds : length c.kinds ≡ 8
  pub registers : length c.registers ≡ 8
  pub register_bytes : Bytes c.registers
  pub memory_bytes : Bytes m
  pub sound : state_number c (length m) ≡ done
  pub is_closed : c.place.running ≡ closed

-- the same with a run open, to which bytes can be fed: not 1, 17 or 4
pub record Open (c : Chain) (m : List ℕ) : Type 0 where
  pub kinds : length c.kinds ≡ 8
  pub registers : length c.registers ≡ 8
  pub register_bytes : Bytes c.registers
  pub memory_bytes : Bytes m
  pub sound : feed_number c (length m) ≡ done

pub record Mode (mode : ℕ) : Type 0 where
  pub least : first_mode ≤ mode
  pub most : mode ≤ two_preambles
