-- One stream of a sheet: loaded into the device as the streams before it left it, its row, and how it leaves the device. Assumes nothing.
use Rattle.std.specs.Prelude.{ℕ, ◌+◌, ◌*◌, Bool, ◌&&◌, List, ◌∷◌, eqb, length, replicate}
use Rattle.chain.specs.declared.Chain.{Chain}
use Rattle.chain.specs.Paper.{serial, writing, no_preamble, more}
use Rattle.chain.specs.Rules.{pick}
use Rattle.chain.specs.Kinds.{size_of}
use Rattle.chain.specs.Calls.{fresh_chain}
use Rattle.machine.specs.Run.{Run, run, run_of}
use Rattle.machine.specs.Calls.{start_of, fed_of}
use Rattle.closing.specs.Closing.{closing_bytes}
use Rattle.hunt.specs.Hunt.{nowhere, found_at, hunted_bytes}
use Rattle.grammar.specs.Stores.{Put, puts_of}
use Rattle.sheet.specs.declared.Sheet.{Sheet}
use Rattle.sheet.specs.Count.{cells_stored, bits_over}

-- the device between two streams: a chain of one with no run open, and its memory
pub record Device : Type 0 where
  pub chain : Chain
  pub memory : List ℕ

abbrev pub device : Chain → List ℕ → Device
device c m = record { chain = c; memory = m }

-- one reset device of a kind
abbrev pub reset_device : ℕ → Device
reset_device kind = device (fresh_chain 1 (kind ∷ replicate 7 0)) (replicate (size_of kind) 0)

-- ---- what the machine is fed

-- serial streams are hunted first; this is p, which parallel ones do not have
abbrev pub shift_of : ℕ → List ℕ → ℕ
shift_of mode s = pick (serial mode) (found_at s) 0

abbrev pub hunt_fails : ℕ → List ℕ → Bool
hunt_fails mode s = serial mode && eqb (found_at s) nowhere

abbrev pub bytes_of_stream : ℕ → List ℕ → List ℕ
bytes_of_stream mode s = pick (serial mode) (hunted_bytes s) s

-- ---- its load

-- a write is started
abbrev pub started : Device → ℕ → Chain
started d mode = (start_of d.chain (length d.memory) mode writing).chain

-- what the stream's bytes come to, and what they store
unfoldable pub load_of : Device → ℕ → List ℕ → Run
load_of d mode s = run_of (run (started d mode) d.memory more) (bytes_of_stream mode s)

unfoldable pub stores_of : Device → ℕ → List ℕ → List Put
stores_of d mode s = puts_of (started d mode) (bytes_of_stream mode s)

-- a stream that runs out is closed by closing bytes
abbrev pub closed_run : Run → Run
closed_run r = pick (eqb r.number more) (run_of r (closing_bytes r.chain r.memory)) r

-- the device after the stream; where the hunt fails no byte reaches it
unfoldable pub left_by : Device → ℕ → List ℕ → Device
left_by d mode s =
    pick (hunt_fails mode s) d (device (fed_of (closed_run (load_of d mode s))).chain (closed_run (load_of d mode s)).memory)

-- ---- its row

-- clock edges: one per byte in parallel modes, eight per byte in serial ones
abbrev pub edges_per_byte : ℕ → ℕ
edges_per_byte mode = pick (serial mode) 8 1

-- 3 or 24 to idle, always
abbrev pub idle_edges : ℕ → ℕ
idle_edges mode = pick (serial mode) 24 3

-- a failed hunt
abbrev pub unfound_row : ℕ → Sheet
unfound_row mode = record { number = no_preamble; taken = 0; «data» = 0; cells = 0; again = 0; bits = 0; edges = idle_edges mode }

-- the figures of a load: with 16 and with a refusal those up to there, the refused byte among the bytes taken. Closing bytes are not counted
abbrev pub loaded_row : Device → ℕ → List ℕ → Sheet
loaded_row d mode s =
    let r = load_of d mode s in
    let ps = stores_of d mode s in
    let size = length d.memory in
    record {
      number = r.number;
      taken = r.chain.place.taken;
      «data» = length ps;
      cells = cells_stored size 1 ps;
      again = cells_stored size 2 ps;
      bits = bits_over size d.memory r.memory;
      edges = edges_per_byte mode * r.chain.place.taken + shift_of mode s + idle_edges mode;
    }

unfoldable pub row_of : Device → ℕ → List ℕ → Sheet
row_of d mode s = pick (hunt_fails mode s) (unfound_row mode) (loaded_row d mode s)
