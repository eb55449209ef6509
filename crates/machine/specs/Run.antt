-- A run: what each byte does to the place, the registers, the memory and the counts, byte after byte. Assumes nothing.
use Rattle.std.specs.Prelude.{ℕ, ◌+◌, ◌%◌, ◌^◌, Bool, ◌&&◌, List, [], ◌∷◌, ◌==◌, slice_index, slice_set}
use Rattle.cells.specs.Differ.{unlike_of}
use Rattle.chain.specs.declared.Chain.{Chain}
use Rattle.chain.specs.declared.Place.{Place}
use Rattle.chain.specs.Paper.{at_control, at_data, closed, writing, more}
use Rattle.chain.specs.Rules.{pick}
use Rattle.chain.specs.Set.{with_running, with_taken, with_mismatches, with_place}
use Rattle.chain.specs.Kinds.{base_of}
use Rattle.awaited.specs.Byte.{awaits, checks, number_of, advance_of}

-- a run is a write
abbrev pub writes : Chain → Bool
writes c = c.place.check == writing

-- the awaited cell, in the chain's one memory
unfoldable pub address_of : Chain → ℕ
address_of c = base_of c.kinds c.place.device + c.place.next

-- in a write a data byte is stored in its cell at once; a check stores none
unfoldable pub memory_of : Chain → List ℕ → ℕ → List ℕ
memory_of c m b = pick (awaits c at_data && writes c) (slice_set m (address_of c) b) m

-- the control byte is loaded when taken, in a write and in a check
unfoldable pub registers_of : Chain → ℕ → List ℕ
registers_of c b = pick (awaits c at_control) (slice_set c.registers c.place.device b) c.registers

-- 1 where a check's data byte differs from its cell
unfoldable pub missed_of : Chain → List ℕ → ℕ → ℕ
missed_of c m b = pick (awaits c at_data && checks c) (unlike_of (slice_index m (address_of c)) b) 0

-- n bytes more taken, k of them mismatches: both counts are kept modulo 2^32
abbrev pub counted : Place → ℕ → ℕ → Place
counted p n k = with_mismatches (with_taken p ((p.taken + n) % 2 ^ 32)) ((p.mismatches + k) % 2 ^ 32)

-- a run is over at its last byte, which counts as taken
abbrev pub ended : Chain → Chain
ended c = with_place c (with_running (counted c.place 1 0) closed)

-- what a run has come to: 16 while it goes on
pub record Run : Type 0 where
  pub chain : Chain
  pub memory : List ℕ
  pub number : ℕ

abbrev pub run : Chain → List ℕ → ℕ → Run
run c m n = record { chain = c; memory = m; number = n }

-- a run goes on after the byte b, with k mismatches more
abbrev pub gone_on : Chain → ℕ → ℕ → Chain
gone_on c k b =
    record {
      count = c.count;
      kinds = c.kinds;
      registers = registers_of c b;
      place = advance_of (counted c.place 1 k) b;
    }

abbrev pub went_on : Chain → List ℕ → ℕ → Chain
went_on c m b = gone_on c (missed_of c m b) b

-- one byte: the run goes on, or it is over and the byte changes no cell and no register
unfoldable pub step_of : Chain → List ℕ → ℕ → Run
step_of c m b =
    pick (number_of c b == more) (run (went_on c m b) (memory_of c m b) more)
    (run (ended c) m (number_of c b))

-- a run that is over does not look at later bytes
abbrev pub on_byte : Run → ℕ → Run
on_byte r b = pick (r.number == more) (step_of r.chain r.memory b) r

unfoldable pub run_of : Run → List ℕ → Run
run_of r [] = r
run_of r (b ∷ bs) = run_of (on_byte r b) bs
