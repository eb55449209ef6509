-- The first demand in one statement: each call gives each number of documents 01 and 02 exactly under its condition there, and what a refusal leaves. Assumes nothing.
use Rattle.std.specs.Prelude.{ℕ, suc, ◌+◌, ◌%◌, ◌^◌, ◌<◌, ◌≢◌, ◌≡◌, List, [], ◌∷◌, length, take}
use Rattle.chain.specs.declared.Chain.{Chain}
use Rattle.chain.specs.Paper.{most_devices, done, more}
use Rattle.chain.specs.Set.{with_place, closed_place}
use Rattle.chain.specs.Calls.{no_chain, new_of, reset_of, reset_memory}
use Rattle.chain.specs.Output.{NothingWritten}
use Rattle.machine.specs.declared.Fed.{Fed}
use Rattle.machine.specs.Calls.{start_of, slice_of, slice_memory, drop_of}
use Rattle.saved.specs.Calls.{save_of, save_output, pick_up_of}
use Rattle.closing.specs.Calls.{closing_of, closing_output}
use Rattle.hunt.specs.declared.Hunted.{Hunted}
use Rattle.hunt.specs.Hunt.{hunt_of, hunt_out}
use Rattle.writer.specs.Write.{write_of, write_output}
use Rattle.lister.specs.declared.Listed.{Listed}
use Rattle.reader.specs.Stream.{preamble_at}
use Rattle.lister.specs.Listing.{listed_of, listed, Lists}
use Rattle.tidy.specs.Tidy.{tidy_of, tidy_output}
use Rattle.salvage.specs.declared.Salvaged.{Salvaged}
use Rattle.salvage.specs.Salvage.{salvage_of, salvage_output}
use Rattle.chain.specs.Bytes.{Bytes}
use Rattle.chain.specs.Table.{Table, chain_table, open_table, Running}
use Rattle.demands.specs.Table.{start_table, closing_table, save_table, PickUpNumbers, hunt_table, write_table, salvage_table}
use Rattle.demands.specs.ByteTable.{byte_table, slice_number, slice_table, ByteNumbers}
use Rattle.demands.specs.ListTable.{list_table, ListTaken, tidy_table}
use Rattle.demands.specs.FetchTable.{FetchNumbers, FetchLeaves}
use Rattle.demands.specs.SheetTable.{SheetNumbers, SheetLeaves}
use Rattle.demands.specs.Ours.{ours}

-- each number exactly when. The lister's stream is of bytes, as its type in the code says, and so is the tidier's
pub record Numbers : Type 0 where
  pub new : (count : ℕ) (kinds m : List ℕ) → Table (new_of count kinds (length m)).number (chain_table count kinds m) done
  pub reset : (c : Chain) (m : List ℕ) → Table (reset_of c (length m)).number (chain_table c.count c.kinds m) done
  pub start : (c : Chain) (m : List ℕ) (mode check : ℕ) → Table (start_of c (length m) mode check).number (start_table c m mode) done
  pub byte : (c : Chain) (m : List ℕ) (b : ℕ) → Table (slice_of c m (b ∷ [])).answer.number (byte_table c m b) more
  pub byte_own : (c : Chain) (m : List ℕ) (b : ℕ) → Running c m → ByteNumbers (slice_number c m (b ∷ [])) c b
  pub slice : (c : Chain) (m s : List ℕ) → Table (slice_of c m s).answer.number (slice_table c m s) more
  pub drop : (c : Chain) (m : List ℕ) → Table (drop_of c (length m)).number (open_table c m []) done
  pub closing : (c : Chain) (m out : List ℕ) → Table (closing_of c m (length out)).number (closing_table c m out) done
  pub save : (c : Chain) (m out : List ℕ) → Table (save_of c (length m) (length out)).number (save_table c m out) done
  pub pick_up : (c : Chain) (m s : List ℕ) → PickUpNumbers c m s
  pub hunt : (s out : List ℕ) → Table (hunt_of s (length out)).number (hunt_table s out) done
  pub write : (kind mode control : ℕ) (address starts ends bytes out : List ℕ)
      → Table (write_of kind mode control address starts ends bytes (length out)).number (write_table kind mode control address starts ends bytes out) done
  pub list : (kind mode : ℕ) (s : List ℕ) → Bytes s → (starts ends offsets : List ℕ)
      → Table (listed_of s (preamble_at mode) (listed kind mode s starts ends offsets)).number (list_table kind mode s starts ends offsets) done
  pub list_taken : (kind mode : ℕ) (s : List ℕ) → Bytes s → (starts ends offsets : List ℕ)
      → ListTaken kind mode s (listed_of s (preamble_at mode) (listed kind mode s starts ends offsets)).taken
  pub tidy : (kind : ℕ) (s : List ℕ) → Bytes s → (out : List ℕ) → Table (tidy_of kind s (length out)).number (tidy_table kind s out) done
  pub salvage : (kind : ℕ) (s out : List ℕ) → Table (salvage_of kind s (length out)).number (salvage_table kind s out) done
  pub fetch : FetchNumbers ours
  pub sheet : SheetNumbers ours

-- what a slice that 1, 17 or 4 refuses leaves
pub record AsLent (c : Chain) (m s : List ℕ) : Type 0 where
  pub chain : (slice_of c m s).chain ≡ c
  pub memory : slice_memory c m s ≡ m
  pub taken : (slice_of c m s).answer.taken ≡ 0
  pub mismatches : (slice_of c m s).answer.mismatches ≡ 0

-- a byte that ends a run, with those counts, in the state c and the memory m: it counts as taken, closes the run, and changes no cell, no
-- register and no count of mismatches. f is the answer, m' the memory left
pub record Ended (c : Chain) (m : List ℕ) (taken mismatches : ℕ) (f : Fed) (m' : List ℕ) : Type 0 where
  pub chain : f.chain ≡ with_place c closed_place
  pub memory : m' ≡ m
  pub taken_one_more : f.answer.taken ≡ (taken + 1) % 2 ^ 32
  pub mismatches_kept : f.answer.mismatches ≡ mismatches % 2 ^ 32

-- a slice that ends at its byte k; what earlier bytes stored stays
abbrev pub EndedAt : Chain → List ℕ → List ℕ → ℕ → Type 0
EndedAt c m s k =
    let f = slice_of c m (take k s) in
    Ended f.chain (slice_memory c m (take k s)) f.answer.taken f.answer.mismatches (slice_of c m s) (slice_memory c m s)

-- the same of a byte call
abbrev pub ByteEnded : Chain → List ℕ → ℕ → Type 0
ByteEnded c m b = Ended c m c.place.taken c.place.mismatches (slice_of c m (b ∷ [])) (slice_memory c m (b ∷ []))

-- a refused listing: all but the number and the bytes taken is 0, and the tables are as lent
pub record ListRefused (starts ends offsets : List ℕ) (r : Listed) (starts' ends' offsets' : List ℕ) : Type 0 where
  pub windows : r.windows ≡ 0
  pub control : r.control ≡ 0
  pub address : r.address ≡ 0 ∷ 0 ∷ 0 ∷ []
  pub starts_kept : starts' ≡ starts
  pub ends_kept : ends' ≡ ends
  pub offsets_kept : offsets' ≡ offsets

-- a refused hunt: p, the bits left and the length are 0, and the output is as lent
pub record HuntRefused (out : List ℕ) (h : Hunted) (out' : List ℕ) : Type 0 where
  pub p : h.p ≡ 0
  pub left : h.left ≡ 0
  pub nothing : NothingWritten h.length out out'

-- refused salvage: the change list is 0 but for its number, and the output is as lent
pub record SalvageRefused (out : List ℕ) (r : Salvaged) (out' : List ℕ) : Type 0 where
  pub kept : r.kept ≡ 0
  pub announced : r.announced ≡ 0
  pub end : r.end ≡ 0
  pub offset : r.offset ≡ 0
  pub nothing : NothingWritten r.length out out'

pub record Refusals : Type 0 where
  -- a refused new state is all zero
  pub new : (count : ℕ) (kinds m : List ℕ) → (new_of count kinds (length m)).number ≢ done → (new_of count kinds (length m)).chain ≡ no_chain
  pub reset : (c : Chain) (m : List ℕ) → (reset_of c (length m)).number ≢ done → ((reset_of c (length m)).chain ≡ c) × (reset_memory c m ≡ m)
  pub start : (c : Chain) (m : List ℕ) (mode check : ℕ) → (start_of c (length m) mode check).number ≢ done
      → (start_of c (length m) mode check).chain ≡ c
  pub byte : (c : Chain) (m : List ℕ) (b : ℕ) → Running c m → slice_number c m (b ∷ []) ≢ more → ByteEnded c m b
  pub slice : (c : Chain) (m s : List ℕ) → (Running c m → ⊥) → AsLent c m s
  pub slice_ended : (c : Chain) (m s : List ℕ) (k : ℕ) → k < length s → slice_number c m (take k s) ≡ more
      → slice_number c m (take (suc k) s) ≢ more → EndedAt c m s k
  -- 16 leaves the run open after those bytes: the state takes the next one. That bytes are below 256, and registers eight, the types say
  pub slice_more : (c : Chain) (m s : List ℕ) → Bytes s → length c.registers ≡ most_devices → slice_number c m s ≡ more
      → Running (slice_of c m s).chain (slice_memory c m s)
  pub drop : (c : Chain) (m : List ℕ) → (drop_of c (length m)).number ≢ done → (drop_of c (length m)).chain ≡ c
  -- and a drop that is done closes the place and leaves the rest
  pub dropped : (c : Chain) (m : List ℕ) → (drop_of c (length m)).number ≡ done → (drop_of c (length m)).chain ≡ with_place c closed_place
  pub closing : (c : Chain) (m out : List ℕ) → (closing_of c m (length out)).number ≢ done
      → NothingWritten (closing_of c m (length out)).length out (closing_output c m out)
  pub save : (c : Chain) (m out : List ℕ) → (save_of c (length m) (length out)).number ≢ done
      → NothingWritten (save_of c (length m) (length out)).length out (save_output c (length m) out)
  pub pick_up : (c : Chain) (m s : List ℕ) → (pick_up_of c (length m) s).number ≢ done → (pick_up_of c (length m) s).chain ≡ c
  pub hunt : (s out : List ℕ) → (hunt_of s (length out)).number ≢ done → HuntRefused out (hunt_of s (length out)) (hunt_out s out)
  pub write : (kind mode control : ℕ) (address starts ends bytes out : List ℕ)
      → (write_of kind mode control address starts ends bytes (length out)).number ≢ done
      → NothingWritten (write_of kind mode control address starts ends bytes (length out)).length out (write_output kind mode control address starts ends bytes out)
  pub list : (kind mode : ℕ) (s starts ends offsets : List ℕ) (r : Listed) (starts' ends' offsets' : List ℕ)
      → Lists kind mode s starts ends offsets r starts' ends' offsets' → r.number ≢ done
      → ListRefused starts ends offsets r starts' ends' offsets'
  pub tidy : (kind : ℕ) (s out : List ℕ) → (tidy_of kind s (length out)).number ≢ done
      → NothingWritten (tidy_of kind s (length out)).length out (tidy_output kind s out)
  pub salvage : (kind : ℕ) (s out : List ℕ) → (salvage_of kind s (length out)).number ≢ done
      → SalvageRefused out (salvage_of kind s (length out)) (salvage_output kind s out)
  pub fetch : FetchLeaves ours
  pub sheet : SheetLeaves ours

pub record Demand1 : Type 0 where
  pub numbers : Numbers
  pub refusals : Refusals
