-- The table of numbers for each call, its conditions in the order of document 01, and for salvage of document 02. Bytes and slices are in ByteTable. Assumes nothing.
use Rattle.std.specs.Prelude.{ℕ, ◌+◌, ◌*◌, ◌<◌, ◌≤◌, ◌↔◌, ◌⊎◌, ◌≢◌, ◌≡◌, List, [], ◌∷◌, length, get_or}
use Rattle.chain.specs.declared.Chain.{Chain}
use Rattle.chain.specs.Paper.{preamble, closed, opened, done, bad_chain, bad_mode, run_open, no_preamble, bad_start, bad_end, bad_tables, bad_data, too_short, ill_formed, no_head}
use Rattle.chain.specs.Kinds.{size_of}
use Rattle.chain.specs.WellFormed.{Known, BadChain, IllFormed}
use Rattle.chain.specs.Table.{Claim, ◌when◌, state_table, open_table, NoMode}
use Rattle.saved.specs.Layout.{saved_length}
use Rattle.saved.specs.Calls.{pick_up_of}
use Rattle.closing.specs.Closing.{closing_bytes}
use Rattle.hunt.specs.Bits.{byte_at}
use Rattle.hunt.specs.Hunt.{nowhere, hunted_bytes}
use Rattle.writer.specs.Stream.{stream_of}
use Rattle.writer.specs.Write.{most_windows, sum_of}
use Rattle.reader.specs.Stream.{head_length}
use Rattle.salvage.specs.Salvage.{salvaged}
use Rattle.demands.specs.Formed.{WellSaved}

-- start: 2, and 3 while a run is open
abbrev pub start_table : Chain → List ℕ → ℕ → List Claim
start_table c m mode = state_table c m ((bad_mode when NoMode mode) ∷ (run_open when c.place.running ≡ opened) ∷ [])

-- ---- closing and the saved place

-- 15: output shorter than needed
abbrev pub closing_table : Chain → List ℕ → List ℕ → List Claim
closing_table c m out = open_table c m ((too_short when length out < length (closing_bytes c m)) ∷ [])

abbrev pub save_table : Chain → List ℕ → List ℕ → List Claim
save_table c m out = open_table c m ((too_short when length out < saved_length) ∷ [])

-- pick-up gives 17 twice, for the state and, after 3, for the place
pub record PickUpNumbers (c : Chain) (m s : List ℕ) : Type 0 where
  pub one : (pick_up_of c (length m) s).number ≡ bad_chain ↔ BadChain c.count c.kinds (length m)
  pub three : (pick_up_of c (length m) s).number ≡ run_open
      ↔ (BadChain c.count c.kinds (length m) → ⊥) × (IllFormed c → ⊥) × (c.place.running ≡ opened)
  pub seventeen : (pick_up_of c (length m) s).number ≡ ill_formed
      ↔ (BadChain c.count c.kinds (length m) → ⊥)
      × (IllFormed c ⊎ ((IllFormed c → ⊥) × (c.place.running ≡ closed) × (WellSaved c s → ⊥)))
  pub zero : (pick_up_of c (length m) s).number ≡ done
      ↔ (BadChain c.count c.kinds (length m) → ⊥) × (IllFormed c → ⊥) × (c.place.running ≡ closed) × WellSaved c s

-- ---- the hunt

-- eight bits of the slice stand at p and make B2
abbrev pub MakesPreamble : List ℕ → ℕ → Type 0
MakesPreamble s p = (p + 8 ≤ 8 * length s) × (byte_at s p ≡ preamble)

-- 5: no position, 0 to 64; then 15
abbrev pub hunt_table : List ℕ → List ℕ → List Claim
hunt_table s out =
    (no_preamble when ((p : ℕ) → p < nowhere → MakesPreamble s p → ⊥))
    ∷ (too_short when length out < length (hunted_bytes s))
    ∷ []

-- ---- the writer

-- window i is there, and each before it lies within the size
pub record Reached (size : ℕ) (starts ends : List ℕ) (i : ℕ) : Type 0 where
  pub start_there : i < length starts
  pub end_there : i < length ends
  pub within : (j : ℕ) → j < i → (get_or starts j 0 ≤ get_or ends j 0) × (get_or ends j 0 < size)

-- the first window that is not within: its start not below the size
abbrev pub FirstStart : ℕ → List ℕ → List ℕ → Type 0
FirstStart size starts ends = (i : ℕ) × Reached size starts ends i × (size ≤ get_or starts i 0)

-- or its end below start or not below the size
abbrev pub FirstEnd : ℕ → List ℕ → List ℕ → Type 0
FirstEnd size starts ends =
    (i : ℕ) × Reached size starts ends i
    × (get_or starts i 0 < size)
    × ((get_or ends i 0 < get_or starts i 0) ⊎ (size ≤ get_or ends i 0))

-- kind (1), mode, 13, then window by window 11, 12, then 14, 15
abbrev pub write_table : ℕ → ℕ → ℕ → List ℕ → List ℕ → List ℕ → List ℕ → List ℕ → List Claim
write_table kind mode control address starts ends bytes out =
    (bad_chain when (Known kind → ⊥))
    ∷ (bad_mode when NoMode mode)
    ∷ (bad_tables when ((length starts ≢ length ends) ⊎ (most_windows < length starts)))
    ∷ (bad_start when FirstStart (size_of kind) starts ends)
    ∷ (bad_end when FirstEnd (size_of kind) starts ends)
    ∷ (bad_data when length bytes ≢ sum_of starts ends)
    ∷ (too_short when length out < length (stream_of mode control address starts ends bytes))
    ∷ []

-- ---- salvage

-- 'Refusals: 1 for the kind, 27 for fewer than six bytes, 5 for the preamble, then 15'
abbrev pub salvage_table : ℕ → List ℕ → List ℕ → List Claim
salvage_table kind s out =
    (bad_chain when (Known kind → ⊥))
    ∷ (no_head when length s < head_length)
    ∷ (no_preamble when get_or s 0 0 ≢ preamble)
    ∷ (too_short when length out < length (salvaged (size_of kind) s))
    ∷ []
