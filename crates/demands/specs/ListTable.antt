-- The lister's numbers: kind (1), mode, the stream's own number, then 15; and the tidier's, which reads a stream in mode 1. Assumes nothing.
use Rattle.std.specs.Prelude.{ℕ, ◌<◌, ◌⊎◌, ◌≡◌, List, [], ◌∷◌, length, replicate}
use Rattle.chain.specs.declared.Chain.{Chain}
use Rattle.chain.specs.Paper.{writing, first_mode, two_preambles, bad_chain, bad_mode, no_preamble, barred, no_check, bad_check_byte, ends_here, last_device, bad_start, bad_end, too_short, more}
use Rattle.chain.specs.Kinds.{size_of}
use Rattle.chain.specs.Calls.{new_of}
use Rattle.machine.specs.Calls.{start_of, slice_of}
use Rattle.reader.specs.Stream.{preamble_at, count_at}
use Rattle.tidy.specs.Tidy.{tidied}
use Rattle.chain.specs.WellFormed.{Known, Between}
use Rattle.chain.specs.Table.{Claim, ◌when◌, NoMode}
use Rattle.demands.specs.ByteTable.{slice_number}

-- one freshly reset device, and a write started on it
abbrev pub fresh_device : ℕ → Chain
fresh_device kind = (new_of 1 (kind ∷ replicate 7 0) (size_of kind)).chain

abbrev pub fresh_run : ℕ → ℕ → Chain
fresh_run kind mode = (start_of (fresh_device kind) (size_of kind) mode writing).chain

-- the stream's own number: what the machine gives for it
abbrev pub own_number : ℕ → ℕ → List ℕ → ℕ
own_number kind mode s = slice_number (fresh_run kind mode) (replicate (size_of kind) 0) s

-- and the bytes that it takes
abbrev pub own_taken : ℕ → ℕ → List ℕ → ℕ
own_taken kind mode s = (slice_of (fresh_run kind mode) (replicate (size_of kind) 0) s).answer.taken

-- t bytes are answered as taken: none for 1 and 2, else those that the machine takes, with any number
pub record ListTaken (kind mode : ℕ) (s : List ℕ) (t : ℕ) : Type 0 where
  pub none : (Known kind → ⊥) ⊎ NoMode mode → t ≡ 0
  pub own : Known kind → Between first_mode two_preambles mode → t ≡ own_taken kind mode s

-- a table shorter than the count of windows
abbrev pub Shorter : ℕ → List ℕ → List ℕ → List ℕ → Type 0
Shorter n starts ends offsets = ((length starts < n) ⊎ (length ends < n)) ⊎ (length offsets < n)

-- the stream's own number, and the rows after it
abbrev pub own_table : ℕ → ℕ → List ℕ → List Claim → List Claim
own_table kind mode s rows =
    (no_preamble when own_number kind mode s ≡ no_preamble)
    ∷ (barred when own_number kind mode s ≡ barred)
    ∷ (no_check when own_number kind mode s ≡ no_check)
    ∷ (bad_check_byte when own_number kind mode s ≡ bad_check_byte)
    ∷ (ends_here when own_number kind mode s ≡ ends_here)
    ∷ (last_device when own_number kind mode s ≡ last_device)
    ∷ (bad_start when own_number kind mode s ≡ bad_start)
    ∷ (bad_end when own_number kind mode s ≡ bad_end)
    ∷ (more when own_number kind mode s ≡ more)
    ∷ rows

abbrev pub list_table : ℕ → ℕ → List ℕ → List ℕ → List ℕ → List ℕ → List Claim
list_table kind mode s starts ends offsets =
    (bad_chain when (Known kind → ⊥))
    ∷ (bad_mode when NoMode mode)
    ∷ own_table kind mode s ((too_short when Shorter (count_at s (preamble_at mode)) starts ends offsets) ∷ [])

-- document 02, wish 2: 'Refusals: the lister's, then 15'; there is no mode to refuse
abbrev pub tidy_table : ℕ → List ℕ → List ℕ → List Claim
tidy_table kind s out =
    (bad_chain when (Known kind → ⊥))
    ∷ own_table kind first_mode s ((too_short when length out < length (tidied (size_of kind) s)) ∷ [])
