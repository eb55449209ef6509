-- The numbers of a byte and of a slice: document 01's conditions as propositions, in its words, over the state and the byte. Assumes nothing.
use Rattle.std.specs.Prelude.{ℕ, ◌+◌, ◌<◌, ◌≤◌, ◌↔◌, ◌⊎◌, ◌≢◌, ◌≡◌, List, [], ◌∷◌, length, get_or, take}
use Rattle.chain.specs.declared.Chain.{Chain}
use Rattle.chain.specs.Paper.{preamble, postamble, at_preamble, at_second, at_control, at_start_low, at_end_low, at_check, checking, two_preambles, done, no_preamble, barred, no_check, bad_check_byte, ends_here, last_device, bad_start, bad_end, more, bit2, bit3, bit4}
use Rattle.chain.specs.Kinds.{size_here}
use Rattle.chain.specs.Window.{with_low}
use Rattle.awaited.specs.Byte.{next_device}
use Rattle.machine.specs.Calls.{slice_of}
use Rattle.chain.specs.WellFormed.{Sets}
use Rattle.chain.specs.Table.{Claim, ◌when◌, feed_table}

-- the byte a is awaited
abbrev pub Awaits : Chain → ℕ → Type 0
Awaits c a = c.place.awaited ≡ a

-- awaited 0 or 1 and not B2
abbrev pub Five : Chain → ℕ → Type 0
Five c b = (Awaits c at_preamble ⊎ Awaits c at_second) × (b ≢ preamble)

-- B2 that would begin the device d: this one at the preamble, in mode 6 the second; the next one at the check byte
abbrev pub Begins : Chain → ℕ → ℕ → Type 0
Begins c b d =
    (b ≡ preamble)
    × ((((Awaits c at_preamble × (c.place.mode ≢ two_preambles)) ⊎ Awaits c at_second) × (d ≡ c.place.device))
    ⊎ (Awaits c at_check × (d ≡ next_device c.place)))

-- B2 that would begin a device whose stored bit is set
abbrev pub BeginsWith : ℕ → Chain → ℕ → Type 0
BeginsWith bit c b = (d : ℕ) × Begins c b d × Sets bit (get_or c.registers d 0)

-- B2 that would begin a device whose stored B4 is set
abbrev pub Six : Chain → ℕ → Type 0
Six c b = BeginsWith bit4 c b

-- check, and that device's stored B3 is set, or the control byte sets B3
abbrev pub Seven : Chain → ℕ → Type 0
Seven c b = (c.place.check ≡ checking) × (BeginsWith bit3 c b ⊎ (Awaits c at_control × Sets bit3 b))

-- check byte neither 4D nor B2
abbrev pub Eight : Chain → ℕ → Type 0
Eight c b = Awaits c at_check × (b ≢ postamble) × (b ≢ preamble)

-- check byte B2, and this device's control byte set B2
abbrev pub Nine : Chain → ℕ → Type 0
Nine c b = Awaits c at_check × (b ≡ preamble) × Sets bit2 c.place.control

-- check byte B2 after the last device
abbrev pub Ten : Chain → ℕ → Type 0
Ten c b = Awaits c at_check × (b ≡ preamble) × (c.count ≤ c.place.device + 1)

-- start not below the device's size, at its second byte
abbrev pub Eleven : Chain → ℕ → Type 0
Eleven c b = Awaits c at_start_low × (size_here c ≤ with_low c.place.start b)

-- end below start or not below size, at its second byte
abbrev pub Twelve : Chain → ℕ → Type 0
Twelve c b = Awaits c at_end_low × ((with_low c.place.end b < c.place.start) ⊎ (size_here c ≤ with_low c.place.end b))

-- 4D accepts
abbrev pub Accepts : Chain → ℕ → Type 0
Accepts c b = Awaits c at_check × (b ≡ postamble)

-- a number of a byte, and its condition
pub data ByteClaim : Type 1 where
  ◌whenever◌ : ℕ → (Chain → ℕ → Type 0) → ByteClaim

infix 1 ◌whenever◌
-- the byte's own: at a preamble 5, 6, 7; at 13: 8, 9, 10, 6, 7
abbrev pub byte_claims : List ByteClaim
byte_claims =
    (no_preamble whenever Five)
    ∷ (bad_check_byte whenever Eight)
    ∷ (ends_here whenever Nine)
    ∷ (last_device whenever Ten)
    ∷ (barred whenever Six)
    ∷ (no_check whenever Seven)
    ∷ (bad_start whenever Eleven)
    ∷ (bad_end whenever Twelve)
    ∷ (done whenever Accepts)
    ∷ []

-- each condition as At has it
abbrev pub claims_of : ((Chain → ℕ → Type 0) → Type 0) → List ByteClaim → List Claim
claims_of At [] = []
claims_of At ((n whenever P) ∷ claims) = (n when At P) ∷ claims_of At claims

-- of the byte b
abbrev pub own_table : Chain → ℕ → List Claim
own_table c b = claims_of (λ P. P c b) byte_claims

-- 1, 17, 4, then the byte's own
abbrev pub byte_table : Chain → List ℕ → ℕ → List Claim
byte_table c m b = feed_table c m (own_table c b)

-- ---- a slice

abbrev pub slice_number : Chain → List ℕ → List ℕ → ℕ
slice_number c m s = (slice_of c m s).answer.number

-- at some byte k of the slice: the k bytes before it gave 16, and the condition P holds there
pub record AtSome (c : Chain) (m s : List ℕ) (P : Chain → ℕ → Type 0) : Type 0 where
  pub k : ℕ
  pub there : k < length s
  pub before : slice_number c m (take k s) ≡ more
  pub holds : P (slice_of c m (take k s)).chain (get_or s k 0)

abbrev pub slice_table : Chain → List ℕ → List ℕ → List Claim
slice_table c m s = feed_table c m (claims_of (AtSome c m s) byte_claims)

-- ---- each number by itself

-- which of its own numbers a byte gives, with only those earlier conditions that can meet it
pub record ByteNumbers (number : ℕ) (c : Chain) (b : ℕ) : Type 0 where
  pub five : number ≡ no_preamble ↔ Five c b
  pub six : number ≡ barred ↔ Six c b × (Nine c b → ⊥) × (Ten c b → ⊥)
  pub seven : number ≡ no_check ↔ Seven c b × (Nine c b → ⊥) × (Ten c b → ⊥) × (Six c b → ⊥)
  pub eight : number ≡ bad_check_byte ↔ Eight c b
  pub nine : number ≡ ends_here ↔ Nine c b
  pub ten : number ≡ last_device ↔ Ten c b × (Nine c b → ⊥)
  pub eleven : number ≡ bad_start ↔ Eleven c b
  pub twelve : number ≡ bad_end ↔ Twelve c b
