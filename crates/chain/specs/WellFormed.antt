-- Numbers 1 and 17 as propositions: a chain that is refused, and the paragraph 'Well formed' with its sentences in order. Assumes nothing.
use Rattle.std.specs.Prelude.{ℕ, ◌/◌, ◌%◌, ◌<◌, ◌≤◌, ◌⊎◌, ◌≢◌, ◌≡◌, List, [], ◌∷◌, get_or}
use Rattle.chain.specs.declared.Chain.{Chain}
use Rattle.chain.specs.declared.Place.{Place}
use Rattle.chain.specs.Paper.{at_preamble, at_second, at_control, at_count, at_null, at_start, at_start_low, at_end, at_end_low, at_data, at_check, closed, opened, writing, checking, first_mode, two_preambles, most_devices, most_memory, bit3, bit4}
use Rattle.chain.specs.Kinds.{kinds, size_at, base_of}

-- x is one of them
abbrev pub Among : ℕ → List ℕ → Type 0
Among x [] = ⊥
Among x (y ∷ ys) = (x ≡ y) ⊎ Among x ys

-- a kind that the table of kinds has
abbrev pub Known : ℕ → Type 0
Known kind = Among kind kinds

-- x is a to b
abbrev pub Between : ℕ → ℕ → ℕ → Type 0
Between a b x = (a ≤ x) × (x ≤ b)

-- number 1, and what makes it so
pub data BadChain (count : ℕ) (ks : List ℕ) (len : ℕ) : Type 0 where
  count_not_1_to_8 : (Between 1 most_devices count → ⊥) → BadChain count ks len
  unknown_kind : (i : ℕ) → i < count → (Known (get_or ks i 0) → ⊥) → BadChain count ks len
  total_over_65536 : most_memory < base_of ks count → BadChain count ks len
  memory_of_another_length : len ≢ base_of ks count → BadChain count ks len

-- those past the first n are zero
abbrev pub UnusedZero : List ℕ → ℕ → Type 0
UnusedZero xs n = (i : ℕ) → n ≤ i → get_or xs i 0 ≡ 0

-- a bit, named by its weight, is set in a byte
abbrev pub Sets : ℕ → ℕ → Type 0
Sets bit g = g / bit % 2 ≡ 1

-- the stored register of a place's device
abbrev pub place_register : List ℕ → Place → ℕ
place_register registers p = get_or registers p.device 0

-- the place p, with these registers, is well formed in the chain c
pub record WellFormed (c : Chain) (registers : List ℕ) (p : Place) : Type 0 where
  pub mode_1_to_6 : Between first_mode two_preambles p.mode
  pub write_or_check : Between writing checking p.check
  pub awaited_0_to_13 : Between at_preamble at_check p.awaited
  pub device_in_chain : p.device < c.count
  pub unused_registers : UnusedZero registers c.count
  pub write_mismatches : p.check ≡ writing → p.mismatches ≡ 0
  -- awaited 0 and 1 only on device 0, 1 only in mode 6
  pub first_device : Between at_preamble at_second p.awaited → p.device ≡ 0
  pub second_in_6 : p.awaited ≡ at_second → p.mode ≡ two_preambles
  -- control byte 0 before it is taken; after, equal to the stored register, and in a check with B3 clear
  pub control_before : p.awaited ≤ at_control → p.control ≡ 0
  pub control_taken : at_control < p.awaited → p.control ≡ place_register registers p
  pub control_checked : (at_control < p.awaited) × (p.check ≡ checking) → Sets bit3 p.control → ⊥
  -- by awaited byte
  pub at_0_to_6_and_13 : Between at_preamble at_count p.awaited ⊎ (p.awaited ≡ at_check)
      → (p.left ≡ 0) × (p.start ≡ 0) × (p.end ≡ 0) × (p.next ≡ 0)
  pub at_7_to_12 : Between at_null at_data p.awaited → 1 ≤ p.left
  pub at_7_and_8 : Between at_null at_start p.awaited → (p.start ≡ 0) × (p.end ≡ 0) × (p.next ≡ 0)
  pub at_9 : p.awaited ≡ at_start_low → (p.start % 256 ≡ 0) × (p.end ≡ 0) × (p.next ≡ 0)
  pub at_10 : p.awaited ≡ at_end → (p.start < size_at c p.device) × (p.end ≡ 0) × (p.next ≡ 0)
  pub at_11 : p.awaited ≡ at_end_low → (p.start < size_at c p.device) × (p.end % 256 ≡ 0) × (p.next ≡ 0)
  pub at_12 : p.awaited ≡ at_data → (p.start ≤ p.next) × (p.next ≤ p.end) × (p.end < size_at c p.device)
  pub at_2 : p.awaited ≡ at_control → Sets bit4 (place_register registers p) → ⊥
  pub at_2_checked : (p.awaited ≡ at_control) × (p.check ≡ checking) → Sets bit3 (place_register registers p) → ⊥

-- number 17 of a lent state: unused kinds or registers not zero, or an open place that is not well formed
pub data IllFormed (c : Chain) : Type 0 where
  unused_kind : (i : ℕ) → c.count ≤ i → get_or c.kinds i 0 ≢ 0 → IllFormed c
  unused_register : (i : ℕ) → c.count ≤ i → get_or c.registers i 0 ≢ 0 → IllFormed c
  open_place : c.place.running ≢ closed → ((c.place.running ≡ opened) × WellFormed c c.registers c.place → ⊥) → IllFormed c
