-- From a well-formed place each awaited byte that does not end the run leads to a well-formed one. Assumes nothing.
use Prim.Native.Nat.{ℕ, ◌+◌, ◌-◌, ◌/◌, ◌%◌, ◌^◌, ◌<◌, ◌≤◌}
use mathlib.Core.Bool.{Bool, true, false, not, ◌&&◌, ◌||◌, and-false}
use mathlib.Core.Path.{◌≡◌, refl, sym}
use native.Mathlib.Nat.{mul-mod_left, mod-eq_of_lt}
use native.Mathlib.Omega.{arith}
use borrow.Author.Tests.{eq-eqb, ne_eqb, lt-ltb, le-leb, eqb-true, eqb-false, ltb-true, leb-false, not-false}
use lib.Dec.{eqb, ltb, leb, lit<, lit≤}
use lib.ListN.{length}
use lib.Seq.{get_or-set_same, drop-set-lt}
use Rattle.chain.specs.declared.Chain.{Chain}
use Rattle.chain.specs.declared.Place.{Place}
use Rattle.chain.specs.Paper.{preamble, at_preamble, at_second, at_control, at_address, at_address2, at_address3, at_count, at_null, at_start, at_start_low, at_end, at_end_low, at_data, at_check, writing, checking, two_preambles, no_windows, most_devices, done, no_preamble, barred, no_check, bad_check_byte, last_device, bad_start, bad_end, more, bit3, bit4, B3, B4}
use Rattle.chain.specs.Rules.{◌implies◌}
use Rattle.chain.specs.Set.{with_awaited, with_place}
use Rattle.chain.specs.State.{unused_zero, is_well_formed}
use Rattle.chain.proofs.ByCases.{by_test, no_case, ◌or◌, below}
use Rattle.chain.proofs.Means.{says, said, reads}
use Rattle.chain.proofs.FirstOf.{first-none, none-given, condition_of}
use Rattle.chain.specs.Kinds.{size_at}
use Rattle.chain.specs.WellFormed.{Sets, place_register, WellFormed}
use Rattle.chain.proofs.WellFormed.{formed_of, before-windows}
use Rattle.chain.specs.Window.{with_low}
use Rattle.awaited.specs.Byte.{awaits, checks, begins, register_begun, byte_rules, number_of, passed_of, advance_of}
use Rattle.machine.specs.Run.{registers_of}

-- where a byte leaves the run open no rule of the byte applies
pub no_rule : (c : Chain) (b : ℕ) → number_of c b ≡ more → (n : ℕ) → condition_of (byte_rules c b) n ≡ false
unfolding number_of
no_rule c b h n = none-given (byte_rules c b) (first-none (byte_rules c b) more tt h) n

-- a byte that begins a device found its bit 4 clear, in a check bit 3 too
pub begins_clear : (c : Chain) (b : ℕ) → number_of c b ≡ more → begins c b ≡ true
    → (B4 (register_begun c) ≡ false) × ((checks c implies not (B3 (register_begun c))) ≡ true)
begins_clear c b n e =
    (rw e at (no_rule c b n barred), clear (checks c) (B3 (register_begun c)) (awaits c at_control && B3 b) (rw e at (no_rule c b n no_check)))
  where
    clear : (a b d : Bool) → (a && (b || d)) ≡ false → (not a || not b) ≡ true
    clear true true d h = sym h
    clear true false d h = refl
    clear false b d h = refl

-- the place p, awaiting a, and the byte b. With a numeral for a the rows compute; rewritten by what is known, those of the place before
-- and those of the place after come to the same test
module _ (c : Chain) (p : Place) (b : ℕ) where
  abbrev at : ℕ → Chain
  at a = with_place c (with_awaited p a)

  abbrev Good : ℕ → Type 0
  Good a = is_well_formed c c.registers (with_awaited p a) ≡ true

  abbrev Keeps : ℕ → Type 0
  Keeps a = Good a → number_of (at a) b ≡ more → is_well_formed c (registers_of (at a) b) (advance_of (with_awaited p a) b) ≡ true

  good : (a : ℕ) → Good a → WellFormed c c.registers (with_awaited p a)
  good a h = formed_of c c.registers (with_awaited p a) h

  keeps_0 : Keeps at_preamble
  unfolding is_well_formed registers_of advance_of
  keeps_0 h n =
      by_test (eqb p.mode two_preambles) (λ e. rw e h)
      (λ e.
      let q : eqb b preamble ≡ true = not-false (eqb b preamble) (no_rule (at at_preamble) b n no_preamble) in
      let g = begins_clear (at at_preamble) b n (rw (q, e)) in
      let d : eqb p.device 0 ≡ true = eq-eqb p.device 0 ((good at_preamble h).first_device (lit≤ tt, lit≤ tt)) in
      rw (e, g.0, g.1) (rw d at h))

  keeps_1 : Keeps at_second
  unfolding is_well_formed registers_of advance_of
  keeps_1 h n =
      let q : eqb b preamble ≡ true = not-false (eqb b preamble) (no_rule (at at_second) b n no_preamble) in
      let g = begins_clear (at at_second) b n (rw q) in
      let f = good at_second h in
      rw (g.0, g.1) (rw (eq-eqb p.device 0 (f.first_device (lit≤ tt, lit≤ tt)), eq-eqb p.mode two_preambles (f.second_in_6 refl)) at h)

  -- the byte is loaded, and read back
  keeps_2 : p.device < length c.registers → Keeps at_control
  unfolding is_well_formed registers_of advance_of unused_zero
  keeps_2 inside h n =
      let f = good at_control h in
      let z : p.control ≡ 0 = f.control_before (lit≤ tt) in
      let four : B4 (place_register c.registers p) ≡ false = ne_eqb (place_register c.registers p / bit4 % 2) 1 (f.at_2 refl) in
      let far = drop-set-lt c.count c.registers p.device b f.device_in_chain in
      let near = get_or-set_same c.registers p.device b 0 inside in
      by_test (eqb p.check writing)
      (λ e.
      let w : p.check ≡ writing = eqb-true p.check writing e in
      rw (w, far, near, eq-eqb b b refl) (rw (w, z, four) at h))
      (λ e.
      let w : p.check ≡ checking = omega (arith, f.write_or_check, eqb-false p.check writing e) in
      let seven : (B3 b) ≡ false = rw (w, and-false (eqb b preamble)) at (no_rule (at at_control) b n no_check) in
      rw (w, far, near, eq-eqb b b refl, seven) (rw (w, z, four, ne_eqb (place_register c.registers p / bit3 % 2) 1 (f.at_2_checked (refl, w))) at h))

  keeps_3 : Keeps at_address
  unfolding is_well_formed registers_of advance_of
  keeps_3 h n = h

  keeps_4 : Keeps at_address2
  unfolding is_well_formed registers_of advance_of
  keeps_4 h n = h

  keeps_5 : Keeps at_address3
  unfolding is_well_formed registers_of advance_of
  keeps_5 h n = h

  keeps_6 : b < 256 → Keeps at_count
  unfolding is_well_formed registers_of advance_of
  keeps_6 small h n =
      by_test (eqb b no_windows) (λ e. rw e h)
      (λ e.
      let z = before-windows c c.registers (with_awaited p at_count) (good at_count h) (lit≤ tt) in
      let l : leb 1 (255 - b) ≡ true = le-leb 1 (255 - b) (omega (arith, eqb-false b 255 e)) in
      rw (e, l, z.1, z.2, z.3) (rw (z.0, z.1, z.2, z.3) at h))

  keeps_7 : Keeps at_null
  unfolding is_well_formed registers_of advance_of
  keeps_7 h n = h

  keeps_8 : Keeps at_start
  unfolding is_well_formed registers_of advance_of
  keeps_8 h n =
      let z = (good at_start h).at_7_and_8 (lit≤ tt, lit≤ tt) in
      rw (mul-mod_left b 256, z.1, z.2) (rw (z.0, z.1, z.2) at h)

  keeps_9 : Keeps at_start_low
  unfolding is_well_formed registers_of advance_of
  keeps_9 h n =
      let z = (good at_start_low h).at_9 refl in
      let l : ltb (with_low p.start b) (size_at c p.device) ≡ true = not-false _ (no_rule (at at_start_low) b n bad_start) in
      rw (l, z.1, z.2) (rw (z.0, z.1, z.2) at h)

  keeps_10 : Keeps at_end
  unfolding is_well_formed registers_of advance_of
  keeps_10 h n =
      let z = (good at_end h).at_10 refl in
      let l : ltb p.start (size_at c p.device) ≡ true = lt-ltb p.start (size_at c p.device) z.0 in
      rw (l, mul-mod_left b 256, z.2) (rw (l, z.1, z.2) at h)

  keeps_11 : Keeps at_end_low
  unfolding is_well_formed registers_of advance_of
  keeps_11 h n =
      let z = (good at_end_low h).at_11 refl in
      let w : (p.start ≤ with_low p.end b) × (with_low p.end b < size_at c p.device) = says (search reads) (no_rule (at at_end_low) b n bad_end) in
      rw (le-leb p.start p.start (omega arith), le-leb p.start (with_low p.end b) w.0, lt-ltb (with_low p.end b) (size_at c p.device) w.1)
      (rw (lt-ltb p.start (size_at c p.device) z.0, z.1, z.2) at h)

  keeps_12 : Keeps at_data
  unfolding is_well_formed registers_of advance_of passed_of
  keeps_12 h n =
      let f = good at_data h in
      let z = f.at_12 refl in
      let s : leb p.start p.next ≡ true = le-leb p.start p.next z.0 in
      let t : leb p.next p.end ≡ true = le-leb p.next p.end z.1 in
      let u : ltb p.end (size_at c p.device) ≡ true = lt-ltb p.end (size_at c p.device) z.2 in
      by_test (leb (p.next + 1) p.end)
      (λ e. rw (e, e, le-leb p.start (p.next + 1) (omega arith)) (rw (s, t) at h))
      (λ e.
      let l : leb 1 p.left ≡ true = le-leb 1 p.left (f.at_7_to_12 (lit≤ tt, lit≤ tt)) in
      by_test (ltb 1 p.left)
      (λ g. rw (e, g, le-leb 1 (p.left - 1) (omega (arith, ltb-true 1 p.left g))) (rw (l, s, t, u) at h))
      (λ g. rw (e, g) (rw (l, s, t, u) at h)))

  keeps_13 : c.count ≤ most_devices → Keeps at_check
  unfolding is_well_formed registers_of advance_of
  keeps_13 few h n =
      let f = good at_check h in
      let no = no_rule (at at_check) b n in
      let q : eqb b preamble ≡ true = not-false (eqb b preamble) (rw (no done) at (no bad_check_byte)) in
      let g = begins_clear (at at_check) b n (rw q) in
      let last : p.device + 1 < c.count = leb-false c.count (p.device + 1) (rw q at (no last_device)) in
      let d : ltb ((p.device + 1) % 2 ^ 8) c.count ≡ true = rw (mod-eq_of_lt {n = p.device + 1} {m = 2 ^ 8} (omega arith)) (lt-ltb (p.device + 1) c.count last) in
      let clear : p.check ≡ checking → Sets bit3 p.control → ⊥ = λ e. f.control_checked (lit< tt, e) in
      let w : eqb p.control (place_register c.registers p) ≡ true = eq-eqb p.control (place_register c.registers p) (f.control_taken (lit< tt)) in
      let k : (eqb p.check checking implies not (B3 p.control)) ≡ true = said (search reads) clear in
      rw (d, g.0, g.1) (rw (lt-ltb p.device c.count f.device_in_chain, w, k) at h)

-- the awaited byte is one of the fourteen
pub advance_keeps : (c : Chain) (p : Place) (b : ℕ) → b < 256 → c.count ≤ most_devices → length c.registers ≡ most_devices
    → is_well_formed c c.registers p ≡ true → number_of (with_place c p) b ≡ more
    → is_well_formed c (registers_of (with_place c p) b) (advance_of p b) ≡ true
advance_keeps c p b small few eight h =
    let f = formed_of c c.registers p h in
    below (Keeps c p b) 14
    (no_case
    or keeps_0 c p b
    or keeps_1 c p b
    or keeps_2 c p b (omega (arith, f.device_in_chain))
    or keeps_3 c p b
    or keeps_4 c p b
    or keeps_5 c p b
    or keeps_6 c p b small
    or keeps_7 c p b
    or keeps_8 c p b
    or keeps_9 c p b
    or keeps_10 c p b
    or keeps_11 c p b
    or keeps_12 c p b
    or keeps_13 c p b few)
    p.awaited (omega (arith, f.awaited_0_to_13)) h
