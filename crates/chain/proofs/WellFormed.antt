-- Number 17: the test for the paragraph 'Well formed' says what its proposition says, and so does the test of a state. Assumes nothing.
use Prim.Native.Nat.{ℕ, zero, suc, ◌+◌, ◌-◌, ◌≤◌, zero-le}
use mathlib.Core.Bool.{Bool, true, false, not, ◌&&◌, ◌||◌, true≢false}
use mathlib.Core.Logic.{◌⊎◌, inl, inr, ⊎_elim, ◌≢◌}
use mathlib.Core.Path.{◌≡◌, refl, sym, ap, ◌∙◌}
use mathlib.Core.List.{List, [], ◌∷◌}
use native.Mathlib.Omega.{arith}
use borrow.Author.Tests.{eqb-false, eq-eqb, leb-true, leb-false}
use lib.Dec.{eqb, leb}
use lib.ListN.{get_or, drop}
use lib.Seq.{get_or-drop}
use Rattle.chain.specs.declared.Chain.{Chain}
use Rattle.chain.specs.declared.Place.{Place}
use Rattle.chain.specs.Paper.{at_count, at_start, at_start_low, at_end, at_end_low, at_data, opened, closed}
use Rattle.chain.specs.Kinds.{size_at}
use Rattle.chain.specs.State.{zeros, unused_zero, formed, is_well_formed, is_ill_formed}
use Rattle.chain.specs.WellFormed.{UnusedZero, place_register, WellFormed, IllFormed}
use Rattle.chain.proofs.AllOf.{none, ◌and◌, all_each, each_all, each_row}
use Rattle.chain.proofs.ByCases.{by_test, by_eq}
use Rattle.chain.proofs.Means.{Means, says, said, m-map, m-none, reads}

-- ---- those past the first n

zeros-all : (xs : List ℕ) → zeros xs ≡ true → (i : ℕ) → get_or xs i 0 ≡ 0
zeros-all [] h i = refl
zeros-all (x ∷ xs) h zero = let t : (x ≡ 0) × (zeros xs ≡ true) = says (search reads) h in t.0
zeros-all (x ∷ xs) h (suc i) = let t : (x ≡ 0) × (zeros xs ≡ true) = says (search reads) h in zeros-all xs t.1 i

all-zeros : (xs : List ℕ) → ((i : ℕ) → get_or xs i 0 ≡ 0) → zeros xs ≡ true
all-zeros [] h = refl
all-zeros (x ∷ xs) h = rw (eq-eqb x 0 (h 0)) (all-zeros xs (λ i. h (suc i)))

not_zeros : (xs : List ℕ) → zeros xs ≡ false → (i : ℕ) × (get_or xs i 0 ≢ 0)
not_zeros [] h = absurd (true≢false h)
not_zeros (x ∷ xs) h =
    by_test (eqb x 0) (λ e. let r = not_zeros xs (rw e at h) in (suc r.0, r.1)) (λ e. (0, eqb-false x 0 e))

module _ (xs : List ℕ) (n : ℕ) where
  pub m_unused : Means (unused_zero xs n) true (UnusedZero xs n)
  unfolding unused_zero
  m_unused =
      record {
        says = λ e i l.
            let z : n + (i - n) ≡ i = omega arith in
            ap (λ (j : ℕ). get_or xs j 0) (sym z) ∙ sym (get_or-drop n xs (i - n) 0) ∙ zeros-all (drop n xs) e (i - n);
        said = λ h. all-zeros (drop n xs) (λ i. get_or-drop n xs i 0 ∙ h (n + i) (omega arith));
      }

  -- one of them is not zero
  abbrev Used : Type 0
  Used = (i : ℕ) × (n ≤ i) × (get_or xs i 0 ≢ 0)

  m_used : Means (unused_zero xs n) false Used
  unfolding unused_zero
  m_used =
      record {
        says = λ e. let r = not_zeros (drop n xs) e in (n + r.0, omega arith, λ z. r.1 (get_or-drop n xs r.0 0 ∙ z));
        said = λ h. (m-none m_unused).said (λ u. h.2 (u h.0 h.1));
      }

-- ---- the paragraph, row by row

module _ (c : Chain) (g : List ℕ) (p : Place) where
  abbrev rows : List Bool
  rows = formed p c.count (unused_zero g c.count) (place_register g p) (size_at c p.device)

  pub formed_of : is_well_formed c g p ≡ true → WellFormed c g p
  unfolding is_well_formed
  formed_of h =
      let row : (i : ℕ) → get_or rows i true ≡ true = each_row rows (all_each rows h) in
      record {
        mode_1_to_6 = says (search reads) (row 0);
        write_or_check = says (search reads) (row 1);
        awaited_0_to_13 = says (search reads) (row 2);
        device_in_chain = says (search reads) (row 3);
        unused_registers = says (m_unused g c.count) (row 4);
        write_mismatches = says (search reads) (row 5);
        first_device = says (search reads) (row 6);
        second_in_6 = says (search reads) (row 7);
        control_before = says (search reads) (row 8);
        control_taken = says (search reads) (row 9);
        control_checked = says (search reads) (row 10);
        at_0_to_6_and_13 = says (search reads) (row 11);
        at_7_to_12 = says (search reads) (row 12);
        at_7_and_8 = says (search reads) (row 13);
        at_9 = says (search reads) (row 14);
        at_10 = says (search reads) (row 15);
        at_11 = says (search reads) (row 16);
        at_12 = says (search reads) (row 17);
        at_2 = says (search reads) (row 18);
        at_2_checked = says (search reads) (row 19);
      }

  pub of_formed : WellFormed c g p → is_well_formed c g p ≡ true
  unfolding is_well_formed
  of_formed f =
      each_all rows
      (said (search reads) f.mode_1_to_6
      and said (search reads) f.write_or_check
      and said (search reads) f.awaited_0_to_13
      and said (search reads) f.device_in_chain
      and said (m_unused g c.count) f.unused_registers
      and said (search reads) f.write_mismatches
      and said (search reads) f.first_device
      and said (search reads) f.second_in_6
      and said (search reads) f.control_before
      and said (search reads) f.control_taken
      and said (search reads) f.control_checked
      and said (search reads) f.at_0_to_6_and_13
      and said (search reads) f.at_7_to_12
      and said (search reads) f.at_7_and_8
      and said (search reads) f.at_9
      and said (search reads) f.at_10
      and said (search reads) f.at_11
      and said (search reads) f.at_12
      and said (search reads) f.at_2
      and said (search reads) f.at_2_checked
      and none)

  pub m-formed : Means (is_well_formed c g p) true (WellFormed c g p)
  m-formed = record { says = formed_of; said = of_formed }

-- ---- the number

module _ (c : Chain) where
  abbrev Ill : Type 0
  Ill =
      (Used c.kinds c.count ⊎ Used c.registers c.count)
      ⊎ (((c.place.running ≡ closed) ⊎ ((c.place.running ≡ opened) × WellFormed c c.registers c.place)) → ⊥)

  ill_to : Ill → IllFormed c
  ill_to (inl (inl h)) = IllFormed.unused_kind h.0 h.1 h.2
  ill_to (inl (inr h)) = IllFormed.unused_register h.0 h.1 h.2
  ill_to (inr h) = IllFormed.open_place (λ e. h (inl e)) (λ w. h (inr w))

  ill_from : IllFormed c → Ill
  ill_from (IllFormed.unused_kind i l h) = inl (inl (i, l, h))
  ill_from (IllFormed.unused_register i l h) = inl (inr (i, l, h))
  ill_from (IllFormed.open_place h w) = inr (λ x. ⊎_elim h w x)

  abbrev tested : Bool
  tested =
      not (unused_zero c.kinds c.count)
      || not (unused_zero c.registers c.count)
      || not (eqb c.place.running closed || eqb c.place.running opened && is_well_formed c c.registers c.place)

  -- number 17 of a state, spelled out
  pub m-ill_formed : Means (is_ill_formed c) true (IllFormed c)
  unfolding is_ill_formed
  m-ill_formed =
      let parts : Means tested true Ill = search (m_used, m-formed, reads) depth 9 in
      m-map parts ill_to ill_from

  -- and where it is not given
  abbrev pub Formed : Type 0
  Formed =
      (UnusedZero c.kinds c.count × UnusedZero c.registers c.count)
      × ((c.place.running ≡ closed) ⊎ ((c.place.running ≡ opened) × WellFormed c c.registers c.place))

  pub m-not_ill : Means (is_ill_formed c) false Formed
  unfolding is_ill_formed
  m-not_ill = let parts : Means tested false Formed = search (m_unused, m-formed, reads) depth 9 in parts

-- ---- what follows for every awaited byte

module _ (c : Chain) (g : List ℕ) (p : Place) (f : WellFormed c g p) where
  -- before the windows there is none
  pub before-windows : p.awaited ≤ at_count → (p.left ≡ 0) × (p.start ≡ 0) × (p.end ≡ 0) × (p.next ≡ 0)
  before-windows l = f.at_0_to_6_and_13 (inl (zero-le, l))

  -- where no data byte is awaited the next cell is 0
  no_next : p.next ≡ 0 → p.next ≤ p.end
  no_next z = omega arith

  pub next-le-end : p.next ≤ p.end
  next-le-end =
      by_test (leb p.awaited at_count) (λ e. no_next (before-windows (leb-true p.awaited at_count e)).3)
      (λ e.
      by_test (leb p.awaited at_start) (λ d. no_next (f.at_7_and_8 (leb-false p.awaited at_count e, leb-true p.awaited at_start d)).2)
      (λ d.
      by_eq p.awaited at_start_low (λ q. no_next (f.at_9 q).2)
      (λ h.
      by_eq p.awaited at_end (λ q. no_next (f.at_10 q).2)
      (λ i.
      by_eq p.awaited at_end_low (λ q. no_next (f.at_11 q).2)
      (λ j.
      by_eq p.awaited at_data (λ q. (f.at_12 q).1)
      (λ k. no_next (f.at_0_to_6_and_13 (inr (omega (arith, f.awaited_0_to_13, leb-false p.awaited at_start d)))).3))))))
