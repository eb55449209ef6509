-- Number 1: its test says what its proposition says, and where it is not given the chain fits its memory. Assumes nothing.
use Prim.Native.Nat.{ℕ, zero, suc, ◌<◌, ◌≤◌}
use mathlib.Core.Bool.{true, false, not, ◌||◌, false≢true, true≢false}
use mathlib.Core.Logic.{◌⊎◌, inl, inr, ⊎_elim, ◌≢◌}
use mathlib.Core.Path.{◌≡◌, refl, sym}
use mathlib.Core.List.{List, [], ◌∷◌}
use native.Mathlib.Nat.{not-suc-le-zero, le_of_suc-le-suc}
use native.Mathlib.Omega.{arith}
use borrow.Author.Tests.{eqb-true, eqb-false, ne_eqb}
use lib.Dec.{eqb, ltb}
use lib.ListN.{get_or}
use Rattle.chain.specs.Paper.{most_devices, most_memory}
use Rattle.chain.specs.Rules.{from}
use Rattle.chain.specs.Kinds.{kinds, sizes, lookup, size_of, base_of, known_of}
use Rattle.chain.specs.State.{is_bad_chain}
use Rattle.chain.specs.WellFormed.{Among, Known, Between, BadChain}
use Rattle.chain.proofs.ByCases.{by_test}
use Rattle.chain.proofs.Means.{Means, says, m-map, m-none, reads}

-- ---- a kind that the table has

-- each entry has a value that is not 0
abbrev Full : List ℕ → List ℕ → Type 0
Full [] vs = Unit {0}
Full (k ∷ ks) [] = ⊥
Full (k ∷ ks) (v ∷ vs) = (v ≢ 0) × Full ks vs

lookup_known : (ks vs : List ℕ) (x : ℕ) → Full ks vs → Means (eqb (lookup ks vs x) 0) false (Among x ks)
lookup_known [] vs x f = record { says = λ e. true≢false e; said = λ h. absurd h }
lookup_known (k ∷ ks) [] x f = absurd f
lookup_known (k ∷ ks) (v ∷ vs) x f =
    by_test (eqb k x)
    (λ e. rw e (record { says = λ _. inl (sym (eqb-true k x e)); said = λ _. ne_eqb v 0 f.0 }))
    (λ e. rw e (m-map (lookup_known ks vs x f.1) inr (⊎_elim (λ q. absurd (eqb-false k x e (sym q))) (λ b. b))))

pub m_known : (k : ℕ) → Means (eqb (size_of k) 0) false (Known k)
unfolding size_of
m_known k = lookup_known kinds sizes k ((λ q. omega arith), ((λ q. omega arith), ((λ q. omega arith), ((λ q. omega arith), ((λ q. omega arith), tt)))))

pub m_unknown : (k : ℕ) → Means (eqb (size_of k) 0) true (Known k → ⊥)
m_unknown k =
    by_test (eqb (size_of k) 0)
    (λ e. rw e (record { says = λ _ h. true≢false (rw e at ((m_known k).said h)); said = λ _. refl }))
    (λ e. rw e (record { says = λ q. absurd (false≢true q); said = λ h. absurd (h ((m_known k).says e)) }))

-- the first n kinds are, and one of them is not
abbrev AllKnown : List ℕ → ℕ → Type 0
AllKnown ks n = (i : ℕ) → i < n → Known (get_or ks i 0)

abbrev Unknown : List ℕ → ℕ → Type 0
Unknown ks n = (i : ℕ) × (i < n) × (Known (get_or ks i 0) → ⊥)

all_known : (ks : List ℕ) (n : ℕ) → known_of ks n ≡ true → AllKnown ks n
unfolding known_of
all_known ks zero h i l = absurd (not-suc-le-zero l)
all_known [] (suc n) h i l = inl refl
all_known (k ∷ ks) (suc n) h zero l =
    let t : (eqb (size_of k) 0 ≡ false) × (known_of ks n ≡ true) = says (search reads) h in (m_known k).says t.0
all_known (k ∷ ks) (suc n) h (suc i) l =
    let t : (eqb (size_of k) 0 ≡ false) × (known_of ks n ≡ true) = says (search reads) h in all_known ks n t.1 i (le_of_suc-le-suc l)

some_unknown : (ks : List ℕ) (n : ℕ) → known_of ks n ≡ false → Unknown ks n
unfolding known_of
some_unknown ks zero h = absurd (true≢false h)
some_unknown [] (suc n) h = absurd (true≢false h)
some_unknown (k ∷ ks) (suc n) h =
    by_test (eqb (size_of k) 0) (λ e. (0, omega arith, (m_unknown k).says e))
    (λ e. let r = some_unknown ks n (rw e at h) in (suc r.0, omega (arith, r.1), r.2))

module _ (ks : List ℕ) (n : ℕ) where
  pub m-all_known : Means (known_of ks n) true (AllKnown ks n)
  m-all_known =
      record {
        says = all_known ks n;
        said = λ h. by_test (known_of ks n) (λ e. e) (λ e. let r = some_unknown ks n e in absurd (r.2 (h r.0 r.1)));
      }

  pub m-some_unknown : Means (known_of ks n) false (Unknown ks n)
  m-some_unknown = m-map (m-none m-all_known) (λ h. some_unknown ks n ((m-none m-all_known).said h)) (λ r h. r.2 (h r.0 r.1))

-- ---- the number

-- number 1 is not given
pub record Fits (count : ℕ) (ks : List ℕ) (len : ℕ) : Type 0 where
  pub some : 1 ≤ count
  pub few : count ≤ most_devices
  pub known : (i : ℕ) → i < count → Known (get_or ks i 0)
  pub small : base_of ks count ≤ most_memory
  pub exact : base_of ks count ≡ len

module _ (count : ℕ) (ks : List ℕ) (len : ℕ) where
  -- as the test has it
  abbrev Fit : Type 0
  Fit = ((Between 1 most_devices count × AllKnown ks count) × (base_of ks count ≤ most_memory)) × (base_of ks count ≡ len)

  pub m_fits : Means (is_bad_chain count ks len) false (Fits count ks len)
  unfolding is_bad_chain
  m_fits =
      let parts
      : Means (not (from 1 most_devices count) || not (known_of ks count) || ltb most_memory (base_of ks count) || not (eqb (base_of ks count) len)) false Fit
      = search (m-all_known, reads) depth 9
      in
      m-map parts
      (λ f. record { some = f.0.0.0.0; few = f.0.0.0.1; known = f.0.0.1; small = f.0.1; exact = f.1 })
      (λ f. ((((f.some, f.few), f.known), f.small), f.exact))

  abbrev Bad : Type 0
  Bad = (((Between 1 most_devices count → ⊥) ⊎ Unknown ks count) ⊎ (most_memory < base_of ks count)) ⊎ (base_of ks count ≢ len)

  bad_to : Bad → BadChain count ks len
  bad_to (inl (inl (inl h))) = BadChain.count_not_1_to_8 h
  bad_to (inl (inl (inr h))) = BadChain.unknown_kind h.0 h.1 h.2
  bad_to (inl (inr h)) = BadChain.total_over_65536 h
  bad_to (inr h) = BadChain.memory_of_another_length (λ e. h (sym e))

  bad_from : BadChain count ks len → Bad
  bad_from (BadChain.count_not_1_to_8 h) = inl (inl (inl h))
  bad_from (BadChain.unknown_kind i l h) = inl (inl (inr (i, l, h)))
  bad_from (BadChain.total_over_65536 h) = inl (inr h)
  bad_from (BadChain.memory_of_another_length h) = inr (λ e. h (sym e))

  -- number 1, spelled out
  pub m-bad_chain : Means (is_bad_chain count ks len) true (BadChain count ks len)
  unfolding is_bad_chain
  m-bad_chain =
      let parts
      : Means (not (from 1 most_devices count) || not (known_of ks count) || ltb most_memory (base_of ks count) || not (eqb (base_of ks count) len)) true Bad
      = search (m-some_unknown, reads) depth 9
      in
      m-map parts bad_to bad_from
