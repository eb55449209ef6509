-- When the writer's number is 0, and what it asks of the length. Assumes nothing.
use Prim.Native.Nat.{ℕ, ◌+◌, ◌*◌, ◌≤◌, ◌<◌}
use mathlib.Core.Bool.{Bool, true, false, not, ◌&&◌, ◌||◌}
use mathlib.Core.Path.{◌≡◌, refl, sym, ◌∙◌}
use mathlib.Core.List.{List, [], ◌∷◌}
use native.Mathlib.Omega.{arith}
use borrow.Author.Tests.{ltb-false, leb-true, ltb-true, eqb-true, eqb-false, lt-ltb, le-ltb, le-leb, eq-eqb, ne_eqb, not-false}
use lib.Dec.{eqb, ltb, leb}
use lib.ListN.{length}
use Rattle.chain.proofs.ByCases.{by_test}
use Rattle.chain.specs.Paper.{first_mode, two_preambles, done, bad_start, bad_end}
use Rattle.chain.specs.Rules.{pick}
use Rattle.chain.specs.Kinds.{size_of}
use Rattle.writer.specs.Stream.{lead_in, stream_of}
use Rattle.writer.specs.Write.{most_windows, windows_number, sum_of, number_of, write_number}
use Rattle.writer.proofs.Parts.{stream-length}

-- 0 comes from no rule
none : (b : Bool) (n x : ℕ) → (n ≡ 0 → ⊥) → pick b n x ≡ 0 → (b ≡ false) × (x ≡ 0)
none true n x z h = absurd (z h)
none false n x z h = (refl, h)

pub both_false : (a b : Bool) → (a || b) ≡ false → (a ≡ false) × (b ≡ false)
both_false true b h = absurd (true_false h)
  where
    true_false : true ≡ false → ⊥
    true_false q = let z : ◌≡◌ {A = ℕ} 0 1 = cc in omega arith
both_false false b h = (refl, h)

both_true : (a b : Bool) → (a && b) ≡ true → (a ≡ true) × (b ≡ true)
both_true true b h = (refl, h)
both_true false b h = absurd (false_true h)
  where
    false_true : false ≡ true → ⊥
    false_true q = let z : ◌≡◌ {A = ℕ} 0 1 = cc in omega arith

-- every window within the size, its start not above its end
abbrev pub Within : ℕ → List ℕ → List ℕ → Type 0
Within size [] es = Unit {0}
Within size (s ∷ ss) [] = Unit {0}
Within size (s ∷ ss) (e ∷ es) = (s ≤ e) × (e < size) × Within size ss es

pub within : (size : ℕ) (ss es : List ℕ) → windows_number size ss es ≡ done → Within size ss es
unfolding windows_number
within size [] es h = tt
within size (s ∷ ss) [] h = tt
within size (s ∷ ss) (e ∷ es) h =
    let a = none (not (ltb s size)) bad_start _ (λ q. omega (arith, q)) h in
    let b = none (ltb e s || not (ltb e size)) bad_end _ (λ q. omega (arith, q)) a.1 in
    let c = both_false (ltb e s) (not (ltb e size)) b.0 in
    (ltb-false e s c.0, ltb-true e size (not-false (ltb e size) c.1), within size ss es b.1)

pub within-done : (size : ℕ) (ss es : List ℕ) → Within size ss es → windows_number size ss es ≡ done
unfolding windows_number
within-done size [] es h = refl
within-done size (s ∷ ss) [] h = refl
within-done size (s ∷ ss) (e ∷ es) (a, b, w) = simp (lt-ltb s size (omega arith), le-ltb e s a, lt-ltb e size b) (within-done size ss es w)

-- nothing but 0, 11 and 12
cases : (P : ℕ → Type 0) (size : ℕ) (ss es : List ℕ) → P done → P bad_start → P bad_end → P (windows_number size ss es)
unfolding windows_number
cases P size [] es a b c = a
cases P size (s ∷ ss) [] a b c = a
cases P size (s ∷ ss) (e ∷ es) a b c =
    either (not (ltb s size)) bad_start _ b (either (ltb e s || not (ltb e size)) bad_end _ c (cases P size ss es a b c))
  where
    either : (t : Bool) (x y : ℕ) → P x → P y → P (pick t x y)
    either true x y p q = p
    either false x y p q = q

-- so where it is not 0, it is the number of the first rule of windows that holds
pub refuses : (size : ℕ) (ss es : List ℕ) (x : ℕ) → (windows_number size ss es ≡ done → ⊥)
    → pick (eqb (windows_number size ss es) bad_start) bad_start (pick (eqb (windows_number size ss es) bad_end) bad_end x) ≡ windows_number size ss es
refuses size ss es x =
    cases (λ (n : ℕ). (n ≡ done → ⊥) → pick (eqb n bad_start) bad_start (pick (eqb n bad_end) bad_end x) ≡ n) size ss es
    (λ z. absurd (z refl)) (λ _. refl) (λ _. refl)

-- what 0 tells of a call; len, long and room as in write_rules
pub record Accepted (kind mode : ℕ) (ss es : List ℕ) (len long room : ℕ) : Type 0 where
  pub known : size_of kind ≡ 0 → ⊥
  pub least : first_mode ≤ mode
  pub most : mode ≤ two_preambles
  pub same : length ss ≡ length es
  pub few : length ss ≤ most_windows
  pub inside : Within (size_of kind) ss es
  pub all : len ≡ sum_of ss es
  pub fits : long ≤ room

pub accepted : (kind mode : ℕ) (ss es : List ℕ) (len long room : ℕ) → number_of kind mode ss es len long room ≡ done
    → Accepted kind mode ss es len long room
unfolding number_of
accepted kind mode ss es len long room h =
    let a = none (eqb (size_of kind) 0) 1 _ (λ q. omega (arith, q)) h in
    let b = none (not (leb first_mode mode && leb mode two_preambles)) 2 _ (λ q. omega (arith, q)) a.1 in
    let m = both_true (leb first_mode mode) (leb mode two_preambles) (not-false (leb first_mode mode && leb mode two_preambles) b.0) in
    let c = none (not (eqb (length ss) (length es)) || ltb most_windows (length ss)) 13 _ (λ q. omega (arith, q)) b.1 in
    let t = both_false (not (eqb (length ss) (length es))) (ltb most_windows (length ss)) c.0 in
    let d = none (eqb (windows_number (size_of kind) ss es) bad_start) 11 _ (λ q. omega (arith, q)) c.1 in
    let e = none (eqb (windows_number (size_of kind) ss es) bad_end) 12 _ (λ q. omega (arith, q)) d.1 in
    let f = none (not (eqb len (sum_of ss es))) 14 _ (λ q. omega (arith, q)) e.1 in
    let g = none (ltb room long) 15 0 (λ q. omega (arith, q)) f.1 in
    record {
      known = eqb-false (size_of kind) 0 a.0;
      least = leb-true first_mode mode m.0;
      most = leb-true mode two_preambles m.1;
      same = eqb-true (length ss) (length es) (not-false (eqb (length ss) (length es)) t.0);
      few = ltb-false most_windows (length ss) t.1;
      inside =
          within (size_of kind) ss es
          (cases (λ (n : ℕ). (n ≡ bad_start → ⊥) → (n ≡ bad_end → ⊥) → n ≡ done) (size_of kind) ss es
          (λ _ _. refl) (λ p _. absurd (p refl)) (λ _ p. absurd (p refl))
          (eqb-false (windows_number (size_of kind) ss es) bad_start d.0)
          (eqb-false (windows_number (size_of kind) ss es) bad_end e.0));
      all = eqb-true len (sum_of ss es) (not-false (eqb len (sum_of ss es)) f.0);
      fits = ltb-false room long g.0;
    }

pub accepts : (kind mode : ℕ) (ss es : List ℕ) (len long room : ℕ) → Accepted kind mode ss es len long room
    → number_of kind mode ss es len long room ≡ done
unfolding number_of
accepts kind mode ss es len long room a =
    simp (
      ne_eqb (size_of kind) 0 a.known,
      le-leb first_mode mode a.least,
      le-leb mode two_preambles a.most,
      eq-eqb (length ss) (length es) a.same,
      le-ltb most_windows (length ss) a.few,
      within-done (size_of kind) ss es a.inside,
      eq-eqb len (sum_of ss es) a.all,
      le-ltb room long a.fits,
    )

-- the stream's length is asked only where the tables and the data are right
same_number : (kind mode : ℕ) (ss es : List ℕ) (len long long₂ room : ℕ) → (length ss ≡ length es → len ≡ sum_of ss es → long ≡ long₂)
    → number_of kind mode ss es len long room ≡ number_of kind mode ss es len long₂ room
unfolding number_of
same_number kind mode ss es len long long₂ room f =
    by_test (eqb (length ss) (length es))
    (λ e. by_test (eqb len (sum_of ss es)) (λ g. rw (f (eqb-true (length ss) (length es) e) (eqb-true len (sum_of ss es) g))) (λ g. simp g))
    (λ e. simp e)

-- and it is worked out from their lengths alone
pub number_is : (kind mode control : ℕ) (address ss es d : List ℕ) (room : ℕ)
    → number_of kind mode ss es (length d) (length (lead_in mode) + 6 + 5 * length ss + sum_of ss es) room
    ≡ write_number kind mode control address ss es d room
unfolding write_number
number_is kind mode control address ss es d room =
    same_number kind mode ss es (length d) (length (lead_in mode) + 6 + 5 * length ss + sum_of ss es) (length (stream_of mode control address ss es d)) room
    (λ p q. sym (stream-length mode control address ss es d p q ∙ rw q))
