-- The table of a slice's numbers: n at byte k exactly when the k bytes before it gave 16 and n's condition holds there. Assumes nothing.
use Prim.Native.Nat.{ℕ, zero, suc, ◌<◌, ◌≤◌}
use mathlib.Core.Bool.{true, false, false≢true}
use mathlib.Core.Logic.{◌↔◌, ◌⊎◌, inl, inr, ⊎_elim, ◌≢◌}
use mathlib.Core.Path.{◌≡◌, refl, sym, ap, subst, ◌∙◌}
use mathlib.Core.List.{List, [], ◌∷◌, ◌++◌}
use native.Mathlib.Omega.{arith}
use borrow.Author.Tests.{eq-eqb, leb-true, leb-false}
use lib.Dec.{leb}
use lib.ListN.{length, get_or, take, drop, take-append-drop}
use lib.Seq.{take-suc, take-take, take-length}
use Rattle.chain.specs.declared.Chain.{Chain}
use Rattle.chain.specs.Paper.{done, more}
use Rattle.chain.specs.Rules.{Rule, ◌gives◌, first_of}
use Rattle.chain.specs.State.{feed_rules, feed_number}
use Rattle.chain.specs.Table.{NoneOf, Table}
use Rattle.chain.proofs.ByCases.{by_test, by_eq}
use Rattle.chain.proofs.Means.{Means}
use Rattle.chain.proofs.Numbers.{feed_gives, feed_passes}
use Rattle.chain.proofs.Table.{Same, row, end, Alike, like, same, same_alike, table, else_of, feed_same}
use Rattle.machine.specs.declared.Fed.{Fed}
use Rattle.awaited.specs.Byte.{byte_rules, number_of}
use Rattle.machine.specs.Run.{Run, run, run_of}
use Rattle.machine.specs.Calls.{fed_of, slice_of}
use Rattle.machine.proofs.Feed.{run-append, run-over}
use Rattle.machine.proofs.Runs.{step_number}
use Rattle.grammar.proofs.Runs.Slices.{slice_runs, fed-more, slice_number_lem, more_feeds}
use Rattle.demands.specs.ByteTable.{ByteClaim, ◌whenever◌, byte_claims, claims_of, own_table, slice_number, AtSome, slice_table}
use Rattle.demands.proofs.Numbers.ByteTables.{own_same, own_table_lem, slice_off}

-- a condition that a byte's number ends the run by
abbrev pub Ends : (Chain → ℕ → Type 0) → Type 0
Ends P = (c : Chain) (b : ℕ) → P c b → number_of c b ≢ more

-- ---- a run, part by part

front_open : (xs ys : List ℕ) (r : Run) → (run_of r (xs ++ ys)).number ≡ more → (run_of r xs).number ≡ more
front_open xs ys r h =
    by_eq (run_of r xs).number more (λ e. e)
    (λ f. absurd (f (sym (ap (λ (x : Run). x.number) (run-append xs ys r ∙ run-over ys (run_of r xs) f)) ∙ h)))

one_number : (b : ℕ) (r : Run) → r.number ≡ more → (run_of r (b ∷ [])).number ≡ number_of r.chain b
unfolding run_of
one_number b r e = rw (eq-eqb r.number more e) (step_number r.chain r.memory b)

next_number_lem : (xs : List ℕ) (b : ℕ) (r : Run) → (run_of r xs).number ≡ more → (run_of r (xs ++ (b ∷ []))).number ≡ number_of (run_of r xs).chain b
next_number_lem xs b r h = ap (λ (x : Run). x.number) (run-append xs (b ∷ []) r) ∙ one_number b (run_of r xs) h

-- the first of n turns after which something is not 16
pub turn : (f : ℕ → ℕ) → f 0 ≡ more → (n : ℕ) → (f n ≡ more) ⊎ ((k : ℕ) × (k < n) × (f k ≡ more) × (f (suc k) ≢ more))
turn f z zero = inl z
turn f z (suc n) =
    ⊎_elim
    (λ h. by_eq (f (suc n)) more (λ e. inl e) (λ e. inr (n, omega arith, h, e)))
    (λ h. inr (h.0, omega (arith, h.1), h.2, h.3))
    (turn f z n)

-- ---- the slices of a state that takes a byte

module _ (c : Chain) (m s : List ℕ) (z : feed_number c (length m) ≡ done) where
  abbrev after : ℕ → Run
  after k = run_of (run c m more) (take k s)

  number_at : (k : ℕ) → slice_number c m (take k s) ≡ (after k).number
  number_at k = slice_number_lem c m (take k s) z

  chain-at : (k : ℕ) → slice_number c m (take k s) ≡ more → (slice_of c m (take k s)).chain ≡ (after k).chain
  chain-at k h = ap (λ (f : Fed). f.chain) (slice_runs c m (take k s) z).0 ∙ fed-more (after k) (sym (number_at k) ∙ h)

  -- what gave 16 gave 16 before
  earlier : (j k : ℕ) → j ≤ k → slice_number c m (take k s) ≡ more → slice_number c m (take j s) ≡ more
  earlier j k l h = number_at j ∙ front_open (take j s) (drop j (take k s)) (run c m more) (ap (λ (x : List ℕ). (run_of (run c m more) x).number) parts ∙ sym (number_at k) ∙ h)
    where
      parts : take j s ++ drop j (take k s) ≡ take k s
      parts = ap (λ (x : List ℕ). x ++ drop j (take k s)) (sym (take-take j k s l)) ∙ take-append-drop j (take k s)

  -- byte k gives its own number
  pub at_byte : (k : ℕ) → k < length s → slice_number c m (take k s) ≡ more
      → slice_number c m (take (suc k) s) ≡ number_of (slice_of c m (take k s)).chain (get_or s k 0)
  at_byte k l h =
      number_at (suc k)
      ∙ ap (λ (x : List ℕ). (run_of (run c m more) x).number) (take-suc s k 0 l)
      ∙ next_number_lem (take k s) (get_or s k 0) (run c m more) (sym (number_at k) ∙ h)
      ∙ ap (λ (x : Chain). number_of x (get_or s k 0)) (sym (chain-at k h))

  -- a slice is over at the first byte that gives another number than 16
  pub over-at : (k : ℕ) → slice_number c m (take (suc k) s) ≢ more → slice_of c m s ≡ slice_of c m (take (suc k) s)
  over-at k h =
      (slice_runs c m s z).0
      ∙ ap (λ (x : List ℕ). fed_of (run_of (run c m more) x)) (sym (take-append-drop (suc k) s))
      ∙ ap fed_of (run-append (take (suc k) s) (drop (suc k) s) (run c m more) ∙ run-over (drop (suc k) s) (after (suc k)) (λ e. h (number_at (suc k) ∙ e)))
      ∙ sym (slice_runs c m (take (suc k) s) z).0

  module _ (P : Chain → ℕ → Type 0) (ends : Ends P) where
    holds-ends : (a : AtSome c m s P) → slice_number c m (take (suc a.k) s) ≢ more
    holds-ends a e = ends _ _ a.holds (sym (at_byte a.k a.there a.before) ∙ e)

    -- where the slice ends at byte k no other will do
    at_end_lem : (k : ℕ) → k < length s → slice_number c m (take k s) ≡ more → slice_number c m (take (suc k) s) ≢ more
        → P (slice_of c m (take k s)).chain (get_or s k 0) ↔ AtSome c m s P
    at_end_lem k l h n = (
      λ p. record { k = k; there = l; before = h; holds = p },
      λ a. subst (λ (j : ℕ). P (slice_of c m (take j s)).chain (get_or s j 0)) (only a) a.holds,
    )
      where
        only : (a : AtSome c m s P) → a.k ≡ k
        only a =
            by_test (leb (suc a.k) k)
            (λ e. absurd (holds-ends a (earlier (suc a.k) k (leb-true (suc a.k) k e) h)))
            (λ e.
            by_test (leb (suc k) a.k)
            (λ f. absurd (n (earlier (suc k) a.k (leb-true (suc k) a.k f) a.before)))
            (λ f. omega (arith, leb-false (suc a.k) k e, leb-false (suc k) a.k f)))

    -- where it gives 16 there is none
    never : slice_number c m s ≡ more → AtSome c m s P → ⊥
    never h a = holds-ends a (earlier (suc a.k) (length s) a.there (ap (slice_number c m) (take-length s) ∙ h))

-- ---- the table

-- each condition of a byte ends the run
abbrev pub AllEnd : List ByteClaim → Type 0
AllEnd [] = Unit {0}
AllEnd ((n whenever P) ∷ claims) = Ends P × AllEnd claims

all_end : (claims : List ByteClaim) → ((c : Chain) (b : ℕ) → number_of c b ≡ more → NoneOf (claims_of (λ P. P c b) claims)) → AllEnd claims
all_end [] h = tt
all_end ((n whenever P) ∷ claims) h = (λ c b p e. (h c b e).0 p, all_end claims (λ c b e. (h c b e).1))

pub own-ends : AllEnd byte_claims
own-ends = all_end byte_claims (λ c b. (else_of (own_table c b) (number_of c b) more (own_table_lem c b)).0)

-- their numbers, none of them given
abbrev pub no_rules : List ByteClaim → List Rule
no_rules [] = []
no_rules ((n whenever P) ∷ claims) = (false gives n) ∷ no_rules claims

pub m_false : {P : Type 0} → (P → ⊥) → Means false true P
m_false h = record { says = λ e. absurd (false≢true e); said = λ p. absurd (h p) }

own_number_lem : (c : Chain) (b : ℕ) → number_of c b ≡ first_of (byte_rules c b) more
unfolding number_of
own_number_lem c b = refl

run_none : (c : Chain) (m : List ℕ) → (run_of (run c m more) []).number ≡ more
unfolding run_of
run_none c m = refl

module _ (c : Chain) (m s : List ℕ) where
  none-same : (claims : List ByteClaim) → AllEnd claims → ((P : Chain → ℕ → Type 0) → Ends P → AtSome c m s P → ⊥)
      → Same (no_rules claims) (claims_of (AtSome c m s) claims)
  none-same [] e h = end
  none-same ((n whenever P) ∷ claims) e h = row (m_false (h P e.0)) (none-same claims e.1 h)

  none-table : ((P : Chain → ℕ → Type 0) → Ends P → AtSome c m s P → ⊥) → slice_number c m s ≡ first_of (feed_rules c (length m) (no_rules byte_claims)) more
      → Table (slice_number c m s) (slice_table c m s) more
  none-table h e =
      rw e (table (feed_rules c (length m) (no_rules byte_claims)) (slice_table c m s) more tt (feed_same c m (none-same byte_claims own-ends h)))

  -- the slice ends at its byte k
  module _ (z : feed_number c (length m) ≡ done) (k : ℕ) (l : k < length s) (h : slice_number c m (take k s) ≡ more) (n : slice_number c m (take (suc k) s) ≢ more) where
    abbrev there : Chain
    there = (slice_of c m (take k s)).chain

    abbrev byte : ℕ
    byte = get_or s k 0

    at-ends : (claims : List ByteClaim) → AllEnd claims → Alike (claims_of (λ P. P there byte) claims) (claims_of (AtSome c m s) claims)
    at-ends [] e = same
    at-ends ((i whenever P) ∷ claims) e = like (at_end_lem c m s z P e.0 k l h n) (at-ends claims e.1)

    end-number : slice_number c m s ≡ first_of (feed_rules c (length m) (byte_rules there byte)) more
    end-number =
        ap (λ (f : Fed). f.answer.number) (over-at c m s z k n)
        ∙ at_byte c m s z k l h
        ∙ own_number_lem there byte
        ∙ sym (feed_passes c (length m) (byte_rules there byte) more z)

    end-table : Table (slice_number c m s) (slice_table c m s) more
    end-table =
        rw end-number
        (table (feed_rules c (length m) (byte_rules there byte)) (slice_table c m s) more tt
        (feed_same c m (same_alike (own_same there byte) (at-ends byte_claims own-ends))))

  pub slice_table_lem : Table (slice_of c m s).answer.number (slice_table c m s) more
  slice_table_lem =
      by_eq (feed_number c (length m)) done
      (λ z.
      ⊎_elim
      (λ h.
      let g : slice_number c m s ≡ more = ap (slice_number c m) (sym (take-length s)) ∙ h in
      none-table (λ P ends. never c m s z P ends g) (g ∙ sym (feed_passes c (length m) (no_rules byte_claims) more z)))
      (λ x. end-table z x.0 x.1 x.2 x.3)
      (turn (λ (k : ℕ). slice_number c m (take k s)) (nothing z) (length s)))
      (λ z.
      none-table (λ P ends a. z (more_feeds c m (take a.k s) a.before))
      (slice_off c m s z ∙ sym (feed_gives c (length m) (no_rules byte_claims) more z)))
    where
      nothing : feed_number c (length m) ≡ done → slice_number c m [] ≡ more
      nothing z = slice_number_lem c m [] z ∙ run_none c m
