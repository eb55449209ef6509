-- 'Given exactly when', for any list of rules whose numbers are distinct: from a call's rules to the table of its numbers, and a row of a
-- table by its number. Assumes nothing.
use Prim.Native.Nat.{ℕ}
use mathlib.Core.Bool.{Bool, true, false, not, ◌&&◌, ◌||◌}
use mathlib.Core.Logic.{◌↔◌, ◌⊎◌, inl, inr, ⊎_elim}
use mathlib.Core.Path.{◌≡◌, refl, sym, ◌∙◌}
use mathlib.Core.List.{List, [], ◌∷◌, ◌++◌, append_assoc, append-nil}
use borrow.Author.Tests.{eqb-true}
use lib.Dec.{T, eqb}
use lib.ListN.{length}
use Rattle.chain.specs.declared.Chain.{Chain}
use Rattle.chain.specs.Paper.{closed, done}
use Rattle.chain.specs.Rules.{Rule, ◌gives◌, first_of}
use Rattle.chain.specs.State.{feed_rules, feed_number}
use Rattle.chain.specs.Table.{Claim, ◌when◌, NoneOf, TableAfter, Table, feed_table, Running}
use Rattle.chain.proofs.FirstOf.{None, other, other_than, first-none, none_first, first_never}
use Rattle.chain.proofs.Means.{Means, m-map, m-none, m-eq, reads}
use Rattle.chain.proofs.BadChain.{m-bad_chain}
use Rattle.chain.proofs.WellFormed.{m-ill_formed}

-- rules and claims, one for one
pub data Same : List Rule → List Claim → Type 1 where
  end : Same [] []
  row : {b : Bool} {P : Type 0} {n : ℕ} {rs : List Rule} {cs : List Claim} → Means b true P → Same rs cs → Same ((b gives n) ∷ rs) ((n when P) ∷ cs)

none_to : {rs : List Rule} {cs : List Claim} → Same rs cs → None rs → NoneOf cs
none_to end h = tt
none_to (row p s) h = ((m-none p).says h.0, none_to s h.1)

none_from : {rs : List Rule} {cs : List Claim} → Same rs cs → NoneOf cs → None rs
none_from end h = tt
none_from (row p s) h = ((m-none p).said h.0, none_from s h.1)

-- the number left over is given exactly if no condition holds
pub none-holds : (rs : List Rule) (cs : List Claim) (n : ℕ) → T (other rs n) → Same rs cs → first_of rs n ≡ n ↔ NoneOf cs
none-holds rs cs n o s = (λ e. none_to s (first-none rs n o e), λ h. none_first rs n (none_from s h))

both : (a b : Bool) → T (a && b) → T a × T b
both true b h = (tt, h)
both false b h = absurd h

is_first : (b : Bool) (rules : List Rule) (k n : ℕ) → T (other rules k) → (k ≡ n → ⊥) → first_of ((b gives k) ∷ rules) n ≡ k → b ≡ true
is_first true rules k n o d e = refl
is_first false rules k n o d e = absurd (first_never rules n k (λ q. d (sym q)) o e)

-- no number stands twice, and n is no rule's
abbrev pub distinct : List Rule → ℕ → Bool
distinct [] n = true
distinct ((b gives m) ∷ rules) n = not (eqb m n) && (other rules m && distinct rules n)

-- m is one of their numbers, or n
abbrev Given : List Rule → ℕ → ℕ → Type 0
Given [] n m = m ≡ n
Given ((b gives k) ∷ rules) n m = (m ≡ k) ⊎ Given rules n m

not-given : (rules : List Rule) (n k : ℕ) → T (other rules k) → (k ≡ n → ⊥) → Given rules n k → ⊥
not-given [] n k o d g = d g
not-given ((b gives m) ∷ rules) n k o d g =
    let h = other_than m k (other rules k) o in
    ⊎_elim (λ e. h.0 (sym e)) (not-given rules n k h.1 d) g

-- none of them, and not P
none_snoc : (ds : List Claim) (k : ℕ) (P : Type 0) → NoneOf (ds ++ ((k when P) ∷ [])) ↔ NoneOf ds × (P → ⊥)
none_snoc [] k P = (λ h. (tt, h.0), λ h. (h.1, tt))
none_snoc ((m when Q) ∷ ds) k P =
    let s = none_snoc ds k P in
    (λ h. let r = s.0 h.1 in ((h.0, r.0), r.1), λ h. (h.0.0, s.1 (h.0.1, h.1)))

-- a is the first of the rules where none of the claims before holds, and none of those holds where a is one of the rules' numbers
table-after : {rs : List Rule} {cs : List Claim} (ds : List Claim) (a n : ℕ) → Same rs cs → T (distinct rs n)
    → (NoneOf ds → a ≡ first_of rs n) → ((m : ℕ) → Given rs n m → a ≡ m → NoneOf ds) → TableAfter ds a cs n
table-after ds a n end d on off = (off n refl, on)
table-after ds a n (row {b} {P} {n = k} {rs} p s) d on off =
    let u = other_than k n (other rs k && distinct rs n) d in
    let v = both (other rs k) (distinct rs n) u.1 in
    let snoc = none_snoc ds k P in (
      (
        λ e. let h = off k (inl refl) e in (h, p.says (is_first b rs k n v.0 u.0 (sym (on h) ∙ e))),
        λ h. on h.0 ∙ rw (p.said h.1) refl,
      ),
      table-after (ds ++ ((k when P) ∷ [])) a n s v.1 (λ h. let g = snoc.0 h in on g.0 ∙ rw ((m-none p).said g.1) refl)
          (λ m g e.
          let h = off m (inr g) e in
          snoc.1 (h, λ x. let q : first_of ((b gives k) ∷ rs) n ≡ k = rw (p.said x) in not-given rs n k v.0 u.0 (rw (sym e ∙ on h ∙ q) at g))),
    )

-- what holds exactly by the rules holds exactly by the claims
pub table : (rs : List Rule) (cs : List Claim) (n : ℕ) → T (distinct rs n) → Same rs cs → Table (first_of rs n) cs n
table rs cs n d s = table-after [] (first_of rs n) n s d (λ h. refl) (λ m g e. tt)

-- ---- claims in other words

pub data Alike : List Claim → List Claim → Type 1 where
  same : Alike [] []
  like : {P Q : Type 0} {n : ℕ} {cs ds : List Claim} → P ↔ Q → Alike cs ds → Alike ((n when P) ∷ cs) ((n when Q) ∷ ds)

pub same_alike : {rs : List Rule} {cs ds : List Claim} → Same rs cs → Alike cs ds → Same rs ds
same_alike end same = end
same_alike (row t s) (like e a) = row (m-map t e.0 e.1) (same_alike s a)

-- ---- a row by its number

abbrev choose : Bool → Type 0 → Type 0 → Type 0
choose true A B = A
choose false A B = B

-- the condition of the number m
abbrev pub Condition : List Claim → ℕ → Type 0
Condition [] m = ⊥
Condition ((k when P) ∷ cs) m = choose (eqb k m) P (Condition cs m)

-- the claims before it
abbrev until : Bool → Claim → List Claim → List Claim
until true c cs = []
until false c cs = c ∷ cs

abbrev pub before : List Claim → ℕ → List Claim
before [] m = []
before ((k when P) ∷ cs) m = until (eqb k m) (k when P) (before cs m)

abbrev pub has : List Claim → ℕ → Bool
has [] m = false
has ((k when P) ∷ cs) m = eqb k m || has cs m

pub none_of : (cs : List Claim) (m : ℕ) → NoneOf cs → Condition cs m → ⊥
none_of [] m h = λ x. x
none_of ((k when P) ∷ cs) m h = go (eqb k m) (none_of cs m h.1)
  where
    go : (t : Bool) → (Condition cs m → ⊥) → choose t P (Condition cs m) → ⊥
    go true later x = h.0 x
    go false later x = later x

row_after : (ds cs : List Claim) (a n m : ℕ) → T (has cs m) → TableAfter ds a cs n → a ≡ m ↔ NoneOf (ds ++ before cs m) × Condition cs m
row_after ds [] a n m = λ h t. absurd h
row_after ds ((k when P) ∷ cs) a n m = go (eqb k m) (eqb-true k m) (row_after (ds ++ ((k when P) ∷ [])) cs a n m)
  where
    go : (t : Bool) → (t ≡ true → k ≡ m)
        → (T (has cs m) → TableAfter (ds ++ ((k when P) ∷ [])) a cs n → a ≡ m ↔ NoneOf ((ds ++ ((k when P) ∷ [])) ++ before cs m) × Condition cs m)
        → T (t || has cs m) → TableAfter ds a ((k when P) ∷ cs) n
        → a ≡ m ↔ NoneOf (ds ++ until t (k when P) (before cs m)) × choose t P (Condition cs m)
    go true e later h t = rw (append-nil, ← (e refl)) t.0
    go false e later h t = rw append_assoc at (later h t.1)

pub row_of : (cs : List Claim) (a n : ℕ) → Table a cs n → (m : ℕ) → T (has cs m) → a ≡ m ↔ NoneOf (before cs m) × Condition cs m
row_of cs a n t m h = row_after [] cs a n m h t

else_after : (ds cs : List Claim) (a n : ℕ) → TableAfter ds a cs n → a ≡ n ↔ NoneOf (ds ++ cs)
else_after ds [] a n t = rw append-nil t
else_after ds ((k when P) ∷ cs) a n t = rw append_assoc at (else_after (ds ++ ((k when P) ∷ [])) cs a n t.1)

-- the last row
pub else_of : (cs : List Claim) (a n : ℕ) → Table a cs n → a ≡ n ↔ NoneOf cs
else_of cs a n t = else_after [] cs a n t

-- ---- the rows of a state

pub ruleset table-reads = (row, end, reads)

pub ruleset state-reads = (m-bad_chain, m-ill_formed, table-reads)

module _ (c : Chain) (m : List ℕ) where
  pub feed_same : {rs : List Rule} {cs : List Claim} → Same rs cs → Same (feed_rules c (length m) rs) (feed_table c m cs)
  feed_same t = row (m-bad_chain c.count c.kinds (length m)) (row (m-ill_formed c) (row (m-eq c.place.running closed) t))

  -- a state takes a slice exactly if no call that feeds bytes refuses it
  pub feed_takes : feed_number c (length m) ≡ done ↔ Running c m
  unfolding feed_number
  feed_takes = none-holds (feed_rules c (length m) []) (feed_table c m []) done tt (feed_same end)
