-- The table of a fetch's numbers: n at byte k exactly when the k bytes before it gave 16 and n's condition holds there. Assumes nothing.
use Prim.Native.Nat.{ℕ, suc, ◌<◌, ◌≤◌}
use mathlib.Core.Bool.{Bool, true, false, false≢true, not, ◌||◌}
use mathlib.Core.Logic.{◌↔◌, ⊎_elim, ◌≢◌}
use mathlib.Core.Path.{◌≡◌, refl, sym, ap, subst, ◌∙◌}
use mathlib.Core.List.{List, [], ◌∷◌, ◌++◌}
use native.Mathlib.Omega.{arith}
use borrow.Author.Tests.{leb-true, leb-false, le-leb, lt-leb}
use lib.Dec.{T, eqb, leb, ltb}
use lib.ListN.{length}
use Rattle.chain.specs.declared.Chain.{Chain}
use Rattle.chain.specs.Paper.{at_null, closed, first_mode, downward, eprom_internal, done, bad_chain, bad_mode, no_run, more, ill_formed, past_eprom, bad_jump}
use Rattle.chain.specs.Rules.{Rule, ◌gives◌, first_of}
use Rattle.chain.specs.State.{is_bad_chain, is_ill_formed}
use Rattle.chain.specs.Table.{Claim, ◌when◌, Table}
use Rattle.chain.proofs.ByCases.{by_test, by_eq}
use Rattle.chain.proofs.FirstOf.{first-none, first_passes, first_gives}
use Rattle.chain.proofs.Means.{Means, m-map, m-eq, m-lt, m-and, m_four, m-none, m-not, m_neither, m-or}
use Rattle.chain.proofs.BadChain.{m-bad_chain}
use Rattle.chain.proofs.WellFormed.{m-ill_formed}
use Rattle.chain.proofs.Table.{Same, row, end, distinct, Alike, like, same, same_alike, table}
use Rattle.awaited.specs.Byte.{byte_rules, number_of}
use Rattle.eprom.specs.declared.Fetcher.{Fetcher}
use Rattle.eprom.specs.Counter.{fetches, last_count}
use Rattle.eprom.specs.Kept.{not_yet, external_of, jumps, astray}
use Rattle.eprom.specs.Fetch.{Fetching, at_counter, fetch_all}
use Rattle.eprom.specs.Calls.{fetch_number}
use Rattle.eprom.proofs.AsFed.{null_more}
use Rattle.demands.specs.Loader.{AfterFetch}
use Rattle.demands.specs.ByteTable.{ByteClaim, ◌whenever◌, byte_claims, claims_of}
use Rattle.demands.specs.FetchTable.{lent_table, NoEprom, Eighteen, Own, Jump, BadJump, Nineteen, fetch_number_of, AtFetched, fetch_table, FetchNumbers}
use Rattle.demands.specs.Ours.{ours}
use Rattle.demands.proofs.Numbers.ByteTables.{own_same}
use Rattle.demands.proofs.Numbers.SliceTables.{Ends, turn, AllEnd, own-ends, no_rules, m_false}
use Rattle.demands.proofs.Numbers.FetchRuns.{next_number, number_off, more-fetches, at, number_at, chain-at, fetcher_at_lem, number-next, earlier, settled}

-- an answer is the first of rules that are such claims, row for row
pub record ByRules (answer : ℕ) (cs : List Claim) : Type 1 where
  pub rules : List Rule
  pub first : answer ≡ first_of rules more
  pub apart : T (distinct rules more)
  pub rows : Same rules cs

-- ---- before a byte is looked at

-- 17 of the state and of the counter as one row, and the rules after these
abbrev lent_rules : Chain → Fetcher → ℕ → List Rule → List Rule
lent_rules c f len rules =
    (is_bad_chain c.count c.kinds len gives bad_chain)
    ∷ (is_ill_formed c || ltb last_count f.counter gives ill_formed)
    ∷ (eqb c.place.running closed gives no_run)
    ∷ (not (fetches c.place.mode) gives bad_mode)
    ∷ rules

both_17 : (a b d : Bool) (rules : List Rule) (n : ℕ)
    → first_of ((a gives bad_chain) ∷ (b gives ill_formed) ∷ (d gives ill_formed) ∷ rules) n
    ≡ first_of ((a gives bad_chain) ∷ (b || d gives ill_formed) ∷ rules) n
both_17 true b d rules n = refl
both_17 false true d rules n = refl
both_17 false false d rules n = refl

module _ (c : Chain) (f : Fetcher) where
  lent-number : (len : ℕ) → fetch_number c f len ≡ first_of (lent_rules c f len []) done
  unfolding fetch_number
  lent-number len =
      both_17 (is_bad_chain c.count c.kinds len) (is_ill_formed c) (ltb last_count f.counter)
      ((eqb c.place.running closed gives no_run) ∷ (not (fetches c.place.mode) gives bad_mode) ∷ []) done

  pub m_no_eprom : Means (not (fetches c.place.mode)) true (NoEprom c)
  m_no_eprom =
      let mode = c.place.mode in
      m-map
      (m-not (m_neither (m_neither (m-none (m-eq mode first_mode)) (m-none (m-eq mode downward))) (m-none (m-eq mode eprom_internal))))
      (λ h. (h.0.0, h.0.1, h.1)) (λ h. ((h.0, h.1), h.2))

  lent_same : (m : List ℕ) {rs : List Rule} {cs : List Claim} → Same rs cs
      → Same (lent_rules c f (length m) rs) (lent_table c f m ((bad_mode when NoEprom c) ∷ cs))
  lent_same m {rs = rs} {cs = cs} t =
      row (m-bad_chain c.count c.kinds (length m))
      (row (m-or (m-ill_formed c) (m-lt last_count f.counter)) (row (m-eq c.place.running closed) (row m_no_eprom t)))

  pub lent_table_lem : (m : List ℕ) → Table (fetch_number c f (length m)) (lent_table c f m ((bad_mode when NoEprom c) ∷ [])) done
  lent_table_lem m =
      rw (lent-number (length m)) (table (lent_rules c f (length m) []) (lent_table c f m ((bad_mode when NoEprom c) ∷ [])) done tt (lent_same m end))

  pub m-jumps : Means (jumps c.place f) true (Jump c f)
  unfolding jumps
  m-jumps = m_four (m-eq c.place.device 0) (m-eq c.place.awaited at_null) (m-eq f.nulled not_yet) (m-eq _ 1)

  m-astray : Means (astray c.place f) true (BadJump c f)
  unfolding astray
  m-astray = m-and m-jumps (m-lt last_count (external_of f))

-- a call that is not refused before goes by its bytes, one that is by that alone
module _ (c : Chain) (f : Fetcher) (m : List ℕ) (rs : List Rule) where
  lent_passes : fetch_number c f (length m) ≡ done → first_of (lent_rules c f (length m) rs) more ≡ first_of rs more
  lent_passes z =
      first_passes rs more (lent_rules c f (length m) [])
      (first-none (lent_rules c f (length m) []) done tt (sym (lent-number c f (length m)) ∙ z))

  lent_gives : fetch_number c f (length m) ≢ done → first_of (lent_rules c f (length m) rs) more ≡ fetch_number c f (length m)
  lent_gives z =
      first_gives rs more (lent_rules c f (length m) []) done (λ i. z (lent-number c f (length m) ∙ i)) ∙ sym (lent-number c f (length m))

-- ---- the bytes of a fetch that is not refused

module _ (c : Chain) (f : Fetcher) (m e : List ℕ) (z : fetch_number c f (length m) ≡ done) where
  abbrev x : ℕ → Fetching
  x k = at c f m e z k

  abbrev left : ℕ → AfterFetch
  left k = ours.fetch c f m e k

  abbrev number : ℕ → ℕ
  number k = fetch_number_of ours c f m e k

  going : (k : ℕ) → number k ≡ more → (x k).run.number ≡ more
  going k h = sym (number_at c f m e z k) ∙ h

  number-after : (k : ℕ) → number k ≡ more → number (suc k) ≡ next_number e (x k)
  number-after k h = number_at c f m e z (suc k) ∙ number-next c f m e z k (going k h)

  -- a condition that stops the run
  abbrev Halts : (List ℕ → AfterFetch → Type 0) → Type 0
  Halts P = (k : ℕ) → number k ≡ more → P e (left k) → number (suc k) ≢ more

  module _ (P : List ℕ → AfterFetch → Type 0) (halts : Halts P) (n : ℕ) where
    -- where the fetch stops at byte k no other will do
    at_end_lem : (k : ℕ) → k < n → number k ≡ more → number (suc k) ≢ more → P e (left k) ↔ AtFetched ours c f m e n P
    at_end_lem k l h g = (
      λ p. record { k = k; there = l; before = h; holds = p },
      λ a. subst (λ (j : ℕ). P e (left j)) (only a) a.holds,
    )
      where
        before : (i j : ℕ) → i ≤ j → number j ≡ more → number i ≡ more
        before i j l h = number_at c f m e z i ∙ earlier c f m e z i j l (going j h)

        only : (a : AtFetched ours c f m e n P) → a.k ≡ k
        only a =
            by_test (leb (suc a.k) k)
            (λ i. absurd (halts a.k a.before a.holds (before (suc a.k) k (leb-true (suc a.k) k i) h)))
            (λ i.
            by_test (leb (suc k) a.k)
            (λ j. absurd (g (before (suc k) a.k (leb-true (suc k) a.k j) a.before)))
            (λ j. omega (arith, leb-false (suc a.k) k i, leb-false (suc k) a.k j)))

    -- where it gives 16 there is none
    never : number n ≡ more → AtFetched ours c f m e n P → ⊥
    never h a =
        halts a.k a.before a.holds (number_at c f m e z (suc a.k) ∙ earlier c f m e z (suc a.k) n a.there (going n h))

  -- ---- each condition stops it

  past : (k : ℕ) → Eighteen e (left k) → leb (length e) (x k).fetcher.counter ≡ true
  past k p = le-leb (length e) (x k).fetcher.counter (rw (fetcher_at_lem c f m e z k) at p)

  there : (k : ℕ) → (left k).fetched.fetcher.counter < length e → leb (length e) (x k).fetcher.counter ≡ false
  there k p = lt-leb (length e) (x k).fetcher.counter (rw (fetcher_at_lem c f m e z k) at p)

  halts_18 : Halts Eighteen
  halts_18 k h p g =
      let i : next_number e (x k) ≡ past_eprom = rw (past k p) in
      let j = sym (number-after k h) ∙ g in
      omega (arith, i, j)

  halts_own : (P : Chain → ℕ → Type 0) → Ends P → Halts (Own P)
  halts_own P ends k h p g =
      let i : next_number e (x k) ≡ more = sym (number-after k h) ∙ g in
      let q : P (x k).run.chain (at_counter e (x k)) = rw (chain-at c f m e z k (going k h), fetcher_at_lem c f m e z k) at p.1 in
      by_test (astray (x k).run.chain.place (x k).fetcher)
      (λ t. let j : bad_jump ≡ more = rw (there k p.0, t) at i in omega (arith, j))
      (λ t. ends (x k).run.chain (at_counter e (x k)) q (rw (there k p.0, t) at i))

  strays : (k : ℕ) → number k ≡ more → Nineteen e (left k) → astray (x k).run.chain.place (x k).fetcher ≡ true
  strays k h p =
      (m-astray (x k).run.chain (x k).fetcher).said
      (rw (chain-at c f m e z k (going k h), fetcher_at_lem c f m e z k) at p.1)

  halts_19 : Halts Nineteen
  halts_19 k h p g =
      let i : next_number e (x k) ≡ bad_jump = rw (there k p.0, strays k h p) in
      let j = sym (number-after k h) ∙ g in
      omega (arith, i, j)

  -- ---- the fetch stops at byte k

  module _ (n k : ℕ) (l : k < n) (h : number k ≡ more) (g : number (suc k) ≢ more) where
    abbrev chain : Chain
    chain = (x k).run.chain

    abbrev fetcher : Fetcher
    fetcher = (x k).fetcher

    abbrev byte : ℕ
    byte = at_counter e (x k)

    total : number n ≡ next_number e (x k)
    total =
        number_at c f m e z n
        ∙ ap (λ (y : Fetching). y.run.number) (settled c f m e z (suc k) n l (λ i. g (number_at c f m e z (suc k) ∙ i)))
        ∙ number-next c f m e z k (going k h)

    own_alike : (claims : List ByteClaim) → AllEnd claims → {cs ds : List Claim} → Alike cs ds
        → Alike (claims_of (λ P. Own P e (left k)) claims ++ cs) (claims_of (λ P. AtFetched ours c f m e n (Own P)) claims ++ ds)
    own_alike [] ends t = t
    own_alike ((i whenever P) ∷ claims) ends t =
        like (at_end_lem (Own P) (halts_own P ends.0) n k l h g) (own_alike claims ends.1 t)

    -- from the conditions at byte k to those at some byte
    stop-rules : (rs : List Rule) → next_number e (x k) ≡ first_of rs more → T (distinct (lent_rules c f (length m) rs) more)
        → Same rs
        ((past_eprom when Eighteen e (left k)) ∷ claims_of (λ P. Own P e (left k)) byte_claims ++ ((bad_jump when Nineteen e (left k)) ∷ []))
        → ByRules (number n) (fetch_table ours c f m e n)
    stop-rules rs r d t =
        record {
          rules = lent_rules c f (length m) rs;
          first = total ∙ r ∙ sym (lent_passes c f m rs z);
          apart = d;
          rows =
              lent_same c f m
              (same_alike t
              (like (at_end_lem Eighteen halts_18 n k l h g) (own_alike byte_claims own-ends (like (at_end_lem Nineteen halts_19 n k l h g) same))));
        }

    -- none of the byte's own
    none-own : (claims : List ByteClaim) → AllEnd claims → ((P : Chain → ℕ → Type 0) → Ends P → Own P e (left k) → ⊥)
        → {rs : List Rule} {cs : List Claim} → Same rs cs → Same (no_rules claims ++ rs) (claims_of (λ P. Own P e (left k)) claims ++ cs)
    none-own [] ends nowhere t = t
    none-own ((i whenever P) ∷ claims) ends nowhere t = row (m_false (nowhere P ends.0)) (none-own claims ends.1 nowhere t)

    past_rules : leb (length e) fetcher.counter ≡ true → ByRules (number n) (fetch_table ours c f m e n)
    past_rules p =
        stop-rules ((true gives past_eprom) ∷ no_rules byte_claims ++ ((false gives bad_jump) ∷ [])) (rw p) tt
        (row (record { says = λ i. is_past; said = λ i. refl })
        (none-own byte_claims own-ends (λ P ends q. absent q.0) (row (m_false (λ q. absent q.0)) end)))
      where
        is_past : Eighteen e (left k)
        is_past = rw (← (fetcher_at_lem c f m e z k)) at (leb-true (length e) fetcher.counter p)

        absent : (left k).fetched.fetcher.counter < length e → ⊥
        absent q = let i = is_past in omega arith

    module _ (p : leb (length e) fetcher.counter ≡ false) where
      present : (left k).fetched.fetcher.counter < length e
      present = rw (← (fetcher_at_lem c f m e z k)) at (leb-false (length e) fetcher.counter p)

      not_past : Eighteen e (left k) → ⊥
      not_past q = let i = present in omega arith

      -- the state and the byte there
      here : (P : Chain → ℕ → Type 0) → P chain byte ↔ Own P e (left k)
      here P = (
        λ q. (present, rw (chain-at c f m e z k (going k h), fetcher_at_lem c f m e z k) q),
        λ q. rw (chain-at c f m e z k (going k h), fetcher_at_lem c f m e z k) at q.1,
      )

      jump_rules : astray chain.place fetcher ≡ true → ByRules (number n) (fetch_table ours c f m e n)
      jump_rules q =
          let j = (m-astray chain fetcher).says q in
          stop-rules ((false gives past_eprom) ∷ no_rules byte_claims ++ ((true gives bad_jump) ∷ [])) (rw (p, q)) tt
          (row (m_false not_past)
          (none-own byte_claims own-ends (λ P ends i. ends chain byte ((here P).1 i) (null_more chain (x k).run.memory byte j.0.1))
          (row (record { says = λ i. (present, rw (chain-at c f m e z k (going k h), fetcher_at_lem c f m e z k) j); said = λ i. refl }) end)))

      own_here : (claims : List ByteClaim) {rs rs' : List Rule} {cs : List Claim} → Same rs (claims_of (λ P. P chain byte) claims) → Same rs' cs
          → Same (rs ++ rs') (claims_of (λ P. Own P e (left k)) claims ++ cs)
      own_here [] end t = t
      own_here ((i whenever P) ∷ claims) (row u s) t = row (m-map u (here P).0 (here P).1) (own_here claims s t)

      by_own : astray chain.place fetcher ≡ false
          → next_number e (x k) ≡ first_of ((false gives past_eprom) ∷ byte_rules chain byte ++ ((false gives bad_jump) ∷ [])) more
      unfolding number_of
      by_own q = rw (p, q)

      bytes-rules : astray chain.place fetcher ≡ false → ByRules (number n) (fetch_table ours c f m e n)
      bytes-rules q =
          stop-rules ((false gives past_eprom) ∷ byte_rules chain byte ++ ((false gives bad_jump) ∷ [])) (by_own q) tt
          (row (m_false not_past)
          (own_here byte_claims (own_same chain byte)
          (row (m_false (λ i. absurd (false≢true (sym q ∙ strays k h i)))) end)))

    pub stopped-rules : ByRules (number n) (fetch_table ours c f m e n)
    stopped-rules =
        by_test (leb (length e) fetcher.counter) past_rules
        (λ p. by_test (astray chain.place fetcher) (jump_rules p) (bytes-rules p))

-- ---- the table

module _ (c : Chain) (f : Fetcher) (m e : List ℕ) (n : ℕ) where
  abbrev At : (List ℕ → AfterFetch → Type 0) → Type 0
  At P = AtFetched ours c f m e n P

  none-at : (claims : List ByteClaim) → AllEnd claims → ((P : Chain → ℕ → Type 0) → Ends P → At (Own P) → ⊥)
      → {rs : List Rule} {cs : List Claim} → Same rs cs → Same (no_rules claims ++ rs) (claims_of (λ P. At (Own P)) claims ++ cs)
  none-at [] ends nowhere t = t
  none-at ((i whenever P) ∷ claims) ends nowhere t = row (m_false (nowhere P ends.0)) (none-at claims ends.1 nowhere t)

  abbrev none : List Rule
  none = (false gives past_eprom) ∷ no_rules byte_claims ++ ((false gives bad_jump) ∷ [])

  -- no byte stops it
  none-rules : (At Eighteen → ⊥) → ((P : Chain → ℕ → Type 0) → Ends P → At (Own P) → ⊥) → (At Nineteen → ⊥)
      → fetch_number_of ours c f m e n ≡ first_of (lent_rules c f (length m) none) more → ByRules (fetch_number_of ours c f m e n) (fetch_table ours c f m e n)
  none-rules past own jump r =
      record {
        rules = lent_rules c f (length m) none;
        first = r;
        apart = tt;
        rows = lent_same c f m (row (m_false past) (none-at byte_claims own-ends own (row (m_false jump) end)));
      }

  pub nothing : fetch_number c f (length m) ≡ done → fetch_number_of ours c f m e 0 ≡ more
  unfolding fetch_all
  nothing z = number_at c f m e z 0

  pub fetch_rules_lem : ByRules (fetch_number_of ours c f m e n) (fetch_table ours c f m e n)
  fetch_rules_lem =
      by_eq (fetch_number c f (length m)) done
      (λ z.
      ⊎_elim
      (λ h.
      none-rules (never c f m e z Eighteen (halts_18 c f m e z) n h) (λ P ends. never c f m e z (Own P) (halts_own c f m e z P ends) n h)
      (never c f m e z Nineteen (halts_19 c f m e z) n h) (h ∙ sym (lent_passes c f m none z)))
      (λ i. stopped-rules c f m e z n i.0 i.1 i.2 i.3)
      (turn (λ (k : ℕ). fetch_number_of ours c f m e k) (nothing z) n))
      (λ z.
      none-rules (λ a. z (more-fetches c f m e a.k a.before)) (λ P ends a. z (more-fetches c f m e a.k a.before))
      (λ a. z (more-fetches c f m e a.k a.before)) (number_off c f m e n z ∙ sym (lent_gives c f m none z)))

pub fetch_numbers : FetchNumbers ours
fetch_numbers c f m e n =
    let r = fetch_rules_lem c f m e n in
    rw r.first (table r.rules (fetch_table ours c f m e n) more r.apart r.rows)
