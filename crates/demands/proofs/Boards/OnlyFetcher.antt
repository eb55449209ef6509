-- The numbers of a fetch and what it leaves with each, byte by byte, leave a loader no other fetch than ours. Assumes nothing.
use Prim.Native.Nat.{ℕ, zero, suc, ◌<◌}
use mathlib.Core.Logic.{◌↔◌, ⊎_elim, ◌≢◌}
use mathlib.Core.Path.{◌≡◌, sym, ap, subst, ◌∙◌}
use mathlib.Core.List.{List, [], ◌∷◌, ◌++◌}
use native.Mathlib.Nat.{not-suc-le-zero, eq-or-lt_of_le, le_of_suc-le-suc}
use native.Mathlib.Omega.{arith}
use lib.ListN.{length}
use Rattle.chain.specs.declared.Chain.{Chain}
use Rattle.chain.specs.Paper.{done, bad_mode, more, past_eprom, B0}
use Rattle.chain.specs.Rules.{Rule, first_of}
use Rattle.chain.specs.Table.{Claim, ◌when◌, NoneOf, TableAfter}
use Rattle.chain.proofs.ByCases.{by_test, by_eq}
use Rattle.chain.proofs.Means.{m-none}
use Rattle.chain.proofs.Table.{Same, row, end, Alike, like, same, same_alike, row_of}
use Rattle.eprom.specs.declared.Fetcher.{Fetcher}
use Rattle.eprom.specs.Kept.{with_counter, fetcher_at, kept_of, jumps}
use Rattle.eprom.specs.Calls.{fetch_number}
use Rattle.demands.specs.Loader.{Loader, AfterFetch}
use Rattle.demands.specs.ByteTable.{ByteClaim, ◌whenever◌, byte_claims, claims_of}
use Rattle.demands.specs.FetchTable.{lent_table, Eighteen, byte_next, Own, Nineteen, fetch_number_of, AtFetched, fetch_table, FetchNumbers, FetchAsLent, FetchOn, FetchEnded, FetchLeaves}
use Rattle.demands.specs.EpromBoards.{KeepsFetch}
use Rattle.demands.specs.Ours.{ours}
use Rattle.demands.proofs.Numbers.SliceTables.{turn}
use Rattle.demands.proofs.Numbers.FetchTables.{lent_table_lem, m_no_eprom, m-jumps, nothing, fetch_rules_lem, fetch_numbers}
use Rattle.demands.proofs.Numbers.FetchOpen.{fetch_leaves}

-- ---- an answer that has a table is the first of any rules that are its claims

none_more : (ds : List Claim) (k : ℕ) (P : Type 0) → NoneOf ds → (P → ⊥) → NoneOf (ds ++ ((k when P) ∷ []))
none_more [] k P h g = (g, tt)
none_more ((i when Q) ∷ ds) k P h g = (h.0, none_more ds k P h.1 g)

pub by_table : {rs : List Rule} {cs : List Claim} (ds : List Claim) (a n : ℕ) → TableAfter ds a cs n → NoneOf ds → Same rs cs → a ≡ first_of rs n
by_table ds a n t h end = t.1 h
by_table ds a n t h (row {b} {P} {n = k} {rs} p s) =
    by_test b (λ e. rw e (t.0.1 (h, p.says e)))
    (λ e. rw e (by_table (ds ++ ((k when P) ∷ [])) a n t.1 (none_more ds k P h ((m-none p).says e)) s))

-- ---- two that left the same

same_by : (a b : AfterFetch) → a.fetched.answer.number ≡ b.fetched.answer.number → a.fetched.chain ≡ b.fetched.chain → a.memory ≡ b.memory
    → a.fetched.fetcher ≡ b.fetched.fetcher → a.fetched.answer.taken ≡ b.fetched.answer.taken
    → a.fetched.answer.mismatches ≡ b.fetched.answer.mismatches → a ≡ b
same_by a b n c m f t u =
    λ i.
    record {
      fetched = record { chain = c i; answer = record { number = n i; taken = t i; mismatches = u i }; fetcher = f i };
      memory = m i;
    }

same-lent : {c : Chain} {f : Fetcher} {m : List ℕ} {t u : ℕ} (a b : AfterFetch) → a.fetched.answer.number ≡ b.fetched.answer.number
    → FetchAsLent c f m t u a → FetchAsLent c f m t u b → a ≡ b
same-lent a b n x y =
    same_by a b n (x.chain ∙ sym y.chain) (x.memory ∙ sym y.memory) (x.fetcher ∙ sym y.fetcher) (x.taken_so_far ∙ sym y.taken_so_far)
    (x.mismatches_so_far ∙ sym y.mismatches_so_far)

module _ (e : List ℕ) (o a b : AfterFetch) (n : a.fetched.answer.number ≡ b.fetched.answer.number) where
  same-on : FetchOn e o a → FetchOn e o b → a ≡ b
  same-on x y =
      let c = x.chain ∙ sym y.chain in
      let k : a.fetched.fetcher.counter ≡ b.fetched.fetcher.counter
      = by_test (jumps o.fetched.chain.place o.fetched.fetcher)
      (λ t. let j = (m-jumps o.fetched.chain o.fetched.fetcher).says t in x.jumps j ∙ sym (y.jumps j))
      (λ t. let j = (m-none (m-jumps o.fetched.chain o.fetched.fetcher)).says t in x.steps j ∙ sym (y.steps j)) in
      same_by a b n c (x.memory ∙ sym y.memory)
      (x.kept ∙ ap (λ (i : ℕ). with_counter (kept_of o.fetched.chain.place o.fetched.fetcher (byte_next e o)) i) k ∙ sym y.kept)
      (x.taken ∙ ap (λ (d : Chain). d.place.taken) c ∙ sym y.taken)
      (x.mismatches ∙ ap (λ (d : Chain). d.place.mismatches) c ∙ sym y.mismatches)

  same_ended : FetchEnded e o a → FetchEnded e o b → a ≡ b
  same_ended x y =
      let k : a.fetched.fetcher.counter ≡ b.fetched.fetcher.counter
      = by_test (B0 (kept_of o.fetched.chain.place o.fetched.fetcher (byte_next e o)).control) (λ t. x.set t ∙ sym (y.set t))
      (λ t. x.clear t ∙ sym (y.clear t)) in
      same_by a b n (x.chain ∙ sym y.chain) (x.memory ∙ sym y.memory) (x.kept_nothing ∙ ap fetcher_at k ∙ sym y.kept_nothing)
      (x.taken_one_more ∙ sym y.taken_one_more) (x.mismatches_kept ∙ sym y.mismatches_kept)

-- ---- a loader that left the same as ours up to byte n has the same claims there

module _ (l : Loader) (c : Chain) (f : Fetcher) (m e : List ℕ) where
  abbrev Before : ℕ → Type 0
  Before n = (j : ℕ) → j < n → l.fetch c f m e j ≡ ours.fetch c f m e j

  module _ (n : ℕ) (q : Before n) where
    number-before : (j : ℕ) → j < n → fetch_number_of l c f m e j ≡ fetch_number_of ours c f m e j
    number-before j h = ap (λ (a : AfterFetch). a.fetched.answer.number) (q j h)

    at_both : (P : List ℕ → AfterFetch → Type 0) → AtFetched ours c f m e n P ↔ AtFetched l c f m e n P
    at_both P = (
      λ a.
          record {
            k = a.k;
            there = a.there;
            before = number-before a.k a.there ∙ a.before;
            holds = subst (P e) (sym (q a.k a.there)) a.holds;
          },
      λ a.
          record {
            k = a.k;
            there = a.there;
            before = sym (number-before a.k a.there) ∙ a.before;
            holds = subst (P e) (q a.k a.there) a.holds;
          },
    )

    own-both : (claims : List ByteClaim) {cs ds : List Claim} → Alike cs ds
        → Alike (claims_of (λ P. AtFetched ours c f m e n (Own P)) claims ++ cs) (claims_of (λ P. AtFetched l c f m e n (Own P)) claims ++ ds)
    own-both [] t = t
    own-both ((i whenever P) ∷ claims) t = like (at_both (Own P)) (own-both claims t)

    pub all_both : Alike (fetch_table ours c f m e n) (fetch_table l c f m e n)
    all_both =
        like (λ x. x, λ x. x)
        (like (λ x. x, λ x. x)
        (like (λ x. x, λ x. x) (like (λ x. x, λ x. x) (like (at_both Eighteen) (own-both byte_claims (like (at_both Nineteen) same))))))

    same_number : FetchNumbers l → fetch_number_of l c f m e n ≡ fetch_number_of ours c f m e n
    same_number numbers =
        let r = fetch_rules_lem c f m e n in
        by_table [] (fetch_number_of l c f m e n) more (numbers c f m e n) tt (same_alike r.rows all_both) ∙ sym r.first

-- ---- a loader that has both fetches as ours

module _ (l : Loader) (numbers : FetchNumbers l) (leaves : FetchLeaves l) (c : Chain) (f : Fetcher) (m e : List ℕ) where
  abbrev theirs : ℕ → AfterFetch
  theirs k = l.fetch c f m e k

  abbrev our : ℕ → AfterFetch
  our k = ours.fetch c f m e k

  -- refused before a byte is looked at
  same_off : (n : ℕ) → Before l c f m e n → fetch_number c f (length m) ≢ done → theirs n ≡ our n
  same_off n q z =
      let t = lent_table_lem c f m in
      by_eq (fetch_number c f (length m)) bad_mode
      (λ h.
      let r = t.1.1.1.0.0 h in
      same-lent (theirs n) (our n) (same_number l c f m e n q numbers) (leaves.mode c f m e n r.0 r.1) (fetch_leaves.mode c f m e n r.0 r.1))
      (λ h.
      let refused : NoneOf (lent_table c f m []) → ⊥
      = λ g.
      by_test _ (λ i. h (t.1.1.1.0.1 (g, (m_no_eprom c f).says i)))
      (λ i. z (t.1.1.1.1.1 (g.0, (g.1.0, (g.1.1.0, ((m-none (m_no_eprom c f)).says i, tt)))))) in
      same-lent (theirs n) (our n) (same_number l c f m e n q numbers) (leaves.lent c f m e n refused) (fetch_leaves.lent c f m e n refused))

  -- stopped by 18 at byte j
  same_past : (n : ℕ) → Before l c f m e n → (j : ℕ) → j < n → fetch_number_of ours c f m e j ≡ more → Eighteen e (our j) → theirs n ≡ our n
  same_past n q j h g p =
      let x = leaves.past c f m e n j h (number-before l c f m e n q j h ∙ g) (subst (Eighteen e) (sym (q j h)) p) in
      let b = our j in
      let y : FetchAsLent b.fetched.chain b.fetched.fetcher b.memory b.fetched.answer.taken b.fetched.answer.mismatches (theirs n)
      = subst
      (λ (o : AfterFetch).
      FetchAsLent o.fetched.chain o.fetched.fetcher o.memory o.fetched.answer.taken o.fetched.answer.mismatches (theirs n))
      (q j h) x in
      same-lent (theirs n) (our n) (same_number l c f m e n q numbers) y (fetch_leaves.past c f m e n j h g p)

  -- or by another number
  same_over : (n : ℕ) → Before l c f m e n → (j : ℕ) → j < n → fetch_number_of ours c f m e j ≡ more → fetch_number_of ours c f m e (suc j) ≢ more
      → fetch_number_of ours c f m e (suc j) ≢ past_eprom → theirs n ≡ our n
  same_over n q j h g a b =
      let i : fetch_number_of l c f m e (suc j) ≡ fetch_number_of ours c f m e (suc j) = same_number l c f m e (suc j) (λ k w. q k (omega (arith, w, h))) numbers in
      let x = leaves.over c f m e n j h (number-before l c f m e n q j h ∙ g) (λ w. a (sym i ∙ w)) (λ w. b (sym i ∙ w)) in
      same_ended e (our j) (theirs n) (our n) (same_number l c f m e n q numbers) (subst (λ (o : AfterFetch). FetchEnded e o (theirs n)) (q j h) x)
      (fetch_leaves.over c f m e n j h g a b)

  same-stopped : (n : ℕ) → Before l c f m e n → (j : ℕ) → j < n → fetch_number_of ours c f m e j ≡ more
      → fetch_number_of ours c f m e (suc j) ≢ more → theirs n ≡ our n
  same-stopped n q j h g a =
      by_eq (fetch_number_of ours c f m e (suc j)) past_eprom
      (λ i.
      let p = ((row_of (fetch_table ours c f m e (suc j)) (fetch_number_of ours c f m e (suc j)) more (fetch_numbers c f m e (suc j)) past_eprom tt).0 i).1 in
      same_past n q p.k (omega (arith, p.there, h)) p.before p.holds)
      (same_over n q j h g a)

  same_went : (n : ℕ) → Before l c f m e n → fetch_number_of ours c f m e n ≡ more → theirs n ≡ our n
  same_went zero q h =
      let i = same_number l c f m e zero q numbers in
      same-lent (theirs zero) (our zero) i (leaves.none c f m e (i ∙ h)) (fetch_leaves.none c f m e h)
  same_went (suc k) q h =
      same-on e (our k) (theirs (suc k)) (our (suc k)) (same_number l c f m e (suc k) q numbers)
      (subst (λ (o : AfterFetch). FetchOn e o (theirs (suc k))) (q k (omega arith)) (leaves.on c f m e k (same_number l c f m e (suc k) q numbers ∙ h)))
      (fetch_leaves.on c f m e k h)

  same_next : (n : ℕ) → Before l c f m e n → theirs n ≡ our n
  same_next n q =
      by_eq (fetch_number c f (length m)) done
      (λ z.
      ⊎_elim (same_went n q) (λ i. same-stopped n q i.0 i.1 i.2 i.3)
      (turn (λ (k : ℕ). fetch_number_of ours c f m e k) (nothing c f m e n z) n))
      (same_off n q)

  same-before : (n : ℕ) → Before l c f m e n
  same-before zero j h = absurd (not-suc-le-zero h)
  same-before (suc n) j h =
      ⊎_elim (λ (i : j ≡ n). subst (λ (k : ℕ). theirs k ≡ our k) (sym i) (same_next n (same-before n))) (same-before n j)
      (eq-or-lt_of_le (le_of_suc-le-suc h))

  pub same_fetch : (n : ℕ) → theirs n ≡ our n
  same_fetch n = same_next n (same-before n)

pub only_fetcher : (l : Loader) → FetchNumbers l → FetchLeaves l → KeepsFetch l
only_fetcher l numbers leaves c f m e n =
    let i = same_fetch l numbers leaves c f m e n in
    record { answer = ap (λ (a : AfterFetch). a.fetched) i; memory = ap (λ (a : AfterFetch). a.memory) i }
