-- Our fetch keeps its promise; and every fetch that does gives our numbers, and leaves with each what ours leaves. Assumes nothing.
use Prim.Native.Nat.{ℕ, suc}
use mathlib.Core.Logic.{inl, inr, ⊎_elim}
use mathlib.Core.Path.{◌≡◌, refl, sym, ap, subst, ◌∙◌}
use mathlib.Core.List.{List}
use Rattle.chain.specs.declared.Chain.{Chain}
use Rattle.chain.specs.Paper.{more}
use Rattle.chain.proofs.Table.{same_alike, table}
use Rattle.eprom.specs.declared.Fetcher.{Fetcher}
use Rattle.demands.specs.Loader.{Loader, AfterFetch}
use Rattle.demands.specs.FetchTable.{Fetchable, Eighteen, fetch_number_of, fetch_table, FetchNumbers, FetchAsLent, FetchOn, FetchEnded, FetchLeaves}
use Rattle.demands.specs.EpromBoards.{KeepsFetch}
use Rattle.demands.specs.Ours.{ours}
use Rattle.demands.proofs.Promised.{fetch_ours}
use Rattle.demands.proofs.Numbers.FetchTables.{fetch_rules_lem}
use Rattle.demands.proofs.Numbers.FetchOpen.{fetch_leaves}
use Rattle.demands.proofs.Boards.OnlyFetcher.{all_both}

pub fetch_kept : KeepsFetch ours
fetch_kept c f m e n = record { answer = refl; memory = refl }

module _ (l : Loader) (k : KeepsFetch l) where
  as_ours : (c : Chain) (f : Fetcher) (m e : List ℕ) (n : ℕ) → ours.fetch c f m e n ≡ l.fetch c f m e n
  as_ours c f m e n = sym (fetch_ours c f m e n (l.fetch c f m e n).fetched (l.fetch c f m e n).memory (k c f m e n))

  pub kept_numbers : FetchNumbers l
  kept_numbers c f m e n =
      let r = fetch_rules_lem c f m e n in
      rw (ap (λ (a : AfterFetch). a.fetched.answer.number) (sym (as_ours c f m e n)) ∙ r.first)
      (table r.rules (fetch_table l c f m e n) more r.apart (same_alike r.rows (all_both l c f m e n (λ j h. sym (as_ours c f m e j)))))

  number-ours : (c : Chain) (f : Fetcher) (m e : List ℕ) (n : ℕ) → fetch_number_of ours c f m e n ≡ fetch_number_of l c f m e n
  number-ours c f m e n = ap (λ (a : AfterFetch). a.fetched.answer.number) (as_ours c f m e n)

  pub kept_leaves : FetchLeaves l
  kept_leaves =
      record {
        lent = λ c f m e n h. subst (FetchAsLent c f m 0 0) (as_ours c f m e n) (fetch_leaves.lent c f m e n h);
        mode =
            λ c f m e n h g.
            subst (FetchAsLent c f m c.place.taken c.place.mismatches) (as_ours c f m e n) (fetch_leaves.mode c f m e n h g);
        none =
            λ c f m e h.
            subst (FetchAsLent c f m c.place.taken c.place.mismatches) (as_ours c f m e 0)
            (fetch_leaves.none c f m e (number-ours c f m e 0 ∙ h));
        on =
            λ c f m e j h.
            subst (λ (b : AfterFetch). FetchOn e b (l.fetch c f m e (suc j))) (as_ours c f m e j)
            (subst (FetchOn e (ours.fetch c f m e j)) (as_ours c f m e (suc j)) (fetch_leaves.on c f m e j (number-ours c f m e (suc j) ∙ h)));
        past =
            λ c f m e n j i h p.
            subst
            (λ (b : AfterFetch).
            FetchAsLent b.fetched.chain b.fetched.fetcher b.memory b.fetched.answer.taken b.fetched.answer.mismatches (l.fetch c f m e n))
            (as_ours c f m e j)
            (let b = ours.fetch c f m e j in
            subst (FetchAsLent b.fetched.chain b.fetched.fetcher b.memory b.fetched.answer.taken b.fetched.answer.mismatches)
            (as_ours c f m e n)
            (fetch_leaves.past c f m e n j i (number-ours c f m e j ∙ h) (subst (Eighteen e) (sym (as_ours c f m e j)) p)));
        still_open =
            λ c f m e n small eight h.
            subst (λ (a : AfterFetch). Fetchable a.fetched.chain a.fetched.fetcher a.memory) (as_ours c f m e n)
            (fetch_leaves.still_open c f m e n small eight (⊎_elim (λ i. inl (number-ours c f m e n ∙ i)) (λ i. inr (number-ours c f m e n ∙ i)) h));
        over =
            λ c f m e n j i h a b.
            subst (λ (o : AfterFetch). FetchEnded e o (l.fetch c f m e n)) (as_ours c f m e j)
            (subst (FetchEnded e (ours.fetch c f m e j)) (as_ours c f m e n)
            (fetch_leaves.over c f m e n j i (number-ours c f m e j ∙ h) (λ q. a (sym (number-ours c f m e (suc j)) ∙ q))
            (λ q. b (sym (number-ours c f m e (suc j)) ∙ q))));
      }
