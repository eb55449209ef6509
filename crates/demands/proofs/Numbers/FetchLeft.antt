-- What a fetch leaves with each number. Assumes nothing.
use Prim.Native.Nat.{ℕ, suc, ◌+◌, ◌%◌, ◌^◌, ◌<◌}
use mathlib.Core.Bool.{true, false}
use mathlib.Core.Logic.{◌≢◌}
use mathlib.Core.Path.{◌≡◌, sym, ap, ◌∙◌}
use mathlib.Core.List.{List, []}
use native.Mathlib.Nat.{add-zero}
use native.Mathlib.Omega.{arith}
use borrow.Author.Tests.{eq-eqb, ne_eqb}
use lib.Dec.{leb}
use lib.ListN.{length}
use Rattle.chain.specs.declared.Chain.{Chain}
use Rattle.chain.specs.Paper.{done, bad_mode, more, past_eprom, B0}
use Rattle.chain.specs.Set.{with_place, closed_place}
use Rattle.chain.specs.Table.{NoneOf}
use Rattle.chain.proofs.ByCases.{by_test}
use Rattle.chain.proofs.Means.{m-none}
use Rattle.machine.specs.Run.{run, ended, step_of}
use Rattle.eprom.specs.declared.Fetcher.{Fetcher}
use Rattle.eprom.specs.declared.Fetched.{Fetched}
use Rattle.eprom.specs.Counter.{home_of}
use Rattle.eprom.specs.Kept.{kept_of, jumps, onward, fetcher_at_end}
use Rattle.eprom.specs.Fetch.{Fetching, fetching, at_counter, on_fetch, fetch_all}
use Rattle.eprom.specs.Calls.{fetch_number, unfetched, fetched_of, lent, fetch_of}
use Rattle.eprom.proofs.Again.{fetch_runs}
use Rattle.demands.specs.FetchTable.{lent_table, NoEprom, Eighteen, fetch_number_of, FetchAsLent, FetchOn, FetchEnded}
use Rattle.demands.specs.Ours.{ours}
use Rattle.demands.proofs.Numbers.FetchRuns.{next_number, past_kept, on-kept, over-kept, fetch_off, memory_off, more-fetches, number_at, at_suc, chain-at, fetcher_at_lem, number-next, earlier, settled}
use Rattle.demands.proofs.Numbers.FetchTables.{lent_table_lem, m-jumps}

-- ---- a call that fetches nothing

module _ (c : Chain) (f : Fetcher) (m e : List ℕ) (n : ℕ) where
  abbrev number : ℕ
  number = fetch_number c f (length m)

  pub lent-left : (NoneOf (lent_table c f m []) → ⊥) → FetchAsLent c f m 0 0 (ours.fetch c f m e n)
  unfolding unfetched
  lent-left h =
      let off : number ≢ done = λ i. let r = (lent_table_lem c f m).1.1.1.1.0 i in h (r.0, (r.1.0, (r.1.1.0, tt))) in
      let moded : number ≢ bad_mode = λ i. h ((lent_table_lem c f m).1.1.1.0.0 i).0 in
      let r = fetch_off c f m e n off in
      record {
        chain = ap (λ (y : Fetched). y.chain) r;
        memory = memory_off c f m e n off;
        fetcher = ap (λ (y : Fetched). y.fetcher) r;
        taken_so_far = ap (λ (y : Fetched). y.answer.taken) r ∙ rw (ne_eqb number bad_mode moded);
        mismatches_so_far = ap (λ (y : Fetched). y.answer.mismatches) r ∙ rw (ne_eqb number bad_mode moded);
      }

  pub mode-left : NoneOf (lent_table c f m []) → NoEprom c → FetchAsLent c f m c.place.taken c.place.mismatches (ours.fetch c f m e n)
  unfolding unfetched
  mode-left h g =
      let two : number ≡ bad_mode = (lent_table_lem c f m).1.1.1.0.1 (h, g) in
      let off : number ≢ done = λ i. omega (arith, two, i) in
      let r = fetch_off c f m e n off in
      record {
        chain = ap (λ (y : Fetched). y.chain) r;
        memory = memory_off c f m e n off;
        fetcher = ap (λ (y : Fetched). y.fetcher) r;
        taken_so_far = ap (λ (y : Fetched). y.answer.taken) r ∙ rw (eq-eqb number bad_mode two);
        mismatches_so_far = ap (λ (y : Fetched). y.answer.mismatches) r ∙ rw (eq-eqb number bad_mode two);
      }

-- ---- a fetch that goes on

module _ (c : Chain) (f : Fetcher) (m e : List ℕ) where
  pub none_left : fetch_number_of ours c f m e 0 ≡ more → FetchAsLent c f m c.place.taken c.place.mismatches (ours.fetch c f m e 0)
  unfolding fetched_of fetch_all
  none_left h =
      let z = more-fetches c f m e 0 h in
      let r = (fetch_runs c f m e 0 z).0 in
      record {
        chain = ap (λ (y : Fetched). y.chain) r;
        memory = (fetch_runs c f m e 0 z).1;
        fetcher = ap (λ (y : Fetched). y.fetcher) r;
        taken_so_far = ap (λ (y : Fetched). y.answer.taken) r;
        mismatches_so_far = ap (λ (y : Fetched). y.answer.mismatches) r;
      }

  pub on-left : (k : ℕ) → fetch_number_of ours c f m e (suc k) ≡ more → FetchOn e (ours.fetch c f m e k) (ours.fetch c f m e (suc k))
  unfolding fetched_of onward
  on-left k h =
      let z = more-fetches c f m e (suc k) h in
      let x : Fetching = fetch_all e k (lent c m f) in
      let after : (fetch_all e (suc k) (lent c m f)).run.number ≡ more = sym (number_at c f m e z (suc k)) ∙ h in
      let going : x.run.number ≡ more = earlier c f m e z k (suc k) (omega arith) after in
      let y : Fetching
      = fetching (step_of x.run.chain x.run.memory (at_counter e x)) (onward x.run.chain.place x.fetcher (at_counter e x)) in
      let s : fetch_all e (suc k) (lent c m f) ≡ y
      = at_suc c f m e z k ∙ on-kept e x going (sym (number-next c f m e z k going) ∙ after) in
      let chain-k = chain-at c f m e z k going in
      let fetcher-k = fetcher_at_lem c f m e z k in
      let memory-k = (fetch_runs c f m e k z).1 in
      let chain-n = chain-at c f m e z (suc k) after ∙ ap (λ (w : Fetching). w.run.chain) s in
      let fetcher-n = fetcher_at_lem c f m e z (suc k) ∙ ap (λ (w : Fetching). w.fetcher) s in
      record {
        chain = chain-n ∙ rw (chain-k, fetcher-k, memory-k);
        memory = (fetch_runs c f m e (suc k) z).1 ∙ ap (λ (w : Fetching). w.run.memory) s ∙ rw (chain-k, fetcher-k, memory-k);
        taken =
            ap (λ (r : Fetched). r.answer.taken) (fetch_runs c f m e (suc k) z).0
            ∙ ap (λ (d : Chain). d.place.taken) (sym (chain-at c f m e z (suc k) after));
        mismatches =
            ap (λ (r : Fetched). r.answer.mismatches) (fetch_runs c f m e (suc k) z).0
            ∙ ap (λ (d : Chain). d.place.mismatches) (sym (chain-at c f m e z (suc k) after));
        steps =
            λ j.
            let t : jumps x.run.chain.place x.fetcher ≡ false
            = (m-none (m-jumps x.run.chain x.fetcher)).said (λ i. j (rw (chain-k, fetcher-k) i)) in
            ap (λ (g : Fetcher). g.counter) fetcher-n ∙ rw (t, chain-k, fetcher-k);
        jumps =
            λ j.
            let t : jumps x.run.chain.place x.fetcher ≡ true = (m-jumps x.run.chain x.fetcher).said (rw (chain-k, fetcher-k) at j) in
            ap (λ (g : Fetcher). g.counter) fetcher-n ∙ rw (t, fetcher-k);
        kept = rw (fetcher-n, chain-k, fetcher-k);
      }

-- ---- a fetch that stops at byte k

-- the last byte closes the place, whatever its number
over-chain : (d : Chain) (m : List ℕ) (i : ℕ) (f : Fetcher) → i ≢ more → i ≢ past_eprom
    → (fetched_of (fetching (run (ended d) m i) f)).chain ≡ with_place d closed_place
unfolding fetched_of
over-chain d m i f a b = rw (ne_eqb i more a, ne_eqb i past_eprom b)

module _ (c : Chain) (f : Fetcher) (m e : List ℕ) (n k : ℕ) (l : k < n) (h : fetch_number_of ours c f m e k ≡ more) where
  z : fetch_number c f (length m) ≡ done
  z = more-fetches c f m e k h

  abbrev x : Fetching
  x = fetch_all e k (lent c m f)

  going : x.run.number ≡ more
  going = sym (number_at c f m e z k) ∙ h

  -- what one byte more left, and the later ones find nothing to do
  stopped : (y : Fetching) → on_fetch e x ≡ y → y.run.number ≢ more → fetch_all e n (lent c m f) ≡ y
  stopped y i j =
      let s = at_suc c f m e z k ∙ i in
      settled c f m e z (suc k) n l (λ q. j (sym (ap (λ (w : Fetching). w.run.number) s) ∙ q)) ∙ s

  taken_at : (fetch_of c f m e k).answer.taken ≡ x.run.chain.place.taken
  unfolding fetched_of
  taken_at = ap (λ (r : Fetched). r.answer.taken) (fetch_runs c f m e k z).0

  mismatches-at : (fetch_of c f m e k).answer.mismatches ≡ x.run.chain.place.mismatches
  unfolding fetched_of
  mismatches-at = ap (λ (r : Fetched). r.answer.mismatches) (fetch_runs c f m e k z).0

  pub past_left : Eighteen e (ours.fetch c f m e k)
      → let b = ours.fetch c f m e k in
      FetchAsLent b.fetched.chain b.fetched.fetcher b.memory b.fetched.answer.taken b.fetched.answer.mismatches (ours.fetch c f m e n)
  unfolding fetched_of
  past_left g =
      let y : Fetching = fetching (run x.run.chain x.run.memory past_eprom) x.fetcher in
      let s = stopped y (past_kept e x going (rw (fetcher_at_lem c f m e z k) at g)) (λ i. omega (arith, i)) in
      let r = (fetch_runs c f m e n z).0 ∙ ap fetched_of s in
      record {
        chain = ap (λ (w : Fetched). w.chain) r ∙ sym (chain-at c f m e z k going);
        memory = (fetch_runs c f m e n z).1 ∙ ap (λ (w : Fetching). w.run.memory) s ∙ sym (fetch_runs c f m e k z).1;
        fetcher = ap (λ (w : Fetched). w.fetcher) r ∙ sym (fetcher_at_lem c f m e z k);
        taken_so_far = ap (λ (w : Fetched). w.answer.taken) r ∙ sym taken_at;
        mismatches_so_far = ap (λ (w : Fetched). w.answer.mismatches) r ∙ sym mismatches-at;
      }

  pub over-left : fetch_number_of ours c f m e (suc k) ≢ more → fetch_number_of ours c f m e (suc k) ≢ past_eprom
      → FetchEnded e (ours.fetch c f m e k) (ours.fetch c f m e n)
  unfolding fetched_of fetcher_at_end
  over-left a b =
      let i : fetch_number_of ours c f m e (suc k) ≡ next_number e x = number_at c f m e z (suc k) ∙ number-next c f m e z k going in
      let open-end : next_number e x ≢ more = λ q. a (i ∙ q) in
      let not_past : next_number e x ≢ past_eprom = λ q. b (i ∙ q) in
      let p : leb (length e) x.fetcher.counter ≡ false
      = by_test (leb (length e) x.fetcher.counter) (λ q. absurd (not_past (rw q))) (λ q. q) in
      let y : Fetching
      = fetching (run (ended x.run.chain) x.run.memory (next_number e x)) (fetcher_at_end x.run.chain.place x.fetcher (at_counter e x)) in
      let s = stopped y (over-kept e x going p open-end) open-end in
      let r = (fetch_runs c f m e n z).0 ∙ ap fetched_of s in
      let chain-k = chain-at c f m e z k going in
      let fetcher-k = fetcher_at_lem c f m e z k in
      let fetcher-n = ap (λ (w : Fetched). w.fetcher) r in
      record {
        chain =
            ap (λ (w : Fetched). w.chain) r
            ∙ over-chain x.run.chain x.run.memory (next_number e x) y.fetcher open-end not_past
            ∙ ap (λ (d : Chain). with_place d closed_place) (sym chain-k);
        memory = (fetch_runs c f m e n z).1 ∙ ap (λ (w : Fetching). w.run.memory) s ∙ sym (fetch_runs c f m e k z).1;
        taken_one_more = ap (λ (w : Fetched). w.answer.taken) r ∙ ap (λ (t : ℕ). (t + 1) % 2 ^ 32) (sym taken_at);
        mismatches_kept =
            ap (λ (w : Fetched). w.answer.mismatches) r
            ∙ ap (λ (t : ℕ). t % 2 ^ 32) (add-zero x.run.chain.place.mismatches ∙ sym mismatches-at);
        kept_nothing = rw fetcher-n;
        clear = λ q. let t : B0 (kept_of x.run.chain.place x.fetcher (at_counter e x)).control ≡ false = rw (chain-k, fetcher-k) at q in
            let home : y.fetcher.counter ≡ home_of x.run.chain.place.mode = rw t in
            ap (λ (g : Fetcher). g.counter) fetcher-n ∙ home ∙ ap (λ (d : Chain). home_of d.place.mode) (sym chain-k);
        set = λ q. let t : B0 (kept_of x.run.chain.place x.fetcher (at_counter e x)).control ≡ true = rw (chain-k, fetcher-k) at q in
            ap (λ (g : Fetcher). g.counter) fetcher-n ∙ rw (t, chain-k, fetcher-k);
      }
