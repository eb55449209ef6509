-- 16 and 18 leave a run that the next fetch takes. With this all that a fetch leaves. Assumes nothing.
use Prim.Native.Nat.{ℕ}
use mathlib.Core.Logic.{◌⊎◌, ⊎_elim}
use mathlib.Core.Path.{◌≡◌, sym, subst, ◌∙◌}
use mathlib.Core.List.{List}
use lib.ListN.{length}
use Rattle.chain.specs.declared.Chain.{Chain}
use Rattle.chain.specs.Paper.{most_devices, done, more, past_eprom}
use Rattle.chain.specs.Bytes.{Bytes}
use Rattle.eprom.specs.declared.Fetcher.{Fetcher}
use Rattle.eprom.specs.Fetch.{Fetching}
use Rattle.eprom.specs.Calls.{fetch_number, fetched_of}
use Rattle.eprom.proofs.Numbers.{fetch_feeds, fetch_going}
use Rattle.eprom.proofs.Again.{Ready, ready_taken, more_ready, past_ready}
use Rattle.demands.specs.Loader.{AfterFetch}
use Rattle.demands.specs.FetchTable.{fetch_number_of, Fetchable, FetchLeaves}
use Rattle.demands.specs.Ours.{ours}
use Rattle.demands.proofs.Numbers.FetchRuns.{came, came-more, came_past, more-fetches, past_fetches, at, fetch_is, number_at}
use Rattle.demands.proofs.Numbers.FetchTables.{lent_table_lem}
use Rattle.demands.proofs.Numbers.FetchLeft.{lent-left, mode-left, none_left, on-left, past_left, over-left}

-- what a call left
abbrev Taken : AfterFetch → Type 0
Taken a = Fetchable a.fetched.chain a.fetched.fetcher a.memory

-- a run that is ready, as a call left it
ready_left : (x : Fetching) → Ready x.run.chain x.run.memory x.fetcher → (came x).fetched.chain ≡ x.run.chain → Taken (came x)
unfolding fetched_of
ready_left x r s =
    rw s ((lent_table_lem x.run.chain x.fetcher x.run.memory).1.1.1.1.0 (ready_taken x.run.chain x.run.memory x.fetcher r))

still_open : (c : Chain) (f : Fetcher) (m e : List ℕ) (n : ℕ) → Bytes e → length c.registers ≡ most_devices
    → (fetch_number_of ours c f m e n ≡ more) ⊎ (fetch_number_of ours c f m e n ≡ past_eprom) → Taken (ours.fetch c f m e n)
still_open c f m e n small eight =
    ⊎_elim
    (λ h.
    let z = more-fetches c f m e n h in
    let q = sym (number_at c f m e z n) ∙ h in
    subst Taken (sym (fetch_is c f m e z n)) (ready_left (at c f m e z n) (more_ready e n c m f small (ready z) q) (came-more (at c f m e z n) q)))
    (λ h.
    let z = past_fetches c f m e n h in
    let q = sym (number_at c f m e z n) ∙ h in
    subst Taken (sym (fetch_is c f m e z n)) (ready_left (at c f m e z n) (past_ready e n c m f small (ready z) q) (came_past (at c f m e z n) q)))
  where
    ready : fetch_number c f (length m) ≡ done → Ready c m f
    ready z =
        let g = fetch_going c f (length m) z in
        record { registers = eight; feeds = fetch_feeds c f (length m) z; mode = g.mode; counter = g.counter }

pub fetch_leaves : FetchLeaves ours
fetch_leaves =
    record { lent = lent-left; mode = mode-left; none = none_left; on = on-left; past = past_left; still_open = still_open; over = over-left }
