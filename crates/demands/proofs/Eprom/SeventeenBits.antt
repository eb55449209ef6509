-- The counter of ours starts where the request says, keeps its 17 bits, and reads no byte that they do not reach. Assumes nothing.
use Prim.Native.Nat.{ℕ, zero, suc, ◌≤◌}
use mathlib.Core.Path.{◌≡◌, refl, sym, ap, ◌∙◌}
use mathlib.Core.List.{List}
use native.Mathlib.Omega.{arith}
use borrow.Author.Tests.{eq-eqb, ne_eqb, leb-true, leb-false, le-leb, lt-leb}
use lib.Dec.{leb}
use lib.ListN.{length, take, length-take}
use lib.Seq.{get_or-take}
use Rattle.chain.specs.declared.Chain.{Chain}
use Rattle.chain.specs.Paper.{downward, done}
use Rattle.chain.proofs.ByCases.{by_test, by_eq}
use Rattle.eprom.specs.declared.Fetcher.{Fetcher}
use Rattle.eprom.specs.declared.Fetched.{Fetched}
use Rattle.eprom.specs.Counter.{counts, last_count, home_of}
use Rattle.eprom.specs.Fetch.{Fetching, fetch_one, on_fetch, fetch_all}
use Rattle.eprom.specs.Calls.{fetch_number, unfetched, lent, FetcherNew}
use Rattle.eprom.proofs.Numbers.{fetch_going}
use Rattle.eprom.proofs.Again.{counter_low}
use Rattle.demands.specs.EpromCounter.{StartsAt, WithinBits, NeverBeyond}
use Rattle.demands.specs.Ours.{ours}
use Rattle.demands.proofs.Numbers.FetchRuns.{came, fetch_off, memory_off, fetch_is, fetcher_at_lem, at_suc}

pub starts-at : (mode : ℕ) (f : Fetcher) → FetcherNew mode f → StartsAt mode f
unfolding home_of
starts-at mode f h = record { other = λ n. rw (h.made, ne_eqb mode downward n); two = λ q. rw (h.made, eq-eqb mode downward q) }

pub within_bits : WithinBits ours
unfolding unfetched
within_bits c f m e n h =
    by_eq (fetch_number c f (length m)) done (λ z. rw (fetcher_at_lem c f m e z n) (counter_low e n c m f h))
    (λ z. rw (ap (λ (r : Fetched). r.fetcher) (fetch_off c f m e n z)) h)

-- ---- no byte beyond them

module _ (e : List ℕ) where
  -- below them the front is as long, or reaches as far
  same_reach : (k : ℕ) → k ≤ last_count → leb (length e) k ≡ leb (length (take counts e)) k
  same_reach k h =
      let long = length-take counts e in
      by_test (leb (length e) k)
      (λ q. q ∙ sym (le-leb (length (take counts e)) k (omega (arith, long, leb-true (length e) k q))))
      (λ q. q ∙ sym (lt-leb (length (take counts e)) k (omega (arith, long, h, leb-false (length e) k q))))

  same_byte : (x : Fetching) → x.fetcher.counter ≤ last_count → on_fetch e x ≡ on_fetch (take counts e) x
  unfolding fetch_one
  same_byte x h = rw (same_reach x.fetcher.counter h, get_or-take counts e x.fetcher.counter 0 (omega (arith, h)))

  module _ (c : Chain) (f : Fetcher) (m : List ℕ) (z : fetch_number c f (length m) ≡ done) where
    same-run : (n : ℕ) → fetch_all e n (lent c m f) ≡ fetch_all (take counts e) n (lent c m f)
    same-run zero = unfold fetch_all in refl
    same-run (suc n) =
        at_suc c f m e z n
        ∙ same_byte (fetch_all e n (lent c m f)) (counter_low e n c m f (fetch_going c f (length m) z).counter)
        ∙ ap (on_fetch (take counts e)) (same-run n)
        ∙ sym (at_suc c f m (take counts e) z n)

pub never_beyond : NeverBeyond ours
never_beyond c f m e n =
    by_eq (fetch_number c f (length m)) done
    (λ z. fetch_is c f m e z n ∙ ap came (same-run e c f m z n) ∙ sym (fetch_is c f m (take counts e) z n))
    (λ z. rw (fetch_off c f m e n z, memory_off c f m e n z, fetch_off c f m (take counts e) n z, memory_off c f m (take counts e) n z))
