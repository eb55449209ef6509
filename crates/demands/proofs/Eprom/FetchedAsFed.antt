-- A fetch of ours leaves and answers what the bytes that it fetched do, fed as one slice; 18 and 19 apart, of which the slice knows nothing. Assumes nothing.
use Prim.Native.Nat.{ℕ}
use mathlib.Core.Bool.{or-false}
use mathlib.Core.Path.{◌≡◌, refl}
use mathlib.Core.List.{List}
use native.Mathlib.Omega.{arith}
use borrow.Author.Tests.{ne_eqb}
use Rattle.chain.specs.declared.Chain.{Chain}
use Rattle.chain.specs.Paper.{past_eprom, bad_jump}
use Rattle.machine.specs.Run.{Run}
use Rattle.machine.specs.Calls.{fed_of}
use Rattle.eprom.specs.declared.Fetcher.{Fetcher}
use Rattle.eprom.specs.Fetch.{fetching, fetch_all, bytes_fetched}
use Rattle.eprom.specs.Calls.{fetched_of, lent}
use Rattle.eprom.proofs.Again.{Ready}
use Rattle.eprom.proofs.AsFed.{AsFed as RunAsFed, same, past, strays, as_fed}
use Rattle.demands.specs.Loader.{AfterSlice, AfterFetch}
use Rattle.demands.specs.EpromBoards.{as_slice, AsFed, FetchedAsFed}
use Rattle.demands.specs.Ours.{ours}
use Rattle.demands.proofs.Loads.LoadRuns.{left, slice_is}
use Rattle.demands.proofs.Numbers.FetchRuns.{came}
use Rattle.demands.proofs.Eprom.ReadyRuns.{ready, fetch_is}

answered : {q r : Run} (f : Fetcher) → RunAsFed q r → AsFed (came (fetching q f)) (left r)
unfolding fetched_of fed_of
answered f (same {r} p j) =
    record {
      memory = refl;
      taken = refl;
      mismatches = refl;
      number = λ _ _. refl;
      past = λ h. absurd (p h);
      chain = λ _. rw (ne_eqb r.number past_eprom p, or-false);
      jump = λ h. absurd (j h);
      jump_chain = λ h. absurd (j h);
    }
answered f past =
    record {
      memory = refl;
      taken = refl;
      mismatches = refl;
      number = λ h _. absurd (h refl);
      past = λ _. refl;
      chain = λ _. refl;
      jump = λ h. absurd (never h);
      jump_chain = λ h. absurd (never h);
    }
  where
    never : past_eprom ≡ bad_jump → ⊥
    never q = omega arith
answered f (strays c {m = m}) =
    record {
      memory = refl;
      taken = refl;
      mismatches = refl;
      number = λ _ h. absurd (h refl);
      past = λ h. absurd (never h);
      chain = λ h. absurd (h refl);
      jump = λ _. refl;
      jump_chain = λ _. refl;
    }
  where
    never : bad_jump ≡ past_eprom → ⊥
    never q = omega arith

pub ready_as_fed : (c : Chain) (f : Fetcher) (m e : List ℕ) (n : ℕ) → Ready c m f
    → AsFed (ours.fetch c f m e n) (ours.slice c m (bytes_fetched e n (lent c m f)))
ready_as_fed c f m e n r =
    rw (fetch_is c f m e n r, slice_is c m (bytes_fetched e n (lent c m f)) r.feeds) (answered (fetch_all e n (lent c m f)).fetcher (as_fed e n c m f))

pub fetched_as_fed : FetchedAsFed ours
fetched_as_fed c f m e n o k l u = ready_as_fed c f m e n (ready c m f o k l)

-- with any other number it is all the same
pub as_slice_lem : (a : AfterFetch) (s : AfterSlice) → AsFed a s → (a.fetched.answer.number ≡ past_eprom → ⊥) → (a.fetched.answer.number ≡ bad_jump → ⊥)
    → as_slice a ≡ s
as_slice_lem a s h p j = rw (h.memory, h.taken, h.mismatches, h.number p j, h.chain j)
