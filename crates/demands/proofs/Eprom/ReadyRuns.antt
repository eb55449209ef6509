-- What the request speaks of is ready, and a fetch of ours is then what its run comes to. Assumes nothing.
use Prim.Native.Nat.{ℕ}
use mathlib.Core.Bool.{true}
use mathlib.Core.Path.{◌≡◌}
use mathlib.Core.List.{List}
use Rattle.chain.specs.declared.Chain.{Chain}
use Rattle.eprom.specs.declared.Fetcher.{Fetcher}
use Rattle.eprom.specs.Counter.{fetches}
use Rattle.eprom.specs.Fetch.{fetch_all}
use Rattle.eprom.specs.Calls.{lent}
use Rattle.eprom.proofs.Again.{Ready, ready_taken}
use Rattle.demands.specs.Loader.{Open}
use Rattle.demands.specs.EpromBoards.{Lendable}
use Rattle.demands.specs.Ours.{ours}
use Rattle.demands.proofs.Numbers.FetchRuns.{came, fetch_is as taken_is, number_at}

pub ready : (c : Chain) (m : List ℕ) (f : Fetcher) → Open c m → fetches c.place.mode ≡ true → Lendable f → Ready c m f
ready c m f o k l = record { registers = o.registers; feeds = o.sound; mode = k; counter = l.counter }

module _ (c : Chain) (f : Fetcher) (m e : List ℕ) (n : ℕ) (r : Ready c m f) where
  pub fetch_is : ours.fetch c f m e n ≡ came (fetch_all e n (lent c m f))
  fetch_is = taken_is c f m e (ready_taken c m f r) n

  pub fetch_number_lem : (ours.fetch c f m e n).fetched.answer.number ≡ (fetch_all e n (lent c m f)).run.number
  fetch_number_lem = number_at c f m e (ready_taken c m f r) n
