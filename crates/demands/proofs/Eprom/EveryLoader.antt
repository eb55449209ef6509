-- What was proved of ours holds of every loader whose start, slice, closing and fetch keep their promises: with these four calls replaced by ours it is the
-- same loader. Assumes nothing.
use Prim.Native.Nat.{ℕ}
use mathlib.Core.Path.{◌≡◌, refl, sym, subst}
use mathlib.Core.List.{List, [], ◌∷◌}
use lib.ListN.{take}
use Rattle.chain.specs.declared.Chain.{Chain}
use Rattle.chain.specs.Paper.{writing}
use Rattle.grammar.specs.Fits.{meant}
use Rattle.grammar.specs.Sent.{Sent}
use Rattle.eprom.specs.declared.Fetcher.{Fetcher}
use Rattle.demands.specs.Loader.{Loader, AfterSlice, AfterFetch, with_start, with_slice, with_closing, with_fetch}
use Rattle.demands.specs.Demand2.{slices}
use Rattle.demands.specs.Demand3.{Whole, Shut, Closes, Stopped}
use Rattle.demands.specs.EpromBoards.{KeepsCalls, FetchedAsFed, InParts, GoesOn, fetched, boot, booted, Boots, SameBoot, BootStopped, BootHeld, BootsHold}
use Rattle.demands.specs.EpromCounter.{CounterAsSaid, WithinBits, NeverBeyond}
use Rattle.demands.specs.EpromStreams.{HeldBoots}
use Rattle.demands.specs.Ours.{ours}
use Rattle.demands.proofs.Promised.{start-ours, slice_ours, closing-ours, fetch_ours}
use Rattle.demands.proofs.Boards.Kept.{fetch_kept}
use Rattle.demands.proofs.Eprom.FetchedAsFed.{fetched_as_fed}
use Rattle.demands.proofs.Eprom.FetchedInParts.{in_parts, keeps_going}
use Rattle.demands.proofs.Eprom.BootStops.{boots_hold}
use Rattle.demands.proofs.Eprom.CounterAsSaid.{counter_as_said}
use Rattle.demands.proofs.Eprom.HeldStreams.{held_boots}
use Rattle.demands.proofs.Eprom.SeventeenBits.{within_bits, never_beyond}

pub calls_kept : KeepsCalls ours
calls_kept =
    record {
      start = λ c m mode check. record { made = refl };
      slice = λ c m s. record { fed = refl; memory = refl };
      closing = λ c m out. record { answer = refl; output = refl };
      fetch = fetch_kept;
    }

module _ (l : Loader) where
  -- a loader with our four calls
  abbrev lending : Loader
  lending = with_fetch (with_closing (with_slice (with_start l ours.start) ours.slice) ours.closing) ours.fetch

  -- ---- the third demand speaks of no other call

  slices-lent : (ps : List (List ℕ)) (c : Chain) (m last : List ℕ) → slices ours c m ps last ≡ slices lending c m ps last
  slices-lent [] c m last = refl
  slices-lent (p ∷ ps) c m last = slices-lent ps (ours.slice c m p).fed.chain (ours.slice c m p).memory last

  fetched-lent : (ns : List ℕ) (c : Chain) (f : Fetcher) (m e : List ℕ) (last : ℕ) → fetched ours c f m e ns last ≡ fetched lending c f m e ns last
  fetched-lent [] c f m e last = refl
  fetched-lent (n ∷ ns) c f m e last =
      let a = ours.fetch c f m e n in
      fetched-lent ns a.fetched.chain a.fetched.fetcher a.memory e last

  module _ (mode : ℕ) (bs : List ℕ) where
    whole-lent : (c : Chain) (m : List ℕ) → Whole ours mode bs c m → Whole lending mode bs c m
    whole-lent c m h = record { started = h.started; number = h.number; taken = h.taken }

    shut-lent : (u s t : AfterSlice) → Shut ours mode bs u s t → Shut lending mode bs u s t
    shut-lent u s t h =
        record {
          ends = h.ends;
          shut = h.shut;
          kept = h.kept;
          again = whole-lent t.fed.chain t.memory h.again;
          again_cells = h.again_cells;
          again_registers = h.again_registers;
        }

    closes_lent : (u s : AfterSlice) (cs : List ℕ) → Closes ours mode bs u s cs → Closes lending mode bs u s cs
    closes_lent u s cs h =
        record {
          some = h.some;
          late = λ j i ps last q. rw (sym (slices-lent ps s.fed.chain s.memory last)) (h.late j i ps last q);
          shuts = λ ps b last q.
              subst (Shut lending mode bs u s) (slices-lent ps s.fed.chain s.memory (b ∷ last)) (shut-lent u s _ (h.shuts ps b last q));
        }

    stopped-lent : (c : Chain) (m : List ℕ) (front : List Sent) (s : AfterSlice) → Stopped ours mode bs c m front s → Stopped lending mode bs c m front s
    stopped-lent c m front s h = record { seen = h.seen; room = h.room; closes = λ out v. closes_lent _ s _ (h.closes out v) }

    module _ (c : Chain) (f : Fetcher) (m e : List ℕ) (n : ℕ) where
      boot-stopped-lent : (front : List Sent) (s : AfterFetch) → BootStopped ours mode bs c f m e n front s → BootStopped lending mode bs c f m e n front s
      boot-stopped-lent front s h =
          record {
            stopped = stopped-lent c m front _ h.stopped;
            again = λ out v ps b last q g lg same.
                let r = h.again out v ps b last q g lg same in
                subst (λ (t : AfterSlice). Boots lending mode t.fed.chain g t.memory e n
                × SameBoot (boot lending mode c f m e n) (boot lending mode t.fed.chain g t.memory e n)
                × (booted lending mode t.fed.chain g t.memory e n ≡ bs))
                (slices-lent ps s.fetched.chain s.memory (b ∷ last)) (record { started = r.0.started; number = r.0.number }, r.1, r.2);
          }

      boot-held-lent : BootHeld ours mode bs c f m e n → BootHeld lending mode bs c f m e n
      boot-held-lent h =
          record {
            whole = whole-lent c m h.whole;
            reading = h.reading;
            cells = h.cells;
            registers = h.registers;
            stops = λ x clear k i ns last q.
                subst (BootStopped lending mode bs c f m e n (take k (meant x))) (fetched-lent ns (ours.start c m mode writing).chain f m e last)
                (boot-stopped-lent (take k (meant x)) _ (h.stops x clear k i ns last q));
          }

  boots_lent : BootsHold lending
  boots_lent c f m e mode n i k o u b =
      boot-held-lent mode _ c f m e n (boots_hold c f m e mode n i k o u (record { started = b.started; number = b.number }))

  -- ---- and with promises kept it is the loader itself

  module _ (k : KeepsCalls l) where
    as_lent : lending ≡ l
    as_lent = λ i.
        with_fetch
        (with_closing
        (with_slice
        (with_start l (λ c m mode check. sym (start-ours c m mode check (l.start c m mode check) (k.start c m mode check)) i))
        (λ c m s. sym (slice_ours c m s (l.slice c m s).fed (l.slice c m s).memory (k.slice c m s)) i))
        (λ c m out. sym (closing-ours c m out (l.closing c m out).written (l.closing c m out).out (k.closing c m out)) i))
        (λ c f m e n. sym (fetch_ours c f m e n (l.fetch c f m e n).fetched (l.fetch c f m e n).memory (k.fetch c f m e n)) i)

    pub every_as_fed : FetchedAsFed l
    every_as_fed = subst FetchedAsFed as_lent fetched_as_fed

    pub every_in_parts : InParts l
    every_in_parts = subst InParts as_lent in_parts

    pub every_goes_on : GoesOn l
    every_goes_on = subst GoesOn as_lent keeps_going

    pub every_boots : BootsHold l
    every_boots = subst BootsHold as_lent boots_lent

    pub every_counter : CounterAsSaid l
    every_counter = subst CounterAsSaid as_lent counter_as_said

    pub every_within : WithinBits l
    every_within = subst WithinBits as_lent within_bits

    pub every_beyond : NeverBeyond l
    every_beyond = subst NeverBeyond as_lent never_beyond

    pub every_held : HeldBoots l
    every_held = subst HeldBoots as_lent held_boots
