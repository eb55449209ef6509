-- The third demand of a stream that ours fetches: every stop of it is as a stop of the same stream fed directly, and the fresh start, lent the counter that the
-- stopped run began with, fetches the very same bytes. Assumes nothing.
use Prim.Native.Nat.{ℕ}
use mathlib.Core.Path.{◌≡◌, refl, ap, sym, subst, ◌∙◌}
use mathlib.Core.List.{List, [], ◌∷◌}
use lib.ListN.{length, take}
use Rattle.chain.specs.declared.Chain.{Chain}
use Rattle.chain.specs.Paper.{writing, most_devices, done}
use Rattle.chain.specs.State.{state_number}
use Rattle.chain.proofs.ByCases.{by_eq}
use Rattle.machine.specs.Calls.{start_of}
use Rattle.machine.proofs.Starts.{start_gives}
use Rattle.grammar.specs.Fits.{meant}
use Rattle.grammar.proofs.Accepted.{accepted-done}
use Rattle.eprom.specs.declared.Fetcher.{Fetcher}
use Rattle.eprom.specs.Fetch.{Fetching, bytes_fetched}
use Rattle.eprom.specs.Calls.{fetched_of, lent}
use Rattle.eprom.proofs.Parts.{fetched-bytes}
use Rattle.eprom.proofs.Lockstep.{afresh, lockstep}
use Rattle.demands.specs.Loader.{AfterSlice, AfterFetch}
use Rattle.demands.specs.Demand2.{slices}
use Rattle.demands.specs.Demand3.{load, Shut, Stopped}
use Rattle.demands.specs.EpromBoards.{Lendable, as_slice, fetched, boot, booted, Boots, SameBoot, BootHeld, BootsHold}
use Rattle.demands.specs.Ours.{ours}
use Rattle.demands.proofs.Loads.LoadRuns.{begun}
use Rattle.demands.proofs.Stops.StopsRight.{whole-accepted, demand3}
use Rattle.demands.proofs.Numbers.FetchRuns.{came}
use Rattle.demands.proofs.Eprom.BootLoads.{fetches-mode, CanBoot, boot_is, booted_is, boot-fetcher, stop_is, boot-accepted, boot_loads, boot-whole}

-- a state whose start is done is one that every call takes
start_sound : (c : Chain) (m : List ℕ) (mode : ℕ) → (ours.start c m mode writing).number ≡ done → state_number c (length m) ≡ done
unfolding start_of
start_sound c m mode h = by_eq (state_number c (length m)) done (λ e. e) (λ n. sym (start_gives c (length m) mode n) ∙ h)

-- the stream that c and f began, booted afresh from t, in which a stop s of it was shut, lent the same counter
module _ (c : Chain) (f g : Fetcher) (m e : List ℕ) (mode n : ℕ) (r : CanBoot mode c f m) (b : (boot ours mode c f m e n).fetched.answer.number ≡ done)
    (lg : Lendable g) (same : g.counter ≡ f.counter) where
  abbrev bs : List ℕ
  bs = bytes_fetched e n (lent (begun c mode writing) m f)

  boots_again : (s t : AfterSlice) → length t.fed.chain.registers ≡ most_devices → Shut ours mode bs (load ours mode c m bs) s t
      → Boots ours mode t.fed.chain g t.memory e n × SameBoot (boot ours mode c f m e n) (boot ours mode t.fed.chain g t.memory e n)
      × (booted ours mode t.fed.chain g t.memory e n ≡ bs)
  unfolding fetched_of
  boots_again s t eight h =
      let d : Chain = t.fed.chain in
      let k : List ℕ = t.memory in
      let sound = start_sound d k mode h.again.started in
      let w : CanBoot mode d g k =
      record { sound = sound; is_closed = h.shut; registers = eight; mode-fetches = r.mode-fetches; counter = lg.counter } in
      let a = whole-accepted d k mode sound h.shut (fetches-mode mode r.mode-fetches) bs h.again in
      let l =
      lockstep e n (begun c mode writing) (begun d mode writing) m k f g refl refl (afresh (begun c mode writing).place f g refl refl same)
      (boot-accepted c f m e mode n r b) a
      in
      let z : (boot ours mode d g k e n).fetched.answer.number ≡ done =
      ap (λ (y : AfterFetch). y.fetched.answer.number) (boot_is d g k e mode n w ∙ ap came l.0) ∙ accepted-done bs (begun d mode writing) k a in
      let y = boot_loads d g k e mode n w z ∙ ap (load ours mode d k) l.1 in
      let x = sym (boot_loads c f m e mode n r b) in (
        record { started = h.again.started; number = z },
        record {
          number = z;
          cells = ap (λ (q : AfterSlice). q.memory) y ∙ h.again_cells ∙ ap (λ (q : AfterSlice). q.memory) x;
          registers = ap (λ (q : AfterSlice). q.fed.chain.registers) y ∙ h.again_registers ∙ ap (λ (q : AfterSlice). q.fed.chain.registers) x;
          fetcher = boot-fetcher d g k e mode n w ∙ ap (λ (q : Fetching). q.fetcher) l.0 ∙ sym (boot-fetcher c f m e mode n r);
        },
        booted_is d g k e mode n w ∙ l.1,
      )

pub boots_hold : BootsHold ours
boots_hold c f m e mode n i k l u b =
    let r : CanBoot mode c f m =
    record { sound = i.sound; is_closed = i.is_closed; registers = i.registers; mode-fetches = k; counter = l.counter } in
    let xs : List ℕ = bytes_fetched e n (lent (begun c mode writing) m f) in
    let w = boot-whole c f m e mode n r b.number u in
    let held = demand3 c m mode xs i (fetches-mode mode k) (fetched-bytes e u n (begun c mode writing) m f) w in
    let loads = boot_loads c f m e mode n r b.number in
    subst (λ (ys : List ℕ). BootHeld ours mode ys c f m e n) (sym (booted_is c f m e mode n r))
    (record {
      whole = w;
      reading = held.reading;
      cells = ap (λ (s : AfterSlice). s.memory) loads;
      registers = ap (λ (s : AfterSlice). s.fed.chain.registers) loads;
      stops = λ x clear j h ns last q.
          let s : AfterFetch = fetched ours (ours.start c m mode writing).chain f m e ns last in
          let stop : Stopped ours mode xs c m (take j (meant x)) (as_slice s) =
          subst (Stopped ours mode xs c m (take j (meant x))) (sym (stop_is c f m e mode n r u j h ns last q)) (held.stops x clear j h [] (take j xs) refl) in
          record {
            stopped = stop;
            again = λ out v ps a rest y g lg same.
                let t : AfterSlice = slices ours s.fetched.chain s.memory ps (a ∷ rest) in
                let shut = (stop.closes out v).shuts ps a rest y in
                boots_again c f g m e mode n r b.number lg same (as_slice s) t
                (ap length shut.kept.registers ∙ stop.seen.regs_many ∙ i.registers) shut;
          };
    })
