-- Every stop of a stream that loads whole is as the third demand says, however the bytes up to it are cut: its cells and registers, its
-- closing bytes, and the same stream started afresh. Assumes nothing.
use Prim.Native.Nat.{ℕ, ◌<◌, ◌≤◌, ◌^◌}
use mathlib.Core.Path.{◌≡◌, refl, ap, sym, subst, ◌∙◌}
use mathlib.Core.List.{List, ◌++◌}
use native.Mathlib.Omega.{arith}
use lib.ListN.{length, take, length-take}
use borrow.Author.Tests.{ne_eqb}
use Rattle.chain.specs.declared.Chain.{Chain}
use Rattle.chain.specs.declared.Made.{Made}
use Rattle.chain.specs.Paper.{closed, writing, most_devices, done, more}
use Rattle.chain.specs.Bytes.{Bytes}
use Rattle.chain.specs.Set.{with_place, closed_place}
use Rattle.chain.specs.State.{state_number, feed_number}
use Rattle.chain.proofs.Bytes.{bytes-front, bytes_take}
use Rattle.machine.specs.Run.{Run, run, run_of}
use Rattle.machine.specs.Calls.{answered, fed_of}
use Rattle.grammar.proofs.Runs.Keeps.{run_open}
use Rattle.machine.proofs.Runs.{run_lasts}
use Rattle.closing.specs.Closing.{closing_bytes}
use Rattle.grammar.specs.Fits.{Reading, meant, Clear}
use Rattle.grammar.specs.Stores.{walk_of}
use Rattle.grammar.proofs.Walk.{walk_take}
use Rattle.grammar.proofs.Accepted.{Accepted, accepted-done, accepted_open, accepted-taken, done-over}
use Rattle.grammar.proofs.WalkMeant.{reading, walk_meant}
use Rattle.grammar.proofs.StreamShort.{stream-short}
use Rattle.grammar.proofs.NothingBarred.{unbarred_stream}
use Rattle.grammar.specs.Sent.{memory, registers}
use Rattle.grammar.proofs.BytesStay.{bytes_stay}
use Rattle.grammar.proofs.Restart.{Restarted, restart}
use Rattle.chain.proofs.Sound.{feed_closed}
use Rattle.grammar.proofs.StartOpens.{count_sound}
use Rattle.demands.specs.Loader.{AfterSlice, Idle, Open, Mode}
use Rattle.demands.specs.Demand2.{Seen, slices, joined}
use Rattle.demands.specs.Demand3.{load, Whole, Shut, Closes, Stopped, Demand3}
use Rattle.demands.specs.Ours.{ours}
use Rattle.demands.proofs.Loads.LoadRuns.{begun, left, slice_is, begun_feeds, started, load_is, open_front, slices_join}
use Rattle.demands.proofs.Loads.RunSeen.{seen}
use Rattle.demands.proofs.Stops.ClosingCuts.{Shuts, offers, shuts, room, closing-cut, closing_part, closing-some}

-- ---- what a slice answers, by whether its run is over

abbrev going : Run → AfterSlice
going r = record { fed = answered r.chain more r.chain.place.taken r.chain.place.mismatches; memory = r.memory }

abbrev over : Run → AfterSlice
over r =
    record {
      fed = answered (with_place r.chain closed_place) r.number r.chain.place.taken r.chain.place.mismatches;
      memory = r.memory;
    }

left-going : (r : Run) → r.number ≡ more → left r ≡ going r
unfolding fed_of
left-going r e = rw e

left_over_lem : (r : Run) → (r.number ≡ more → ⊥) → left r ≡ over r
unfolding fed_of
left_over_lem r e = rw (ne_eqb r.number more e)

-- closing bytes leave the chain that was stopped, with no run open
slice_shut : (s : Chain) (m cs : List ℕ) → feed_number s (length m) ≡ done → Shuts s m cs → ours.slice s m cs
    ≡ record {
      fed = answered (with_place s closed_place) (run_of (run s m more) cs).number (run_of (run s m more) cs).chain.place.taken
          (run_of (run s m more) cs).chain.place.mismatches;
      memory = m;
    }
slice_shut s m cs h x =
    let l = run_lasts cs (run s m more) in
    slice_is s m cs h ∙ left_over_lem (run_of (run s m more) cs) x.ends ∙ rw (l.count, l.kinds, x.cells, x.regs)

-- ---- a load

module _ (c : Chain) (m : List ℕ) (mode : ℕ) (h : state_number c (length m) ≡ done) (z : c.place.running ≡ closed) (k : Mode mode) (bs : List ℕ) where
  load-over : Accepted (begun c mode writing) bs → load ours mode c m bs ≡ over (run_of (run (begun c mode writing) m more) bs)
  load-over a = load_is c m mode h k z bs ∙ left_over_lem (run_of (run (begun c mode writing) m more) bs) (done-over (accepted-done bs (begun c mode writing) m a))

  load-whole : Accepted (begun c mode writing) bs → (run_of (run (begun c mode writing) m more) bs).chain.place.taken ≡ length bs
      → Whole ours mode bs c m
  load-whole a t =
      record {
        started = ap (λ (x : Made). x.number) (started c m mode writing h k z);
        number = ap (λ (x : AfterSlice). x.fed.answer.number) (load-over a) ∙ accepted-done bs (begun c mode writing) m a;
        taken = ap (λ (x : AfterSlice). x.fed.answer.taken) (load-over a) ∙ t;
      }

  whole-taken : Whole ours mode bs c m → (run_of (run (begun c mode writing) m more) bs).chain.place.taken ≡ length bs
  unfolding fed_of
  whole-taken w = sym (ap (λ (x : AfterSlice). x.fed.answer.taken) (load_is c m mode h k z bs)) ∙ w.taken

  pub whole-accepted : Whole ours mode bs c m → Accepted (begun c mode writing) bs
  unfolding fed_of
  whole-accepted w =
      accepted-taken bs (begun c mode writing) m refl
      (sym (ap (λ (x : AfterSlice). x.fed.answer.number) (load_is c m mode h k z bs)) ∙ w.number) (whole-taken w)

-- ---- the demand

module _ (c : Chain) (m : List ℕ) (mode : ℕ) (bs : List ℕ) (idle : Idle c m) (k : Mode mode) (small : Bytes bs) (w : Whole ours mode bs c m) where
  abbrev o : Chain
  o = begun c mode writing

  accepted : Accepted o bs
  accepted = whole-accepted c m mode idle.sound idle.is_closed k bs w

  feeds : feed_number o (length m) ≡ done
  feeds = begun_feeds c m mode writing idle.sound k

  devices : (0 < c.count) × (c.count ≤ most_devices)
  devices = count_sound c (length m) idle.sound

  -- one stop, after j bytes
  module _ (x : Reading c mode bs) (clear : Clear x.first x.others) (j : ℕ) (l : j < length bs) where
    abbrev stop : Run
    stop = run_of (run o m more) (take j bs)

    walk : walk_of o bs ≡ meant x
    walk = walk_meant c mode writing bs devices.0 devices.1 small accepted x

    stop-more : stop.number ≡ more
    stop-more = accepted_open j bs o m accepted l

    stop_feeds : feed_number stop.chain (length stop.memory) ≡ done
    stop_feeds = run_open o m (take j bs) (bytes_take j bs small) idle.registers feeds stop-more

    stop_open : Open stop.chain stop.memory
    stop_open =
        let n = run_lasts (take j bs) (run o m more) in
        record {
          kinds = ap length n.kinds ∙ idle.kinds;
          registers = n.registers ∙ idle.registers;
          register_bytes = bytes_stay registers (take j bs) o m refl (bytes_take j bs small) idle.register_bytes;
          memory_bytes = bytes_stay memory (take j bs) o m refl (bytes_take j bs small) idle.memory_bytes;
          sound = stop_feeds;
        }

    stop_seen : Seen writing c m (take j (meant x)) more (going stop)
    stop_seen =
        let short : length (take j (meant x)) < 2 ^ 32 = omega (arith, length-take j (meant x), stream-short c mode x.first x.others devices.1 x.fits) in
        subst (λ (a : AfterSlice). Seen writing c m (take j (meant x)) more a) (left-going stop stop-more)
        (seen writing mode c m (take j bs) (take j (meant x)) more (walk_take j bs o ∙ ap (take j) walk) short stop-more)

    -- the chain that was stopped, with no run open
    abbrev shut : Chain
    shut = with_place stop.chain closed_place

    shut_sound : state_number shut (length stop.memory) ≡ done
    shut_sound = feed_closed stop.chain (length stop.memory) stop_feeds

    again : Restarted o (begun shut mode writing) m stop.memory bs
    again =
        let n = run_lasts (take j bs) (run o m more) in
        restart c shut mode m bs j (meant x) accepted walk (unbarred_stream c mode x.first x.others clear) n.count n.kinds refl

    -- closing bytes, and the stream afresh
    abbrev cs : List ℕ
    cs = closing_bytes stop.chain stop.memory

    shuts_all : Shut ours mode bs (load ours mode c m bs) (going stop) (ours.slice stop.chain stop.memory cs)
    shuts_all =
        let y = shuts stop.chain stop.memory stop_open in
        let fresh = load-over shut stop.memory mode shut_sound refl k bs again.accepted in
        let unbroken = load-over c m mode idle.sound idle.is_closed k bs accepted in
        let all = whole-taken c m mode idle.sound idle.is_closed k bs w in
        subst (λ (t : AfterSlice). Shut ours mode bs (load ours mode c m bs) (going stop) t)
        (sym (slice_shut stop.chain stop.memory cs stop_feeds y))
        (record {
          ends = y.ends;
          shut = refl;
          kept = record { cells = refl; registers = refl; count = refl; kinds = refl };
          again = load-whole shut stop.memory mode shut_sound refl k bs again.accepted (again.taken ∙ all);
          again_cells = ap (λ (t : AfterSlice). t.memory) fresh ∙ again.cells ∙ sym (ap (λ (t : AfterSlice). t.memory) unbroken);
          again_registers = ap (λ (t : AfterSlice). t.fed.chain.registers) fresh ∙ again.regs
              ∙ sym (ap (λ (t : AfterSlice). t.fed.chain.registers) unbroken);
        })

    closes_all : Closes ours mode bs (load ours mode c m bs) (going stop) cs
    closes_all =
        record {
          some = closing-some stop.chain stop.memory stop_open;
          late = λ i g ps last e.
              ap (λ (a : AfterSlice). a.fed.answer.number)
              (closing_part stop.chain stop.memory stop_open i g ps last e ∙ slice_is stop.chain stop.memory (take i cs) stop_feeds
              ∙ left-going _ ((shuts stop.chain stop.memory stop_open).late i g));
          shuts = λ ps b last e.
              subst (λ (t : AfterSlice). Shut ours mode bs (load ours mode c m bs) (going stop) t)
              (sym (closing-cut stop.chain stop.memory stop_open ps b last e)) shuts_all;
        }

    stopped : Stopped ours mode bs c m (take j (meant x)) (going stop)
    stopped =
        let s = stop_seen in
        record {
          seen = s;
          room = λ out g. room stop.chain stop.memory out stop_open (rw s.kinds g);
          closes = λ out g.
              subst (λ (l : List ℕ). Closes ours mode bs (load ours mode c m bs) (going stop) l) (sym (offers stop.chain stop.memory out g)) closes_all;
        }

    -- slices that leave the run open are one slice
    cut : (ps : List (List ℕ)) (last : List ℕ) → joined ps ++ last ≡ take j bs → slices ours (ours.start c m mode writing).chain m ps last ≡ going stop
    cut ps last q =
        let n : (run_of (run o m more) (joined ps ++ last)).number ≡ more = ap (λ (y : List ℕ). (run_of (run o m more) y).number) q ∙ stop-more in
        ap (λ (r : Made). slices ours r.chain m ps last) (started c m mode writing idle.sound k idle.is_closed)
        ∙ slices_join ps o m last feeds idle.registers (bytes-front (joined ps) last (subst Bytes (sym q) (bytes_take j bs small)))
        (open_front (joined ps) last (run o m more) n)
        ∙ ap (λ (y : List ℕ). ours.slice o m y) q
        ∙ slice_is o m (take j bs) feeds
        ∙ left-going stop stop-more

pub demand3 : Demand3 ours
demand3 c m mode bs i k small w =
    let a = accepted c m mode bs i k small w in
    let n = devices c m mode bs i k small w in
    record {
      reading = reading c mode writing bs n.0 n.1 small a;
      stops = λ x clear j l ps last q.
          subst (λ (s : AfterSlice). Stopped ours mode bs c m (take j (meant x)) s) (sym (cut c m mode bs i k small w x clear j l ps last q))
          (stopped c m mode bs i k small w x clear j l);
    }
