-- Clause (a) of the second demand holds of our loader: a stream that fits loads or is checked as it is meant, however it is cut into
-- slices. Assumes nothing.
use Prim.Native.Nat.{ℕ, ◌<◌, ◌≤◌, ◌^◌}
use mathlib.Core.Path.{◌≡◌, refl, ap, sym, subst, ◌∙◌}
use mathlib.Core.List.{List, ◌∷◌, ◌++◌, append_assoc}
use native.Mathlib.Omega.{arith}
use lib.ListN.{length, take, length-take}
use Rattle.chain.specs.declared.Chain.{Chain}
use Rattle.chain.specs.Paper.{most_devices, done, more}
use Rattle.chain.specs.State.{feed_number}
use Rattle.chain.specs.declared.Made.{Made}
use Rattle.machine.specs.Run.{run, run_of}
use Rattle.machine.proofs.Feed.{run-append, run-over}
use Rattle.grammar.specs.Sent.{Sent, bytes_of}
use Rattle.grammar.specs.Stream.{Section, stream_sent}
use Rattle.chain.specs.Bytes.{Bytes}
use Rattle.demands.specs.Loader.{AfterSlice, Idle, Mode}
use Rattle.grammar.specs.Fits.{Fitting}
use Rattle.demands.specs.Demand2.{Seen, slices, joined, Demand2a}
use Rattle.demands.specs.Ours.{ours}
use Rattle.grammar.specs.Stores.{walk_of}
use Rattle.grammar.proofs.Walk.{walk_take}
use Rattle.grammar.proofs.Accepted.{Accepted, accepted-done, accepted_open, done-over}
use Rattle.grammar.proofs.FitsAccepted.{stream-accepted}
use Rattle.grammar.proofs.WalkMeant.{walk_meant}
use Rattle.grammar.proofs.StartOpens.{count_sound}
use Rattle.demands.proofs.Loads.RunSeen.{seen}
use Rattle.demands.proofs.Loads.Cuts.{front_open}
use Rattle.demands.proofs.Loads.LoadRuns.{begun, left, slice_is, begun_feeds, started, open_front, slices_join}
use Rattle.chain.proofs.Bytes.{bytes-front, bytes_take}
use Rattle.grammar.proofs.StreamShort.{stream-short, bytes_long}

-- ---- a fitting stream

module _ (c : Chain) (m : List ℕ) (check mode : ℕ) (s : Section) (ss : List Section)
    (i : Idle c m) (k : Mode mode) (f : Fitting c check mode s ss) where
  abbrev o : Chain
  o = begun c mode check

  abbrev xs : List Sent
  xs = stream_sent c mode s ss

  abbrev bs : List ℕ
  bs = bytes_of xs

  counts : (0 < c.count) × (c.count ≤ most_devices)
  counts = count_sound c (length m) i.sound

  accepted : Accepted o bs
  accepted = stream-accepted c check mode s ss counts.1 f

  walk : walk_of o bs ≡ xs
  walk = walk_meant c mode check bs counts.0 counts.1 f.bytes accepted (record { first = s; others = ss; fits = f.fits; bytes = refl })

  short : length xs < 2 ^ 32
  short = stream-short c mode s ss counts.1 f.fits

  sound : feed_number o (length m) ≡ done
  sound = begun_feeds c m mode check i.sound k

  seen_whole : Seen check c m xs done (ours.slice o m bs)
  seen_whole =
      subst (λ (a : AfterSlice). Seen check c m xs done a) (sym (slice_is o m bs sound))
      (seen check mode c m bs xs done walk short (accepted-done bs o m accepted))

  -- what follows the postamble is not looked at
  unlooked : (rest : List ℕ) → ours.slice o m (bs ++ rest) ≡ ours.slice o m bs
  unlooked rest =
      slice_is o m (bs ++ rest) sound
      ∙ ap left (run-append bs rest (run o m more) ∙ run-over rest (run_of (run o m more) bs) (done-over (accepted-done bs o m accepted)))
      ∙ sym (slice_is o m bs sound)

  seen_part : (j : ℕ) → j < length xs → Seen check c m (take j xs) more (ours.slice o m (take j bs))
  seen_part j h =
      subst (λ (a : AfterSlice). Seen check c m (take j xs) more a) (sym (slice_is o m (take j bs) sound))
      (seen check mode c m (take j bs) (take j xs) more (walk_take j bs o ∙ ap (take j) walk) (omega (arith, length-take j xs, short))
      (accepted_open j bs o m accepted (omega (arith, bytes_long xs))))

  -- however it is cut
  cut-whole : (ps : List (List ℕ)) (b : ℕ) (last rest : List ℕ) → joined ps ++ (b ∷ last) ≡ bs
      → Seen check c m xs done (slices ours o m ps ((b ∷ last) ++ rest))
  cut-whole ps b last rest e =
      let open_before = front_open o m bs (joined ps) b last e (λ k l. accepted_open k bs o m accepted l) in
      let small = bytes-front (joined ps) (b ∷ last) (subst Bytes (sym e) f.bytes) in
      let all : joined ps ++ ((b ∷ last) ++ rest) ≡ bs ++ rest = sym (append_assoc (joined ps) (b ∷ last) rest) ∙ ap (λ (l : List ℕ). l ++ rest) e in
      let j = slices_join ps o m ((b ∷ last) ++ rest) sound i.registers small open_before ∙ ap (λ (l : List ℕ). ours.slice o m l) all in
      subst (λ (a : AfterSlice). Seen check c m xs done a) (sym (j ∙ unlooked rest)) seen_whole

  cut_part : (k : ℕ) → k < length xs → (ps : List (List ℕ)) (last : List ℕ) → joined ps ++ last ≡ take k bs
      → Seen check c m (take k xs) more (slices ours o m ps last)
  cut_part k h ps last e =
      let open-all : (run_of (run o m more) (joined ps ++ last)).number ≡ more =
      ap (λ (l : List ℕ). (run_of (run o m more) l).number) e ∙ accepted_open k bs o m accepted (omega (arith, bytes_long xs))
      in
      let small = bytes-front (joined ps) last (subst Bytes (sym e) (bytes_take k bs f.bytes)) in
      let j = slices_join ps o m last sound i.registers small (open_front (joined ps) last (run o m more) open-all) ∙ ap (λ (l : List ℕ). ours.slice o m l) e in
      subst (λ (a : AfterSlice). Seen check c m (take k xs) more a) (sym j) (seen_part k h)

pub second_a : Demand2a ours
second_a c m check mode s ss i k f =
    let e = started c m mode check i.sound k i.is_closed in
    record {
      started = ap (λ (r : Made). r.number) e;
      whole = λ ps b last rest q.
          subst (λ (d : Made). Seen check c m (stream_sent c mode s ss) done (slices ours d.chain m ps ((b ∷ last) ++ rest))) (sym e)
          (cut-whole c m check mode s ss i k f ps b last rest q);
      part = λ j h ps last q.
          subst (λ (d : Made). Seen check c m (take j (stream_sent c mode s ss)) more (slices ours d.chain m ps last)) (sym e)
          (cut_part c m check mode s ss i k f j h ps last q);
    }
