-- A run that is accepted, started afresh and fed in any cut: how many bytes it took, their reading, and that each device let it in. So
-- clause (e) of the second demand holds of our loader. Assumes nothing.
use Prim.Native.Nat.{ℕ, ◌^◌, ◌≤◌, ◌<◌}
use mathlib.Core.Path.{◌≡◌, refl, ap, sym, subst, ◌∙◌}
use mathlib.Core.List.{List, [], ◌++◌}
use lib.ListN.{length, take}
use Rattle.chain.specs.declared.Chain.{Chain}
use Rattle.chain.specs.declared.Made.{Made}
use Rattle.chain.specs.Paper.{most_devices, done, more}
use Rattle.chain.proofs.Sound.{feed_sound}
use Rattle.machine.specs.declared.Fed.{Fed}
use Rattle.machine.specs.Run.{run, run_of}
use Rattle.machine.specs.Calls.{fed_of}
use Rattle.grammar.specs.Sent.{Sent}
use Rattle.chain.specs.Bytes.{Bytes}
use Rattle.demands.specs.Loader.{AfterSlice, Idle, Mode}
use Rattle.demands.specs.Demand2.{slices, joined, ran, LetIn, Demand2e}
use Rattle.demands.specs.Ours.{ours}
use Rattle.grammar.specs.Stores.{walk_of}
use Rattle.grammar.proofs.StartOpens.{count_sound}
use Rattle.grammar.proofs.StreamShort.{stream-short}
use Rattle.grammar.proofs.Parse.{parse}
use Rattle.grammar.proofs.WalkMeant.{reading, walk_meant}
use Rattle.grammar.proofs.LetIn.{stream_let}
use Rattle.grammar.proofs.Accepted.{Used, used, used_taken}
use Rattle.chain.proofs.Bytes.{bytes-front, bytes_take}
use Rattle.demands.proofs.Loads.Cuts.{slices-done}
use Rattle.demands.proofs.Loads.LoadRuns.{begun, left, slice_is, begun_feeds, started, slices_join}

module _ (c : Chain) (m : List ℕ) (check mode : ℕ) (bs : List ℕ) (i : Idle c m) (o : Mode mode) (u : Bytes bs) where
  abbrev from : Chain
  from = begun c mode check

  abbrev fed : Fed
  fed = (ran ours check mode c m [] bs).fed

  ran_is : ran ours check mode c m [] bs ≡ left (run_of (run from m more) bs)
  ran_is =
      ap (λ (x : Made). ours.slice x.chain m bs) (started c m mode check i.sound o i.is_closed)
      ∙ slice_is from m bs (begun_feeds c m mode check i.sound o)

  number_is : fed.answer.number ≡ (run_of (run from m more) bs).number
  unfolding fed_of
  number_is = ap (λ (x : AfterSlice). x.fed.answer.number) ran_is

  taken_is : fed.answer.taken ≡ (run_of (run from m more) bs).chain.place.taken
  unfolding fed_of
  taken_is = ap (λ (x : AfterSlice). x.fed.answer.taken) ran_is

  devices : (0 < c.count) × (c.count ≤ most_devices)
  devices = count_sound c (length m) i.sound

  pub used_of : fed.answer.number ≡ done → Used from bs
  used_of z = used bs from m (sym number_is ∙ z)

  module _ (x : Used from bs) where
    small : Bytes (take x.many bs)
    small = bytes_take x.many bs u

    -- it took as many bytes as it used
    many_is : fed.answer.taken ≡ x.many
    many_is =
        let p = parse c mode check (take x.many bs) devices.0 devices.1 small x.accepted in
        let short : length (walk_of from (take x.many bs)) < 2 ^ 32 =
        subst (λ (l : List Sent). length l < 2 ^ 32) (sym p.sends) (stream-short c mode p.first p.others devices.1 p.fits) in
        taken_is ∙ used_taken bs from m refl x short

    pub within : fed.answer.taken ≤ length bs
    within = subst (λ (n : ℕ). n ≤ length bs) (sym many_is) x.within

    pub let_in : LetIn check mode c (take fed.answer.taken bs)
    let_in =
        subst (λ (n : ℕ). LetIn check mode c (take n bs)) (sym many_is)
        (record {
          reading = reading c mode check (take x.many bs) devices.0 devices.1 small x.accepted;
          lets = λ y.
              stream_let c (length m) mode check (take x.many bs) y.first y.others
              (feed_sound from (length m) (begun_feeds c m mode check i.sound o)) i.registers small x.accepted
              (walk_meant c mode check (take x.many bs) devices.0 devices.1 small x.accepted y);
        })

-- an accepted run's cut is one slice
pub ran-once : (c : Chain) (m : List ℕ) (check mode : ℕ) (ps : List (List ℕ)) (last : List ℕ) → Idle c m → Mode mode → Bytes (joined ps ++ last)
    → (ran ours check mode c m ps last).fed.answer.number ≡ done → ran ours check mode c m ps last ≡ ran ours check mode c m [] (joined ps ++ last)
ran-once c m check mode ps last i o u z =
    let e = ap (λ (r : Made). r.chain) (started c m mode check i.sound o i.is_closed) in
    let h = subst (λ (d : Chain). (slices ours d m ps last).fed.answer.number ≡ done) e z in
    subst (λ (d : Chain). slices ours d m ps last ≡ ours.slice d m (joined ps ++ last)) (sym e)
    (slices_join ps (begun c mode check) m last (begun_feeds c m mode check i.sound o) i.registers
    (bytes-front (joined ps) last u) (slices-done ps (begun c mode check) m last h))

pub second_e : Demand2e ours
second_e c m check mode ps last i o u z =
    let e = ran-once c m check mode ps last i o u z in
    subst (λ (a : AfterSlice). LetIn check mode c (take a.fed.answer.taken (joined ps ++ last))) (sym e)
    (let_in c m check mode (joined ps ++ last) i o u
    (used_of c m check mode (joined ps ++ last) i o u (ap (λ (a : AfterSlice). a.fed.answer.number) (sym e) ∙ z)))
