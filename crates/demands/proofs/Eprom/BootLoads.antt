-- A boot of ours that ends with 0 is a load of the bytes that it fetched: a stream of the third demand. And a front part of it, in any number of fetches,
-- is that front part fed as one slice. Assumes nothing.
use Prim.Native.Nat.{ℕ, ◌+◌, ◌%◌, ◌^◌, ◌<◌, ◌≤◌}
use mathlib.Core.Bool.{true}
use mathlib.Core.Logic.{◌⊎◌, ⊎_elim}
use mathlib.Core.Path.{◌≡◌, refl, ap, sym, ◌∙◌}
use mathlib.Core.List.{List}
use native.Mathlib.Nat.{mod-eq_of_lt}
use native.Mathlib.Omega.{arith}
use lib.ListN.{length, take}
use Rattle.chain.specs.declared.Chain.{Chain}
use Rattle.chain.specs.declared.Made.{Made}
use Rattle.chain.specs.Paper.{closed, writing, first_mode, downward, eprom_internal, most_devices, done, more}
use Rattle.chain.specs.Bytes.{Bytes}
use Rattle.chain.specs.State.{state_number}
use Rattle.chain.proofs.Means.{says, reads}
use Rattle.machine.specs.Calls.{fed_of}
use Rattle.grammar.proofs.Accepted.{Accepted, accepted-done, accepted_long}
use Rattle.grammar.proofs.Counts.{taken_walk}
use Rattle.grammar.proofs.StartOpens.{count_sound}
use Rattle.grammar.proofs.StreamShort.{stream-short}
use Rattle.grammar.proofs.WalkMeant.{reading, walk_meant}
use Rattle.eprom.specs.declared.Fetcher.{Fetcher}
use Rattle.eprom.specs.Counter.{fetches, last_count}
use Rattle.eprom.specs.Fetch.{fetch_all, bytes_fetched}
use Rattle.eprom.specs.Calls.{fetched_of, lent}
use Rattle.eprom.proofs.Again.{Ready}
use Rattle.eprom.proofs.Parts.{fetched-bytes, front}
use Rattle.eprom.proofs.Lockstep.{fetched-accepted}
use Rattle.demands.specs.Loader.{AfterSlice, AfterFetch, Mode}
use Rattle.demands.specs.Demand3.{load, Whole}
use Rattle.demands.specs.EpromBoards.{as_slice, fetched, total, boot, booted}
use Rattle.demands.specs.Ours.{ours}
use Rattle.demands.proofs.Loads.LoadRuns.{begun, begun_feeds, started, load_is}
use Rattle.demands.proofs.Numbers.FetchRuns.{came}
use Rattle.demands.proofs.Eprom.ReadyRuns.{fetch_is, fetch_number_lem}
use Rattle.demands.proofs.Eprom.FetchedAsFed.{ready_as_fed, as_slice_lem}
use Rattle.demands.proofs.Eprom.FetchedInParts.{parts_join}

-- the modes that fetch are modes of start
pub fetches-mode : (mode : ℕ) → fetches mode ≡ true → Mode mode
fetches-mode mode h =
    let t : ((mode ≡ first_mode) ⊎ (mode ≡ downward)) ⊎ (mode ≡ eprom_internal) = says (search reads) h in
    ⊎_elim (⊎_elim (λ e. record { least = omega arith; most = omega arith }) (λ e. record { least = omega arith; most = omega arith }))
    (λ e. record { least = omega arith; most = omega arith }) t

-- a state and a fetcher that can boot
pub record CanBoot (mode : ℕ) (c : Chain) (f : Fetcher) (m : List ℕ) : Type 0 where
  pub sound : state_number c (length m) ≡ done
  pub is_closed : c.place.running ≡ closed
  pub registers : length c.registers ≡ most_devices
  pub mode-fetches : fetches mode ≡ true
  pub counter : f.counter ≤ last_count

module _ (c : Chain) (f : Fetcher) (m e : List ℕ) (mode n : ℕ) (r : CanBoot mode c f m) where
  abbrev o : Chain
  o = begun c mode writing

  abbrev bs : List ℕ
  bs = bytes_fetched e n (lent o m f)

  m-mode : Mode mode
  m-mode = fetches-mode mode r.mode-fetches

  start_is : ours.start c m mode writing ≡ record { chain = o; number = done }
  start_is = started c m mode writing r.sound m-mode r.is_closed

  begun_ready : Ready o m f
  begun_ready =
      record { registers = r.registers; feeds = begun_feeds c m mode writing r.sound m-mode; mode = r.mode-fetches; counter = r.counter }

  pub boot_is : boot ours mode c f m e n ≡ came (fetch_all e n (lent o m f))
  boot_is = ap (λ (s : Made). ours.fetch s.chain f m e n) start_is ∙ fetch_is o f m e n begun_ready

  pub booted_is : booted ours mode c f m e n ≡ bs
  booted_is = ap (λ (s : Made). bytes_fetched e n (lent s.chain m f)) start_is

  pub boot-fetcher : (boot ours mode c f m e n).fetched.fetcher ≡ (fetch_all e n (lent o m f)).fetcher
  unfolding fetched_of
  boot-fetcher = ap (λ (a : AfterFetch). a.fetched.fetcher) boot_is

  -- ---- a front part

  pub stop_is : Bytes e → (j : ℕ) → j < length bs → (ns : List ℕ) (last : ℕ) → total ns + last ≡ j
      → as_slice (fetched ours (ours.start c m mode writing).chain f m e ns last) ≡ ours.slice (ours.start c m mode writing).chain m (take j bs)
  stop_is u j h ns last q =
      let w = front e j n o m f h in
      let v : (ours.fetch o f m e j).fetched.answer.number ≡ more = fetch_number_lem o f m e j begun_ready ∙ w.0 in
      ap (λ (s : Made). as_slice (fetched ours s.chain f m e ns last)) start_is
      ∙ ap as_slice (parts_join ns o f m e last u begun_ready (front e (total ns) n o m f (omega arith)).0)
      ∙ ap (λ (i : ℕ). as_slice (ours.fetch o f m e i)) q
      ∙ as_slice_lem (ours.fetch o f m e j) (ours.slice o m (bytes_fetched e j (lent o m f))) (ready_as_fed o f m e j begun_ready)
      (λ p. omega arith) (λ p. omega arith)
      ∙ ap (ours.slice o m) w.1
      ∙ sym (ap (λ (s : Made). ours.slice s.chain m (take j bs)) start_is)

  -- ---- all of it, where it ends with 0

  module _ (d : (boot ours mode c f m e n).fetched.answer.number ≡ done) where
    pub boot-accepted : Accepted o bs
    unfolding fetched_of
    boot-accepted = fetched-accepted e n o m f refl (sym (ap (λ (a : AfterFetch). a.fetched.answer.number) boot_is) ∙ d)

    pub boot_loads : as_slice (boot ours mode c f m e n) ≡ load ours mode c m bs
    boot_loads =
        let b : (ours.fetch o f m e n).fetched.answer.number ≡ done =
        ap (λ (s : Made). (ours.fetch s.chain f m e n).fetched.answer.number) (sym start_is) ∙ d in
        ap (λ (s : Made). as_slice (ours.fetch s.chain f m e n)) start_is
        ∙ as_slice_lem (ours.fetch o f m e n) (ours.slice o m bs) (ready_as_fed o f m e n begun_ready) (λ p. omega arith) (λ p. omega arith)
        ∙ sym (ap (λ (s : Made). ours.slice s.chain m bs) start_is)

    -- its bytes are those of a reading, so that their count does not wrap
    pub boot-whole : Bytes e → Whole ours mode bs c m
    unfolding fed_of
    boot-whole u =
        let a = boot-accepted in
        let small = fetched-bytes e u n o m f in
        let few = count_sound c (length m) r.sound in
        let x = reading c mode writing bs few.0 few.1 small a in
        let long = accepted_long bs o a in
        let means = walk_meant c mode writing bs few.0 few.1 small a x in
        let short : length bs < 2 ^ 32 = omega (arith, long, ap length means, stream-short c mode x.first x.others few.1 x.fits) in
        let l = load_is c m mode r.sound m-mode r.is_closed bs in
        record {
          started = ap (λ (s : Made). s.number) start_is;
          number = ap (λ (s : AfterSlice). s.fed.answer.number) l ∙ accepted-done bs o m a;
          taken = ap (λ (s : AfterSlice). s.fed.answer.taken) l ∙ taken_walk bs o m refl ∙ ap (λ (i : ℕ). i % 2 ^ 32) long ∙ mod-eq_of_lt short;
        }
