-- The counter of ours goes where the request says, a stop keeps what it says, and a run's end leaves what it says, all read off the run's bytes.
-- Assumes nothing.
use Prim.Native.Nat.{ℕ, zero, suc, ◌+◌, ◌%◌, ◌^◌, ◌<◌}
use mathlib.Core.Bool.{false}
use mathlib.Core.Path.{◌≡◌, refl, ap, sym, subst, ◌∙◌}
use mathlib.Core.List.{List, [], ◌∷◌, ◌++◌, append-nil, append_assoc}
use native.Mathlib.Nat.{zero-add}
use native.Mathlib.Omega.{arith}
use borrow.Author.Tests.{ne_eqb}
use lib.Dec.{eqb, lit<}
use lib.ListN.{length, take}
use Rattle.chain.specs.declared.Chain.{Chain}
use Rattle.chain.specs.declared.Made.{Made}
use Rattle.chain.specs.declared.Place.{Place}
use Rattle.chain.specs.Paper.{at_preamble, two_preambles, more, past_eprom, bad_jump}
use Rattle.chain.specs.Bytes.{Bytes}
use Rattle.chain.proofs.Sound.{feed_sound}
use Rattle.awaited.specs.Byte.{number_of}
use Rattle.machine.specs.Run.{memory_of, missed_of, went_on}
use Rattle.grammar.proofs.Runs.Stays.{went_stays}
use Rattle.eprom.specs.declared.Fetcher.{Fetcher}
use Rattle.eprom.specs.Kept.{onward}
use Rattle.eprom.specs.Fetch.{Fetching, fetch_all, bytes_fetched}
use Rattle.eprom.specs.Calls.{fetched_of, lent}
use Rattle.eprom.proofs.Turns.{byte_at, by_turn, comes_past, comes_strays, comes_ends, comes_goes, later, fetch_none, bytes-none}
use Rattle.eprom.proofs.NextByte.{not-two}
use Rattle.eprom.proofs.Own.{never_past, never_jump}
use Rattle.eprom.proofs.Settled.{astray-jumps, astray-at}
use Rattle.eprom.proofs.AsFed.{null_more}
use Rattle.eprom.proofs.Parts.{front, stands}
use Rattle.eprom.proofs.Again.{Ready, later_ready}
use Rattle.demands.specs.EpromCounter.{counter_after, kept_after, end_after, AsSaid, CounterAsSaid}
use Rattle.demands.specs.Ours.{ours}
use Rattle.demands.proofs.Loads.LoadRuns.{begun, begun_feeds, started}
use Rattle.demands.proofs.Numbers.FetchRuns.{came}
use Rattle.demands.proofs.Eprom.ReadyRuns.{fetch_is}
use Rattle.demands.proofs.Eprom.BootLoads.{fetches-mode}
use Rattle.demands.proofs.Eprom.CounterWay.{Along, at_0, at_2, at_3, at_4, at_5, at_6, at_7, later as further, along_on, along_ends, along_strays, Far, along_far}
use Rattle.demands.proofs.Eprom.HowMany.{taken-all, more-all, past_beyond}

-- what is kept, by the bytes bs
module _ (mode k : ℕ) where
  kept_counter : {bs : List ℕ} {p : Place} {f : Fetcher} → Along mode k bs p f → f.counter ≡ counter_after mode k bs
  kept_counter (at_0 d a e) = e
  kept_counter (at_2 s d a e) = ap (λ (g : Fetcher). g.counter) e
  kept_counter (at_3 s t d a e) = ap (λ (g : Fetcher). g.counter) e
  kept_counter (at_4 s t u d a e) = ap (λ (g : Fetcher). g.counter) e
  kept_counter (at_5 s t u v d a e) = ap (λ (g : Fetcher). g.counter) e
  kept_counter (at_6 s t u v w d a e) = ap (λ (g : Fetcher). g.counter) e
  kept_counter (at_7 s t u v w n d a e) = ap (λ (g : Fetcher). g.counter) e
  kept_counter (further s t u v w n z bs h e) = ap (λ (g : Fetcher). g.counter) e

  kept-all : {bs : List ℕ} {p : Place} {f : Fetcher} → Along mode k bs p f → 0 < length bs → f ≡ kept_after mode k bs
  kept-all (at_0 d a e) h = absurd (none h)
    where
      none : 0 < 0 → ⊥
      none q = omega arith
  kept-all (at_2 s d a e) h = e
  kept-all (at_3 s t d a e) h = e
  kept-all (at_4 s t u d a e) h = e
  kept-all (at_5 s t u v d a e) h = e
  kept-all (at_6 s t u v w d a e) h = e
  kept-all (at_7 s t u v w n d a e) h = e
  kept-all (further s t u v w n z bs h e) g = e

-- ---- along the whole run

pub record Way (mode k : ℕ) (bs : List ℕ) (x : Fetching) : Type 0 where
  pub goes : x.run.number ≡ more → Along mode k bs x.run.chain.place x.fetcher
  pub past : x.run.number ≡ past_eprom → Along mode k bs x.run.chain.place x.fetcher
  pub over : (x.run.number ≡ more → ⊥) → (x.run.number ≡ past_eprom → ⊥) → x.fetcher ≡ end_after mode k bs x.run.number
  pub strays : x.run.number ≡ bad_jump → Far bs

module _ (mode k : ℕ) (e : List ℕ) (two : eqb mode two_preambles ≡ false) (u : Bytes e) where
  way : (n : ℕ) (bs : List ℕ) (c : Chain) (m : List ℕ) (f : Fetcher) → Ready c m f → c.place.mode ≡ mode → Along mode k bs c.place f
      → Way mode k (bs ++ bytes_fetched e n (lent c m f)) (fetch_all e n (lent c m f))
  way zero bs c m f r md a =
      rw (fetch_none e (lent c m f), bytes-none e (lent c m f), append-nil bs)
      (record {
        goes = λ _. a;
        past = λ (q : more ≡ past_eprom). absurd (omega arith);
        over = λ h _. absurd (h refl);
        strays = λ (q : more ≡ bad_jump). absurd (omega arith);
      })
  way (suc n) bs c m f r md a =
      let b : ℕ = byte_at e f in
      by_turn e c f
      (λ l.
      let t = comes_past e n c m f l in
      rw (t.0, t.1, append-nil bs) (record {
        goes = λ (q : past_eprom ≡ more). absurd (omega arith);
        past = λ _. a;
        over = λ _ h. absurd (h refl);
        strays = λ (q : past_eprom ≡ bad_jump). absurd (omega arith);
      }))
      (λ l y.
      let t = comes_strays e n c m f l y in
      rw (t.0, t.1)
      (record {
        goes = λ (q : bad_jump ≡ more). absurd (omega arith);
        past = λ (q : bad_jump ≡ past_eprom). absurd (omega arith);
        over = λ _ _. along_strays mode k b 0 bs c.place f md (astray-at c.place f y) (astray-jumps c.place f y) a;
        strays = λ _. along_far mode k b bs c.place f y a;
      }))
      (λ s g.
      let t = comes_ends e n c m f s g in
      rw (t.0, t.1)
      (record {
        goes = λ q. absurd (g q);
        past = λ q. absurd (never_past c b q);
        over = λ _ _.
            along_ends mode k b 0 (number_of c b) (ne_eqb (number_of c b) bad_jump (never_jump c b)) bs c.place f md (λ z. g (null_more c m b z)) a;
        strays = λ q. absurd (never_jump c b q);
      }))
      (λ s g.
      let t = comes_goes e n c m f s g in
      let w = feed_sound c (length m) r.feeds in
      let few : c.place.device < 8 = omega (arith, w.formed.device_in_chain, w.usable.fits.few) in
      let d : Chain = went_on c m b in
      rw (t.0, t.1, ← append_assoc bs (b ∷ []) (bytes_fetched e n (later e n c m f)))
      (way n (bs ++ (b ∷ [])) d (memory_of c m b) (onward c.place f b) (later_ready e c m f u r s g) ((went_stays c m b).mode ∙ md)
      (along_on mode k b (missed_of c m b) two bs c.place f md few w.formed.awaited_0_to_13.1 a)))

-- ---- the claim

module _ (c : Chain) (f : Fetcher) (m e : List ℕ) (mode n : ℕ) (u : Bytes e) (r : Ready c m f) (md : c.place.mode ≡ mode)
    (d : c.place.device ≡ 0) (a : c.place.awaited ≡ at_preamble) (z : c.place.taken ≡ 0) where
  abbrev bs : List ℕ
  bs = bytes_fetched e n (lent c m f)

  two : eqb mode two_preambles ≡ false
  two = not-two mode (rw (← md) r.mode)

  began : Along mode f.counter [] c.place f
  began = at_0 d a refl

  -- where the counter was at the byte i
  was : (i : ℕ) → i < length bs → (fetch_all e i (lent c m f)).fetcher.counter ≡ counter_after mode f.counter (take i bs)
  was i h =
      let g = front e i n c m f h in
      kept_counter mode f.counter ((way mode f.counter e two u i [] c m f r md began).goes g.0)
      ∙ ap (counter_after mode f.counter) g.1

  as_said : AsSaid mode f.counter n e bs (came (fetch_all e n (lent c m f)))
  unfolding fetched_of
  as_said =
      let w = way mode f.counter e two u n [] c m f r md began in
      record {
        there = λ i h. rw (← was i h) (stands e i n c m f h).0;
        bytes = λ i h. rw (← was i h) (stands e i n c m f h).1;
        taken = taken-all e n c m f (rw z (lit< tt)) ∙ ap (λ (x : ℕ). (x + length bs) % 2 ^ 32) z ∙ ap (λ (x : ℕ). x % 2 ^ 32) (zero-add (length bs));
        all = more-all e n c m f;
        beyond = λ q. rw (← kept_counter mode f.counter (w.past q)) (past_beyond e n c m f q);
        far = w.strays;
        keeps_going = λ q h. kept-all mode f.counter (w.goes q) h;
        past = λ q h. kept-all mode f.counter (w.past q) h;
        over = w.over;
      }

pub counter_as_said : CounterAsSaid ours
counter_as_said c f m e mode check n i k l u =
    let d : Chain = begun c mode check in
    let s = started c m mode check i.sound (fetches-mode mode k) i.is_closed in
    let r : Ready d m f =
    record { registers = i.registers; feeds = begun_feeds c m mode check i.sound (fetches-mode mode k); mode = k; counter = l.counter } in
    subst (λ (x : Chain). AsSaid mode f.counter n e (bytes_fetched e n (lent x m f)) (ours.fetch x f m e n)) (sym (ap (λ (y : Made). y.chain) s))
    (subst (AsSaid mode f.counter n e (bytes_fetched e n (lent d m f))) (sym (fetch_is d f m e n r)) (as_said d f m e mode n u r refl refl refl refl))
