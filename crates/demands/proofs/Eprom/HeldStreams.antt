-- A stream that fits and that the EPROM holds where the counter goes: ours fetches its bytes, no fewer and no more, and so it loads. Assumes nothing.
use Prim.Native.Nat.{ℕ, zero, suc, ◌≤◌, ◌<◌}
use mathlib.Core.Bool.{true, false≢true}
use mathlib.Core.Path.{◌≡◌, refl, ap, sym, subst, ◌∙◌}
use mathlib.Core.List.{List, [], ◌∷◌, ◌++◌}
use native.Mathlib.Omega.{arith}
use borrow.Author.Tests.{ltb-true, ltb-false}
use lib.Dec.{ltb}
use lib.ListN.{length, get_or, take, drop, take-append-drop}
use lib.Seq.{take-suc, take_all}
use Rattle.chain.specs.declared.Chain.{Chain}
use Rattle.chain.specs.declared.Made.{Made}
use Rattle.chain.specs.Paper.{done, more, past_eprom, bad_jump}
use Rattle.chain.proofs.ByCases.{by_test, by_eq}
use Rattle.grammar.specs.Sent.{bytes_of}
use Rattle.grammar.specs.Stream.{stream_sent}
use Rattle.grammar.proofs.StreamShort.{bytes_long}
use Rattle.eprom.specs.declared.Fetcher.{Fetcher}
use Rattle.eprom.specs.Counter.{last_count}
use Rattle.eprom.specs.Fetch.{bytes_fetched}
use Rattle.eprom.specs.Calls.{lent}
use Rattle.eprom.proofs.Again.{Ready}
use Rattle.eprom.proofs.Parts.{front}
use Rattle.demands.specs.Loader.{AfterFetch}
use Rattle.demands.specs.Demand2.{Seen}
use Rattle.demands.specs.EpromBoards.{as_slice}
use Rattle.demands.specs.EpromCounter.{address_in, jumps_in, counter_after, AsSaid}
use Rattle.demands.specs.EpromStreams.{Holds, HeldBoots}
use Rattle.demands.specs.Ours.{ours}
use Rattle.demands.proofs.Demand2.{demand2}
use Rattle.demands.proofs.Loads.LoadRuns.{begun_feeds, started}
use Rattle.demands.proofs.Loads.OneSlice.{whole_seen, part_seen}
use Rattle.demands.proofs.Eprom.ReadyRuns.{fetch_number_lem}
use Rattle.demands.proofs.Eprom.FetchedAsFed.{ready_as_fed, as_slice_lem}
use Rattle.demands.proofs.Eprom.BootLoads.{fetches-mode}
use Rattle.demands.proofs.Eprom.CounterAsSaid.{counter_as_said}

-- a jump in a front part of a stream is the stream's
jump_front : (q rest : List ℕ) → jumps_in q ≡ true → (jumps_in (q ++ rest) ≡ true) × (address_in (q ++ rest) ≡ address_in q)
jump_front [] rest h = absurd (false≢true h)
jump_front (a ∷ []) rest h = absurd (false≢true h)
jump_front (a ∷ b ∷ []) rest h = absurd (false≢true h)
jump_front (a ∷ b ∷ c ∷ []) rest h = absurd (false≢true h)
jump_front (a ∷ b ∷ c ∷ d ∷ []) rest h = absurd (false≢true h)
jump_front (a ∷ b ∷ c ∷ d ∷ e ∷ []) rest h = absurd (false≢true h)
jump_front (a ∷ b ∷ c ∷ d ∷ e ∷ f ∷ []) rest h = absurd (false≢true h)
jump_front (a ∷ b ∷ c ∷ d ∷ e ∷ f ∷ g ∷ q) rest h = (h, refl)

-- d is a chain with its run started, bs a stream that ends it, accepted, at its last byte
module _ (d : Chain) (f : Fetcher) (m e : List ℕ) (mode n : ℕ) (bs : List ℕ) (r : Ready d m f)
    (said : AsSaid mode f.counter n e (bytes_fetched e n (lent d m f)) (ours.fetch d f m e n))
    (h : Holds mode f.counter e bs) (long : length bs ≤ n)
    (whole : (ours.slice d m bs).fed.answer.number ≡ done)
    (part : (k : ℕ) → k < length bs → (ours.slice d m (take k bs)).fed.answer.number ≡ more) where
  abbrev q : List ℕ
  q = bytes_fetched e n (lent d m f)

  abbrev a : AfterFetch
  a = ours.fetch d f m e n

  -- as far as both go they are the same
  agree : (j : ℕ) → j ≤ length q → j ≤ length bs → take j q ≡ take j bs
  agree zero u v = refl
  agree (suc j) u v =
      let same = agree j (omega arith) (omega arith) in
      let byte : get_or q j 0 ≡ get_or bs j 0 =
      said.bytes j u ∙ ap (λ (t : List ℕ). get_or e (counter_after mode f.counter t) 0) same ∙ h.bytes j v in
      take-suc q j 0 u ∙ ap (λ (t : List ℕ). t ++ (get_or q j 0 ∷ [])) same ∙ ap (λ (b : ℕ). take j bs ++ (b ∷ [])) byte ∙ sym (take-suc bs j 0 v)

  -- no fewer: 16 would have them all, 18 would find the next one, 19 is not far, and no other number comes before the stream's end
  not_short : length q < length bs → ⊥
  not_short u =
      let front_is : q ≡ take (length q) bs = sym (take_all (length q) q (omega arith)) ∙ agree (length q) (omega arith) (omega arith) in
      let fed = ready_as_fed d f m e n r in
      let open-there : (ours.slice d m q).fed.answer.number ≡ more =
      ap (λ (t : List ℕ). (ours.slice d m t).fed.answer.number) front_is ∙ part (length q) u in
      by_eq a.fetched.answer.number more (λ i. let w = said.all i in omega arith)
      (λ n16.
      by_eq a.fetched.answer.number past_eprom
      (λ i.
      let w = said.beyond i in
      let v = h.there (length q) u in
      let s : counter_after mode f.counter q ≡ counter_after mode f.counter (take (length q) bs) = ap (counter_after mode f.counter) front_is in
      omega arith)
      (λ n18.
      by_eq a.fetched.answer.number bad_jump
      (λ i.
      let w = said.far i in
      let joined : q ++ drop (length q) bs ≡ bs = ap (λ (t : List ℕ). t ++ drop (length q) bs) front_is ∙ take-append-drop (length q) bs in
      let j = jump_front q (drop (length q) bs) w.0 in
      let v : address_in bs ≤ last_count = h.near (sym (ap jumps_in joined) ∙ j.0) in
      let s : address_in q ≡ address_in bs = sym j.1 ∙ ap address_in joined in
      let t : last_count < address_in q = w.1 in
      omega (arith, s, t, v))
      (λ n19. n16 (fed.number n18 n19 ∙ open-there))))

  -- no more: the run was over with the stream's last byte
  not_long : length bs < length q → ⊥
  not_long u =
      let w = front e (length bs) n d m f u in
      let fed = ready_as_fed d f m e (length bs) r in
      let i : (ours.fetch d f m e (length bs)).fetched.answer.number ≡ more = fetch_number_lem d f m e (length bs) r ∙ w.0 in
      let all : bytes_fetched e (length bs) (lent d m f) ≡ bs =
      w.1 ∙ agree (length bs) (omega arith) (omega arith) ∙ take_all (length bs) bs (omega arith) in
      let z : more ≡ done =
      sym i ∙ fed.number (λ p. omega arith) (λ p. omega arith) ∙ ap (λ (t : List ℕ). (ours.slice d m t).fed.answer.number) all ∙ whole in
      omega arith

  pub just_these : q ≡ bs
  just_these =
      by_test (ltb (length q) (length bs)) (λ u. absurd (not_short (ltb-true (length q) (length bs) u)))
      (λ u.
      by_test (ltb (length bs) (length q)) (λ v. absurd (not_long (ltb-true (length bs) (length q) v)))
      (λ v.
      let x = ltb-false (length q) (length bs) u in
      let y = ltb-false (length bs) (length q) v in
      sym (take_all (length q) q (omega arith)) ∙ agree (length q) (omega arith) (omega arith) ∙ take_all (length q) bs (omega arith)))

  pub as_fed : as_slice a ≡ ours.slice d m bs
  as_fed =
      let fed = ready_as_fed d f m e n r in
      let over : (ours.slice d m q).fed.answer.number ≡ done = ap (λ (t : List ℕ). (ours.slice d m t).fed.answer.number) just_these ∙ whole in
      as_slice_lem a (ours.slice d m q) fed (λ i. let w = fed.past i in omega arith) (λ i. let w = fed.jump i in omega arith)
      ∙ ap (ours.slice d m) just_these

pub held_boots : HeldBoots ours
held_boots c f m e check mode n s ss i k l u fits h long =
    let mo = fetches-mode mode k in
    let z = started c m mode check i.sound mo i.is_closed in
    let r : Ready (ours.start c m mode check).chain m f =
    subst (λ (y : Made). Ready y.chain m f) (sym z)
    (record { registers = i.registers; feeds = begun_feeds c m mode check i.sound mo; mode = k; counter = l.counter }) in
    let xs = stream_sent c mode s ss in
    let many : length (bytes_of xs) ≡ length xs = bytes_long xs in
    let seen = whole_seen ours demand2.a c m check mode s ss i mo fits in
    let said = counter_as_said c f m e mode check n i k l u in
    let part : (j : ℕ) → j < length (bytes_of xs) → (ours.slice (ours.start c m mode check).chain m (take j (bytes_of xs))).fed.answer.number ≡ more =
    λ j v. (part_seen ours demand2.a c m check mode s ss i mo fits j (omega (arith, many, v))).number in
    let d = (ours.start c m mode check).chain in (
      just_these d f m e mode n (bytes_of xs) r said h (omega arith) seen.number part,
      subst (Seen check c m xs done) (sym (as_fed d f m e mode n (bytes_of xs) r said h (omega arith) seen.number part)) seen,
    )
