-- What the code of a block answers is the block's. Assumes nothing.
use Rattle.std.proofs.Common.{◌≡◌, ℕ, Bool, ltb, Option, None, Some, MatchOption, unwrap_or, ◌+◌, ◌-◌, ◌%◌, ◌^◌, ◌<◌, ◌≤◌, true, false, List, length, take, sym, refl, ap, ◌∙◌, arith, ne_eqb}
use Rattle.chain.specs.declared.Chain.{Chain}
use Rattle.chain.specs.declared.Place.{Place}
use Rattle.chain.specs.Rules.{pick}
use Rattle.chain.specs.Paper.{closed, more, past_eprom, bad_jump}
use Rattle.machine.specs.declared.Fed.{Fed}
use Rattle.machine.specs.Run.{run, run_of}
use Rattle.machine.specs.Calls.{fed_of, refuse_of}
use Rattle.eprom.specs.declared.Fetcher.{Fetcher}
use Rattle.eprom.specs.declared.Fetched.{Fetched}
use Rattle.eprom.specs.Counter.{counts, last_count}
use Rattle.eprom.specs.Kept.{with_counter, external_of, jumps, astray}
use Rattle.eprom.specs.Fetch.{Fetching}
use Rattle.eprom.specs.Calls.{lent, fetched_of}
use Rattle.eprom.specs.Steps.{further_of, took_all, settled, kept_by, went_to, ended_to, Going, Block, Over}
use Rattle.eprom.proofs.Own.{run_never_past}
use Rattle.eprom.proofs.Settled.{settled-jumps, no_jump_right}
use Rattle.eprom.proofs.Blocks.{Took, took, took_lost, took-going}

-- an answer of the machine's and a fetcher, as one answer
abbrev pub joined_of : Fed → Fetcher → Fetched
joined_of r f = record { chain = r.chain; answer = r.answer; fetcher = f }

-- where the counter jumps, as the code has it
module _ (p : Place) (f : Fetcher) where
  abbrev JumpsTo : Option ℕ → Type 0
  JumpsTo o = MatchOption o (jumps p f ≡ false) (λ to. (jumps p f ≡ true) × (to ≡ external_of f))

  pub astray_is : (o : Option ℕ) → JumpsTo o → (b : Bool) → MatchOption o (b ≡ false) (λ to. b ≡ ltb last_count to) → b ≡ astray p f
  unfolding astray
  astray_is None h b e = e ∙ rw h
  astray_is (Some to) h b e = e ∙ rw (h.0, h.1)

  pub jump_is : (o : Option ℕ) → JumpsTo o → (k : ℕ) → unwrap_or o k ≡ pick (jumps p f) (external_of f) k
  jump_is None h k = rw h
  jump_is (Some to) h k = rw (h.0, h.1)

-- how many bytes were taken, by the counts before and after
abbrev pub used_of : ℕ → ℕ → ℕ
used_of after before = (after + (2 ^ 32 - before)) % 2 ^ 32

used_is : (p u : ℕ) → p < 2 ^ 32 → u < 2 ^ 32 → used_of ((p + u) % 2 ^ 32) p ≡ u
used_is p u h k = omega arith

module _ (c : Chain) (m : List ℕ) (f : Fetcher) (t : List ℕ) (b : Block c f t) where
  abbrev pub all : Fetching
  all = took_all (lent c m f) t

  -- 19: one byte, and nothing of it
  pub lost : astray c.place f ≡ true → Over all (joined_of (refuse_of c bad_jump) (ended_to c.place f 1 f)) m
  unfolding refuse_of fetched_of
  lost a =
      let e = took_lost c m f t b.some a in
      rw (e, ne_eqb c.place.running closed (λ z. omega (arith, z, b.going.running))) (record { ends = λ z. omega (arith, z); value = refl; memory = refl })

  module _ (a : astray c.place f ≡ false) (low : c.place.taken < 2 ^ 32) where
    abbrev block : Took c m f t
    block = took t c m f b.going b.free a b.some b.most

    abbrev pub fed : Fed
    fed = fed_of (run_of (run c m more) t)

    -- n bytes, as the machine's counts tell
    abbrev pub n : ℕ
    n = used_of fed.answer.taken c.place.taken

    counted : n ≡ block.used
    unfolding fed_of
    counted = ap (λ (x : ℕ). used_of x c.place.taken) block.taken ∙ used_is c.place.taken block.used low (omega (arith, block.most, b.most))

    pub used_low : (n ≤ length t) × (n ≤ counts)
    used_low = (omega (arith, counted, block.most), omega (arith, counted, block.most, b.most))

    -- the run goes on
    pub went_all : fed.answer.number ≡ more → lent fed.chain (run_of (run c m more) t).memory (went_to c.place f n (kept_by c.place f (take n t))) ≡ all
    unfolding fed_of
    went_all h = rw (block.law, counted, h)

    pub went_going : fed.answer.number ≡ more → Going fed.chain (went_to c.place f n (kept_by c.place f (take n t)))
    went_going h =
        let e = went_all h in
        rw (ap (λ (x : Fetching). x.run.chain) e, ap (λ (x : Fetching). x.fetcher) e) (took-going c m f t b (ap (λ (x : Fetching). x.run.number) (sym e)))

    -- or it is over
    pub ended-all : (fed.answer.number ≡ more → ⊥) → Over all (joined_of fed (ended_to c.place f n (kept_by c.place f (take n t)))) (run_of (run c m more) t).memory
    unfolding fed_of fetched_of
    ended-all h =
        let o = ne_eqb (run_of (run c m more) t).number more h in
        rw (block.law, counted, o)
        (record { ends = h; value = rw (o, ne_eqb (run_of (run c m more) t).number past_eprom (run_never_past t c m)); memory = refl })

  -- and where nothing more is kept and no jump is left
  module _ (s : settled c.place f ≡ true) (low : c.place.taken < 2 ^ 32) where
    none_left : jumps c.place f ≡ false
    none_left = settled-jumps c.place f s

    pub right : astray c.place f ≡ false
    right = no_jump_right c.place f none_left

    pub rest_low : (n right low ≤ length t) × (n right low ≤ counts)
    rest_low = used_low right low

    pub rest_all : (fed right low).answer.number ≡ more
        → lent (fed right low).chain (run_of (run c m more) t).memory (with_counter f (further_of c.place.mode f.counter (n right low))) ≡ all
    unfolding kept_by
    rest_all h = rw (s, none_left) at (went_all right low h)

    pub rest_going : (fed right low).answer.number ≡ more → Going (fed right low).chain (with_counter f (further_of c.place.mode f.counter (n right low)))
    unfolding kept_by
    rest_going h = rw (s, none_left) at (went_going right low h)

    pub rest-ended : ((fed right low).answer.number ≡ more → ⊥)
        → Over all (joined_of (fed right low) (ended_to c.place f (n right low) f)) (run_of (run c m more) t).memory
    unfolding kept_by
    rest-ended h = rw s at (ended-all right low h)
