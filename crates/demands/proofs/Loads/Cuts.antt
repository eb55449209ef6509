-- A chain with no run open hands every slice back, so slices whose last one goes on or is accepted were fed to one open run. Assumes nothing.
use Prim.Native.Nat.{ℕ, ◌<◌}
use mathlib.Core.Path.{◌≡◌, refl, ap, sym, subst, ◌∙◌}
use mathlib.Core.List.{List, [], ◌∷◌, ◌++◌}
use native.Mathlib.Omega.{arith}
use lib.ListN.{length, take, length-append}
use lib.Seq.{take-append_seam}
use Rattle.chain.specs.declared.Chain.{Chain}
use Rattle.chain.specs.Paper.{closed, done, more}
use Rattle.chain.specs.State.{feed_number}
use Rattle.chain.proofs.ByCases.{by_eq}
use Rattle.chain.proofs.Sound.{feed_sound, feed_never_more}
use Rattle.machine.specs.declared.Fed.{Fed}
use Rattle.machine.specs.Run.{Run, run, run_of}
use Rattle.machine.specs.Calls.{unfed, slice_memory}
use Rattle.machine.proofs.Feed.{run-append}
use Rattle.grammar.proofs.Runs.Slices.{slice_runs, slice_refused, fed-more, fed-over}
use Rattle.demands.specs.Loader.{AfterSlice}
use Rattle.demands.specs.Demand2.{slices, joined}
use Rattle.demands.specs.Ours.{ours}

-- the front of bytes that leave a run open, as the last of them ends it or not
pub front_open : (c : Chain) (m bs cs : List ℕ) (b : ℕ) (last : List ℕ) → cs ++ (b ∷ last) ≡ bs
    → ((k : ℕ) → k < length bs → (run_of (run c m more) (take k bs)).number ≡ more) → (run_of (run c m more) cs).number ≡ more
front_open c m bs cs b last e f =
    let t : take (length cs) bs ≡ cs = ap (take (length cs)) (sym e) ∙ take-append_seam cs (b ∷ last) in
    ap (λ (l : List ℕ). (run_of (run c m more) l).number) (sym t) ∙ f (length cs) (omega (arith, ap length e, length-append cs (b ∷ last)))

-- ---- a state that takes no bytes

refused : (c : Chain) (m s : List ℕ) → (feed_number c (length m) ≡ done → ⊥)
    → ours.slice c m s ≡ record { fed = unfed c (feed_number c (length m)); memory = m }
refused c m s n = rw ((slice_refused c m s n).0, (slice_refused c m s n).1)

pub slices-refused : (ps : List (List ℕ)) (c : Chain) (m last : List ℕ) → (feed_number c (length m) ≡ done → ⊥)
    → slices ours c m ps last ≡ record { fed = unfed c (feed_number c (length m)); memory = m }
slices-refused [] c m last n = refused c m last n
slices-refused (p ∷ ps) c m last n =
    ap (λ (a : AfterSlice). slices ours a.fed.chain a.memory ps last) (refused c m p n) ∙ slices-refused ps c m last n

-- a run that is over leaves such a state
pub closed_refuses : (c : Chain) (len : ℕ) → c.place.running ≡ closed → feed_number c len ≡ done → ⊥
closed_refuses c len z h = zero_one (sym z ∙ (feed_sound c len h).running)
  where
    zero_one : ◌≡◌ {A = ℕ} 0 1 → ⊥
    zero_one q = omega arith

-- ---- a slice by what its run came to

module _ (c : Chain) (m p : List ℕ) (o : feed_number c (length m) ≡ done) where
  abbrev came : Run
  came = run_of (run c m more) p

  pub slice_goes : came.number ≡ more → ((ours.slice c m p).fed.chain ≡ came.chain) × ((ours.slice c m p).memory ≡ came.memory)
  slice_goes e = (ap (λ (f : Fed). f.chain) (slice_runs c m p o).0 ∙ fed-more came e, (slice_runs c m p o).1)

  pub slice_ends : (came.number ≡ more → ⊥) → (ours.slice c m p).fed.chain.place.running ≡ closed
  slice_ends e = ap (λ (f : Fed). f.chain.place.running) (slice_runs c m p o).0 ∙ ap (λ (d : Chain). d.place.running) (fed-over came e)

-- ---- slices whose last one gives a number that a run alone gives, as 0 and 16 are

module _ (n : ℕ) (own : (c : Chain) (len : ℕ) → feed_number c len ≡ n → feed_number c len ≡ done) where
  -- they were fed to an open run
  slices-fed : (ps : List (List ℕ)) (c : Chain) (m last : List ℕ) → (slices ours c m ps last).fed.answer.number ≡ n → feed_number c (length m) ≡ done
  slices-fed ps c m last h =
      by_eq (feed_number c (length m)) done (λ e. e)
      (λ k. own c (length m) (ap (λ (a : AfterSlice). a.fed.answer.number) (sym (slices-refused ps c m last k)) ∙ h))

  -- which was still open before the last of them
  slices_open : (ps : List (List ℕ)) (c : Chain) (m last : List ℕ) → (slices ours c m ps last).fed.answer.number ≡ n
      → (run_of (run c m more) (joined ps)).number ≡ more
  slices_open [] c m last h = unfold run_of in refl
  slices_open (p ∷ ps) c m last h =
      let o = slices-fed (p ∷ ps) c m last h in
      let r = run_of (run c m more) p in
      by_eq r.number more
      (λ f.
      let w = slice_goes c m p o f in
      let k = slices_open ps r.chain r.memory last
      (subst (λ (l : List ℕ). (slices ours r.chain l ps last).fed.answer.number ≡ n) w.1
      (subst (λ (d : Chain). (slices ours d (slice_memory c m p) ps last).fed.answer.number ≡ n) w.0 h))
      in
      ap (λ (x : Run). x.number) (run-append p (joined ps) (run c m more))
      ∙ ap (λ (j : ℕ). (run_of (run r.chain r.memory j) (joined ps)).number) f ∙ k)
      (λ e.
      let a = ours.slice c m p in
      let k = slices-fed ps a.fed.chain a.memory last h in
      absurd (closed_refuses a.fed.chain (length a.memory) (slice_ends c m p o e) k))

pub slices-done : (ps : List (List ℕ)) (c : Chain) (m last : List ℕ) → (slices ours c m ps last).fed.answer.number ≡ done
    → (run_of (run c m more) (joined ps)).number ≡ more
slices-done = slices_open done (λ c len e. e)

pub slices-more : (ps : List (List ℕ)) (c : Chain) (m last : List ℕ) → (slices ours c m ps last).fed.answer.number ≡ more
    → (run_of (run c m more) (joined ps)).number ≡ more
slices-more = slices_open more (λ c len e. absurd (feed_never_more c len e))
