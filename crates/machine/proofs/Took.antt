-- Front bytes of a slice are taken: none, some and then others, a block, and the five before a window's data. Assumes nothing.
use Rattle.std.proofs.Common.{◌≡◌, ℕ, ◌+◌, ◌-◌, ◌*◌, ◌≤◌, true, List, ◌∷◌, [], length, get_or, take, drop, refl, ap, ◌∙◌, arith, length-drop}
use Rattle.std.specs.declared.ops.ControlFlow.TheVariants.{Break}
use Rattle.chain.specs.declared.Chain.{Chain}
use Rattle.chain.specs.Kinds.{size_here}
use Rattle.chain.specs.Paper.{at_null, more}
use Rattle.chain.specs.Set.{with_place}
use Rattle.chain.specs.Window.{fits_of}
use Rattle.machine.specs.declared.Fed.{Fed}
use Rattle.machine.specs.Run.{Run, run, step_of, run_of}
use Rattle.machine.specs.Block.{headed_of, Took, Comes}
use Rattle.machine.proofs.Feed.{run-front, run-over, lent-rest}
use Rattle.machine.proofs.Header.{header_part}

pub took_none : (c : Chain) (m s : List ℕ) → Took c m s c m s
took_none c m s = record { same_run = refl; no_longer = omega arith }

pub took_both : {c d e : Chain} {m m' m'' s t u : List ℕ} → Took c m s d m' t → Took d m' t e m'' u → Took c m s e m'' u
took_both x y = record { same_run = x.same_run ∙ y.same_run; no_longer = omega (arith, x.no_longer, y.no_longer) }

pub took_front : (c d : Chain) (m m' s : List ℕ) (k : ℕ) → run_of (run c m more) (take k s) ≡ run d m' more → Took c m s d m' (drop k s)
took_front c d m m' s k e = record { same_run = run-front c m s k _ e; no_longer = omega (arith, length-drop k s) }

-- all of them, one, and the last of a run
module _ {c d : Chain} {m m' s t : List ℕ} (x : Took c m s d m' t) where
  pub took_all : length t ≡ 0 → run_of (run c m more) s ≡ run d m' more
  unfolding run_of
  took_all e = x.same_run ∙ ap (run_of (run d m' more)) (none t e)
    where
      none : (t : List ℕ) → length t ≡ 0 → t ≡ []
      none [] e = refl
      none (b ∷ bs) e = absurd (omega (arith, e))

  pub took_step : (e : Chain) (m'' u : List ℕ) (b : ℕ) → t ≡ b ∷ u → step_of d m' b ≡ run e m'' more → Took c m s e m'' u
  unfolding step_of run_of
  took_step e m'' u b h k = record { same_run = x.same_run ∙ ap (run_of (run d m' more)) h ∙ ap (λ (r : Run). run_of r u) k; no_longer = omega (arith, x.no_longer, ap length h) }

  pub took_last : (f : Fed) (m'' u : List ℕ) (b : ℕ) → t ≡ b ∷ u → Comes (Break f) m'' (step_of d m' b) → Comes (Break f) m'' (run_of (run c m more) s)
  unfolding step_of run_of
  took_last f m'' u b h k =
      let e : run_of (run c m more) s ≡ step_of d m' b = x.same_run ∙ ap (run_of (run d m' more)) h ∙ run-over u (step_of d m' b) k.0 in
      rw e k

-- five bytes, where the window fits
pub took_header : (c : Chain) (m s : List ℕ) (start end : ℕ) → 5 ≤ length s → c.place.awaited ≡ at_null
    → start ≡ get_or s 1 0 * 256 + get_or s 2 0 → end ≡ get_or s 3 0 * 256 + get_or s 4 0
    → fits_of (size_here c) start end ≡ true
    → Took c m s (with_place c (headed_of c.place start end)) m (take (length s - 5) (drop 5 s))
took_header c m s start end h e a z f =
    rw (lent-rest s 5) (took_front c (with_place c (headed_of c.place start end)) m m s 5 (header_part c m s 0 start end h e a z f))
