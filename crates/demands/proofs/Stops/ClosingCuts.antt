-- The closing bytes of an open run: the call offers them, they end the run at their last one, and cut into slices in any way they do what
-- they do as one slice. Assumes nothing.
use Prim.Native.Nat.{ℕ, ◌+◌, ◌<◌, ◌≤◌}
use mathlib.Core.Path.{◌≡◌, refl, ap, sym, subst, ◌∙◌}
use mathlib.Core.List.{List, [], ◌∷◌, ◌++◌}
use native.Mathlib.Omega.{arith}
use lib.ListN.{length, take, drop}
use lib.Seq.{take-append_seam}
use borrow.Author.Tests.{eq-eqb}
use Rattle.chain.specs.declared.Chain.{Chain}
use Rattle.chain.specs.Paper.{done, more}
use Rattle.chain.specs.Kinds.{size_here}
use Rattle.chain.proofs.Sound.{feed_is_open}
use Rattle.machine.specs.Run.{run, run_of}
use Rattle.closing.specs.Closing.{closing_bytes}
use Rattle.closing.specs.Calls.{written_number}
use Rattle.closing.proofs.Closes.{closes, room_enough}
use Rattle.closing.proofs.AreBytes.{closing_are_bytes}
use Rattle.chain.specs.Bytes.{Bytes}
use Rattle.demands.specs.Loader.{offered, Open}
use Rattle.demands.specs.Demand2.{slices, joined}
use Rattle.demands.specs.Ours.{ours}
use Rattle.chain.proofs.Bytes.{bytes-front, bytes_take}
use Rattle.demands.proofs.Loads.Cuts.{front_open}
use Rattle.demands.proofs.Loads.LoadRuns.{open_front, slices_join}

-- the bytes cs end the open run of s, at exactly their last, and change no cell and no register
pub record Shuts (s : Chain) (m cs : List ℕ) : Type 0 where
  pub ends : (run_of (run s m more) cs).number ≡ more → ⊥
  pub late : (j : ℕ) → j < length cs → (run_of (run s m more) (take j cs)).number ≡ more
  pub cells : (run_of (run s m more) cs).memory ≡ m
  pub regs : (run_of (run s m more) cs).chain.registers ≡ s.registers

-- ---- the call

-- where the call answers 0, what it offers are the closing bytes
pub offers : (s : Chain) (m out : List ℕ) → (ours.closing s m out).written.number ≡ done → offered (ours.closing s m out) ≡ closing_bytes s m
offers s m out e = rw (eq-eqb (written_number s m (length out)) done e) (take-append_seam (closing_bytes s m) (drop (length (closing_bytes s m)) out))

pub shuts : (s : Chain) (m : List ℕ) → Open s m → Shuts s m (closing_bytes s m)
shuts s m o =
    let c = closes s m o.kinds (feed_is_open s (length m) o.sound) in
    record { ends = λ e. c.over (sym c.number ∙ e); late = c.late; cells = c.memory; regs = c.registers }

pub room : (s : Chain) (m out : List ℕ) → Open s m → size_here s + 3 ≤ length out → (ours.closing s m out).written.number ≡ done
room s m out o e = room_enough s m (length out) o.kinds (feed_is_open s (length m) o.sound) e

-- ---- cut into slices

module _ (s : Chain) (m : List ℕ) (o : Open s m) where
  all_small : Bytes (closing_bytes s m)
  all_small = closing_are_bytes s m o.register_bytes o.memory_bytes

  pub closing-cut : (ps : List (List ℕ)) (b : ℕ) (last : List ℕ) → joined ps ++ (b ∷ last) ≡ closing_bytes s m
      → slices ours s m ps (b ∷ last) ≡ ours.slice s m (closing_bytes s m)
  closing-cut ps b last e =
      slices_join ps s m (b ∷ last) o.sound o.registers (bytes-front (joined ps) (b ∷ last) (subst Bytes (sym e) all_small))
      (front_open s m (closing_bytes s m) (joined ps) b last e (shuts s m o).late)
      ∙ ap (λ (x : List ℕ). ours.slice s m x) e

  pub closing_part : (j : ℕ) → j < length (closing_bytes s m) → (ps : List (List ℕ)) (last : List ℕ) → joined ps ++ last ≡ take j (closing_bytes s m)
      → slices ours s m ps last ≡ ours.slice s m (take j (closing_bytes s m))
  closing_part j l ps last e =
      slices_join ps s m last o.sound o.registers (bytes-front (joined ps) last (subst Bytes (sym e) (bytes_take j (closing_bytes s m) all_small)))
      (open_front (joined ps) last (run s m more) (ap (λ (x : List ℕ). (run_of (run s m more) x).number) e ∙ (shuts s m o).late j l))
      ∙ ap (λ (x : List ℕ). ours.slice s m x) e

  -- there is one at least
  pub closing-some : 0 < length (closing_bytes s m)
  closing-some = some (closing_bytes s m) (shuts s m o).ends
    where
      some : (cs : List ℕ) → ((run_of (run s m more) cs).number ≡ more → ⊥) → 0 < length cs
      some [] h = absurd (h (unfold run_of in refl))
      some (b ∷ cs) h = omega arith
