-- The closing bytes are the shortest way out of every open run: fewer bytes, in whatever cut, leave it open, whatever else they do. Assumes
-- nothing.
use Prim.Native.Nat.{ℕ, ◌≤◌, ◌<◌}
use mathlib.Core.Path.{◌≡◌, ap, sym, subst, ◌∙◌}
use mathlib.Core.List.{List, [], ◌∷◌, ◌++◌, append_assoc}
use native.Mathlib.Omega.{arith}
use lib.ListN.{length, length-append}
use Rattle.chain.specs.declared.Chain.{Chain}
use Rattle.chain.specs.Paper.{most_devices, done, more}
use Rattle.chain.specs.Bytes.{Bytes}
use Rattle.chain.specs.State.{feed_number}
use Rattle.chain.proofs.ByCases.{by_eq}
use Rattle.chain.proofs.Bytes.{bytes-front, bytes_rest}
use Rattle.machine.specs.Run.{run, run_of}
use Rattle.machine.specs.Calls.{slice_memory}
use Rattle.machine.proofs.Runs.{run_lasts}
use Rattle.grammar.proofs.Runs.Keeps.{run_open}
use Rattle.grammar.proofs.Runs.Slices.{slice_number_lem, fed-over, fed-number}
use Rattle.closing.specs.Closing.{closing_bytes}
use Rattle.closing.proofs.Least.{least, run_needs}
use Rattle.closing.proofs.NoneShorter.{closing-least}
use Rattle.demands.specs.Loader.{AfterSlice, Open}
use Rattle.demands.specs.Demand2.{slices, joined}
use Rattle.demands.specs.Shortest.{WayOut, Shortest}
use Rattle.demands.specs.Ours.{ours}
use Rattle.demands.proofs.Loads.Cuts.{slice_goes, slice_ends}
use Rattle.demands.proofs.Loads.LoadRuns.{slice_is}
use Rattle.demands.proofs.Stops.ClosingCuts.{offers, shuts, room, closing-cut, closing-some}

-- ---- bytes that end a run, cut into slices in any way, are as many as it needs

abbrev needed : (ps : List (List ℕ)) (last : List ℕ) → Chain → Type 0
needed ps last c = least c ≤ length (joined ps ++ last)

slices_need : (ps : List (List ℕ)) (c : Chain) (m last : List ℕ) → feed_number c (length m) ≡ done → length c.registers ≡ most_devices
    → Bytes (joined ps ++ last) → ((slices ours c m ps last).fed.answer.number ≡ more → ⊥) → needed ps last c
slices_need [] c m last o e small n = (run_needs last small c m).ends (λ h. n (slice_number_lem c m last o ∙ h))
slices_need (p ∷ ps) c m last o e small n =
    let r = run_of (run c m more) p in
    let all = length-append p (joined ps ++ last) in
    let split = append_assoc p (joined ps) last in
    let cut : Bytes (p ++ (joined ps ++ last)) = subst Bytes split small in
    let front = bytes-front p (joined ps ++ last) cut in
    by_eq r.number more
    (λ f.
    let w = slice_goes c m p o f in
    let rest = slices_need ps r.chain r.memory last (run_open c m p front e o f) ((run_lasts p (run c m more)).registers ∙ e)
    (bytes_rest p (joined ps ++ last) cut)
    (subst (λ (l : List ℕ). (slices ours r.chain l ps last).fed.answer.number ≡ more → ⊥) w.1
    (subst (λ (d : Chain). (slices ours d (slice_memory c m p) ps last).fed.answer.number ≡ more → ⊥) w.0 n))
    in
    omega (arith, all, ap length split, rest, (run_needs p front c m).goes f))
    (λ f. omega (arith, all, ap length split, (run_needs p front c m).ends f))

-- so fewer leave it open
pub shorter_goes_on : (c : Chain) (m : List ℕ) → Open c m → (ps : List (List ℕ)) (last : List ℕ) → Bytes (joined ps ++ last)
    → length (joined ps ++ last) < length (closing_bytes c m) → (slices ours c m ps last).fed.answer.number ≡ more
shorter_goes_on c m o ps last small l =
    by_eq (slices ours c m ps last).fed.answer.number more (λ e. e)
    (λ n. absurd (few (slices_need ps c m last o.sound o.registers small n)))
  where
    few : needed ps last c → ⊥
    few h = omega (arith, closing-least c m, h)

-- ---- the closing bytes

module _ (c : Chain) (m : List ℕ) (o : Open c m) where
  led : WayOut c m (ours.slice c m (closing_bytes c m))
  led =
      let r = run_of (run c m more) (closing_bytes c m) in
      let s = shuts c m o in
      subst (WayOut c m) (sym (slice_is c m (closing_bytes c m) o.sound))
      (record {
        ends = λ h. s.ends (sym (fed-number r) ∙ h);
        cells = s.cells;
        registers = ap (λ (d : Chain). d.registers) (fed-over r s.ends) ∙ s.regs;
      })

pub shortest : Shortest ours
shortest =
    record {
      room = λ c m out o l. room c m out o l;
      shortest = λ c m out o e.
          let is = offers c m out e in
          record {
            some = omega (arith, ap length is, closing-some c m o);
            leads = λ ps b last h. subst (WayOut c m) (sym (closing-cut c m o ps b last (h ∙ is))) (led c m o);
            shuts = λ ps b last h.
                ap (λ (a : AfterSlice). a.fed.chain.place.running) (closing-cut c m o ps b last (h ∙ is))
                ∙ slice_ends c m (closing_bytes c m) o.sound (shuts c m o).ends;
            none_shorter = λ ps last small h.
                omega (arith, ap length is, closing-least c m, slices_need ps c m last o.sound o.registers small h.ends);
          };
    }
