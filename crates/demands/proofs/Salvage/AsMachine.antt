-- Wish 12: the change list says what the machine gives. At offset it stands between windows, as many left as are not kept; later it never does again; and
-- end is its number for the whole stream. Assumes nothing.
use Prim.Native.Nat.{ℕ, ◌+◌, ◌-◌, ◌≤◌}
use mathlib.Core.Bool.{Bool, true, false, not}
use mathlib.Core.Path.{◌≡◌, refl, ap, sym, subst, ◌∙◌}
use mathlib.Core.List.{List, [], ◌∷◌}
use native.Mathlib.Omega.{arith}
use borrow.Author.Tests.{le-ltb, ltb-false, eqb-false}
use lib.Dec.{eqb}
use lib.ListN.{length, get_or, take, replicate, length-map}
use lib.Seq.{take-length}
use Rattle.chain.specs.declared.Chain.{Chain}
use Rattle.chain.specs.declared.Place.{Place}
use Rattle.chain.specs.Paper.{preamble, at_null, at_check, first_mode, done, more}
use Rattle.chain.specs.Rules.{pick}
use Rattle.chain.specs.Kinds.{size_of}
use Rattle.chain.specs.Bytes.{Bytes}
use Rattle.chain.specs.Calls.{fresh_chain}
use Rattle.chain.proofs.Bytes.{bytes-at}
use Rattle.chain.proofs.FirstOf.{first-none}
use Rattle.machine.specs.Run.{Run}
use Rattle.grammar.proofs.Runs.Slices.{fed-number, fed-more}
use Rattle.reader.specs.Stops.{Stop}
use Rattle.reader.specs.Windows.{ReadWindow, windows_of}
use Rattle.reader.specs.Stream.{preamble_at, count_at, head_stop}
use Rattle.reader.specs.Given.{window_in, given_of}
use Rattle.reader.proofs.Streams.{head-one}
use Rattle.reader.proofs.AsMachine.{machine_of, stream_as_machine}
use Rattle.reader.proofs.FrontParts.{front-between, front-within}
use Rattle.salvage.specs.Salvage.{after_all, offset_of, salvage_rules, salvage_number, changes_of}
use Rattle.salvage.proofs.WholeWindows.{alone, few, inside, then_broken}
use Rattle.demands.specs.Loader.{AfterSlice}
use Rattle.demands.specs.Demand3.{load}
use Rattle.demands.specs.OldDisks.{fed_first, place_after, AsMachine, MachineGives}
use Rattle.demands.specs.Ours.{ours}
use Rattle.demands.proofs.Loads.StreamA.{mode-one}
use Rattle.demands.proofs.Loads.LoadRuns.{left, load_is}
use Rattle.demands.proofs.Numbers.ListTables.{new_is}
use Rattle.demands.proofs.Tidy.OnlyAccepted.{idle-fresh}

-- after no windows, where the first would be
after_none : (at : ℕ) (ws : List ReadWindow) → length ws ≡ 0 → after_all at ws ≡ at
after_none at [] e = refl
after_none at (w ∷ ws) e = absurd (omega arith)

module _ (kind : ℕ) (s : List ℕ) (known : size_of kind ≡ 0 → ⊥) where
  -- ---- a write of a front part is the machine's run

  abbrev zeros : List ℕ
  zeros = replicate (size_of kind) 0

  abbrev machine : ℕ → Run
  machine n = machine_of kind (replicate 7 0) first_mode zeros (take n s)

  fed_is : (n : ℕ) → fed_first ours kind s n ≡ left (machine n)
  fed_is n =
      ap (λ (c : Chain). load ours first_mode c zeros (take n s)) (new_is kind known)
      ∙ load_is (fresh_chain 1 (kind ∷ replicate 7 0)) zeros first_mode (idle-fresh kind known).sound mode-one refl (take n s)

  number_is : (n : ℕ) → (fed_first ours kind s n).fed.answer.number ≡ (machine n).number
  number_is n = ap (λ (a : AfterSlice). a.fed.answer.number) (fed_is n) ∙ fed-number (machine n)

  place_is : (n : ℕ) → (machine n).number ≡ more → place_after ours kind s n ≡ (machine n).chain.place
  place_is n e = ap (λ (a : AfterSlice). a.fed.chain.place) (fed_is n) ∙ ap (λ (c : Chain). c.place) (fed-more (machine n) e)

  -- ---- a stream whose first six bytes are in order

  module _ (small : Bytes s) (long : 6 ≤ length s) (begins : eqb (get_or s 0 0) preamble ≡ true) where
    abbrev announced : ℕ
    announced = count_at s 0

    abbrev kept : List ReadWindow
    kept = windows_of (size_of kind) s announced 6

    abbrev rest : ℕ
    rest = announced - length kept

    head : (head_stop first_mode s).number ≡ done
    head = rw (head-one first_mode s (omega arith) begins refl, le-ltb (length s) 6 long)

    all : length kept + rest ≡ announced
    all = omega (arith, few (size_of kind) s announced 6)

    gives : AsMachine ours kind s (changes_of (size_of kind) s done)
    unfolding offset_of given_of preamble_at
    gives =
        let offset : ℕ = offset_of (size_of kind) s in
        let read = (alone (size_of kind) s announced 6).0 in
        let l : offset ≤ length s = inside (size_of kind) s announced 6 long in
        let b = front-between kind (replicate 7 0) first_mode zeros s small (length kept) rest offset all head read l in
        let p = place_is offset b.0 in
        let r : (place_after ours kind s offset).left ≡ rest = ap (λ (q : Place). q.left) p ∙ b.1.left in
        record {
          announced = refl;
          none = λ e. after_none 6 kept (sym (length-map kept (window_in s)) ∙ e);
          inside = l;
          still_open = number_is offset ∙ b.0;
          between = ap (λ (q : Place). q.awaited) p ∙ b.1.awaits ∙ ap (λ (k : ℕ). pick (eqb k 0) at_check at_null) (sym r);
          left = ap (λ (k : ℕ). length (given_of (size_of kind) s) + k) r ∙ ap (λ (k : ℕ). k + rest) (length-map kept (window_in s)) ∙ all;
          later = λ n g h o.
              let e = sym (number_is n) ∙ o in
              let w = front-within kind (replicate 7 0) first_mode zeros s small (length kept) rest offset all head read
              (λ y. then_broken (size_of kind) s announced 6 (omega (arith, all))) n g h e in
              let q = place_is n e in
              rw q (w.past_null, w.in_window, w.left ∙ sym r);
          end =
              number_is (length s)
              ∙ ap (λ (t : List ℕ). (machine_of kind (replicate 7 0) first_mode zeros t).number) (take-length s)
              ∙ sym (ap (λ (e : Stop). e.number) (stream_as_machine kind (replicate 7 0) first_mode zeros s (bytes-at s small)));
        }

pub machine_gives : MachineGives ours
unfolding salvage_number
machine_gives kind s out small z =
    let n = first-none (salvage_rules (size_of kind) s (length out)) done tt z in
    subst (λ (k : ℕ). AsMachine ours kind s (changes_of (size_of kind) s k)) (sym z)
    (gives kind s (eqb-false (size_of kind) 0 n.0) small (ltb-false (length s) 6 n.1.0) (either (eqb (get_or s 0 0) preamble) n.1.1.0))
  where
    either : (b : Bool) → not b ≡ false → b ≡ true
    either true e = refl
    either false e = sym e
