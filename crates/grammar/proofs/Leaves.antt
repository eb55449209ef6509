-- What a run from its start leaves, once its walk is known: the same devices, the bytes of the walk taken, each register with the last byte
-- sent to it, in a write each cell likewise, in a check all cells as they were and the data bytes unlike them counted. Assumes nothing.
use Prim.Native.Nat.{ℕ, ◌%◌, ◌+◌, ◌^◌, ◌<◌}
use mathlib.Core.Bool.{Bool, true, false}
use mathlib.Core.Path.{◌≡◌, refl, ap, ◌∙◌}
use mathlib.Core.List.{List, []}
use native.Mathlib.Nat.{mod-eq_of_lt, zero-add}
use native.Mathlib.Omega.{arith}
use lib.Dec.{eqb, lit<}
use lib.ListN.{length, get_or}
use Rattle.chain.specs.declared.Chain.{Chain}
use Rattle.chain.specs.Paper.{writing, more}
use Rattle.chain.specs.Rules.{pick}
use Rattle.chain.specs.Set.{with_place}
use Rattle.chain.proofs.ByCases.{by_test}
use Rattle.awaited.specs.Byte.{checks}
use Rattle.machine.specs.Run.{writes, Run, run, run_of}
use Rattle.machine.specs.Calls.{opened_place}
use Rattle.machine.proofs.Runs.{run_lasts}
use Rattle.grammar.specs.Sent.{Sent, memory, registers, last_to, unlikes}
use Rattle.grammar.specs.Stores.{walk_of}
use Rattle.grammar.proofs.Walk.{put_all, run_stores}
use Rattle.grammar.proofs.LastByte.{get_or-put_all}
use Rattle.grammar.proofs.StreamShort.{unlikes_few}
use Rattle.grammar.proofs.Counts.{taken_walk, check-counts, write_counts}

pub record Leaves (check : ℕ) (c : Chain) (m : List ℕ) (xs : List Sent) (r : Run) : Type 0 where
  pub count : r.chain.count ≡ c.count
  pub kinds : r.chain.kinds ≡ c.kinds
  pub taken : r.chain.place.taken ≡ length xs
  pub mismatches : r.chain.place.mismatches ≡ pick (eqb check writing) 0 (unlikes m xs)
  pub cells : (i : ℕ) → i < length m → get_or r.memory i 0 ≡ pick (eqb check writing) (last_to memory xs i (get_or m i 0)) (get_or m i 0)
  pub cells_many : length r.memory ≡ length m
  pub regs : (d : ℕ) → d < length c.registers
      → get_or r.chain.registers d 0 ≡ last_to registers xs d (get_or c.registers d 0)
  pub regs_many : length r.chain.registers ≡ length c.registers

-- memory after a write, and after a check
module _ (xs : List Sent) (l : List ℕ) where
  stored : (q : Bool) (i : ℕ) → i < length l
      → get_or (put_all memory (pick q xs []) l) i 0 ≡ pick q (last_to memory xs i (get_or l i 0)) (get_or l i 0)
  stored true i h = get_or-put_all memory xs l i h
  stored false i h = refl

module _ (check mode : ℕ) (c : Chain) (m bs : List ℕ) (xs : List Sent) where
  abbrev begun : Chain
  begun = with_place c (opened_place mode check)

  -- the sort of run
  writes_is : writes begun ≡ eqb check writing
  writes_is = by_test (eqb check writing) (λ e. rw e) (λ e. rw e)

  checks_is : eqb check writing ≡ false → checks begun ≡ true
  checks_is e = rw e

  module _ (s : walk_of begun bs ≡ xs) where
    memory_is : (run_of (run begun m more) bs).memory ≡ put_all memory (pick (eqb check writing) xs []) m
    memory_is =
        run_stores memory bs begun m
        ∙ ap (λ (q : Bool). put_all memory (pick q (walk_of begun bs) []) m) writes_is
        ∙ ap (λ (ys : List Sent). put_all memory (pick (eqb check writing) ys []) m) s

    registers_are : (run_of (run begun m more) bs).chain.registers ≡ put_all registers xs c.registers
    registers_are = run_stores registers bs begun m ∙ ap (λ (ys : List Sent). put_all registers ys c.registers) s

    missed : length xs < 2 ^ 32 → (run_of (run begun m more) bs).chain.place.mismatches ≡ pick (eqb check writing) 0 (unlikes m xs)
    missed h =
        by_test (eqb check writing)
        (λ e. write_counts bs begun m (writes_is ∙ e) (lit< tt) ∙ rw e)
        (λ e.
        let few : unlikes m xs < 2 ^ 32 = omega (arith, unlikes_few m xs) in
        check-counts bs begun m (checks_is e) (lit< tt)
        ∙ ap (λ (ys : List Sent). (0 + unlikes m ys) % 2 ^ 32) s
        ∙ rw (zero-add (unlikes m xs), e) (mod-eq_of_lt few))

    pub leaves : length xs < 2 ^ 32 → Leaves check c m xs (run_of (run begun m more) bs)
    leaves h =
        let l = run_lasts bs (run begun m more) in
        record {
          count = l.count;
          kinds = l.kinds;
          taken = taken_walk bs begun m refl ∙ ap (λ (ys : List Sent). length ys % 2 ^ 32) s ∙ mod-eq_of_lt h;
          mismatches = missed h;
          cells = λ i g. ap (λ (x : List ℕ). get_or x i 0) memory_is ∙ stored xs m (eqb check writing) i g;
          cells_many = l.memory;
          regs = λ d g. ap (λ (x : List ℕ). get_or x d 0) registers_are ∙ get_or-put_all registers xs c.registers d g;
          regs_many = l.registers;
        }
