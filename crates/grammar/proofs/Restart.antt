-- A write that was stopped, started afresh: from what its first k bytes left, the same stream is accepted and leaves what the unbroken
-- load leaves. Assumes nothing.
use Prim.Native.Nat.{ℕ}
use mathlib.Core.Bool.{true}
use mathlib.Core.Path.{◌≡◌, refl, sym, ◌∙◌}
use mathlib.Core.List.{List}
use lib.ListN.{length, take}
use Rattle.chain.specs.declared.Chain.{Chain}
use Rattle.chain.specs.Paper.{writing, done, more}
use Rattle.chain.specs.Set.{with_place}
use Rattle.machine.specs.Run.{writes, run, run_of}
use Rattle.machine.specs.Calls.{opened_place}
use Rattle.grammar.specs.Sent.{Sent, Store, memory, registers}
use Rattle.grammar.proofs.OtherRegisters.{with_registers}
use Rattle.grammar.specs.Stores.{walk_of}
use Rattle.grammar.proofs.Walk.{walk_take, put_all, store_of, write_changes, run_stores}
use Rattle.grammar.proofs.Counts.{taken_walk}
use Rattle.grammar.proofs.Accepted.{Accepted, accepted-done}
use Rattle.grammar.proofs.LastByte.{length-put_all, put_all_again}
use Rattle.grammar.proofs.SameWay.{Freer, same_way}
use Rattle.grammar.proofs.NothingBarred.{Unbarred, unbarred_take, freer_put_all}

-- ---- the restart

-- the stream bs from the chain d over m', and from the chain o over m: both accepted, with the same cells and registers after
pub record Restarted (o d : Chain) (m m' bs : List ℕ) : Type 0 where
  pub accepted : Accepted d bs
  pub number : (run_of (run d m' more) bs).number ≡ done
  pub taken : (run_of (run d m' more) bs).chain.place.taken ≡ (run_of (run o m more) bs).chain.place.taken
  pub cells : (run_of (run d m' more) bs).memory ≡ (run_of (run o m more) bs).memory
  pub regs : (run_of (run d m' more) bs).chain.registers ≡ (run_of (run o m more) bs).chain.registers

-- what a write leaves of a store, and what its first k bytes leave
pub load_puts : (k : Store) (bs : List ℕ) (o : Chain) (m : List ℕ) → writes o ≡ true
    → store_of k (run_of (run o m more) bs) ≡ put_all k (walk_of o bs) (store_of k (run o m more))
load_puts k bs o m w = run_stores k bs o m ∙ rw (write_changes k o w)

pub stop_puts : (k : Store) (n : ℕ) (bs : List ℕ) (o : Chain) (m : List ℕ) → writes o ≡ true
    → store_of k (run_of (run o m more) (take n bs)) ≡ put_all k (take n (walk_of o bs)) (store_of k (run o m more))
stop_puts k n bs o m w = rw (← walk_take n bs o) (load_puts k (take n bs) o m w)

module _ (o : Chain) (m bs : List ℕ) (w : writes o ≡ true) (z : o.place.taken ≡ 0) (a : Accepted o bs) where
  -- from registers and a memory into which the first k bytes were put
  restart_from : (k : ℕ) (g m' : List ℕ) → Unbarred (walk_of o bs)
      → g ≡ put_all registers (take k (walk_of o bs)) o.registers → m' ≡ put_all memory (take k (walk_of o bs)) m
      → Restarted o (with_registers o g) m m' bs
  restart_from k g m' u p q =
      let f : Freer o.registers g = rw p (freer_put_all (take k (walk_of o bs)) o.registers (unbarred_take k (walk_of o bs) u)) in
      let l : length g ≡ length o.registers = rw p (length-put_all registers (take k (walk_of o bs)) o.registers) in
      let s = same_way bs o g w a l f in
      record {
        accepted = s.0;
        number = accepted-done bs (with_registers o g) m' s.0;
        taken = taken_walk bs (with_registers o g) m' z ∙ rw s.1 (sym (taken_walk bs o m z));
        cells = load_puts memory bs (with_registers o g) m' w ∙ rw (s.1, q, put_all_again memory k (walk_of o bs) m) (sym (load_puts memory bs o m w));
        regs = load_puts registers bs (with_registers o g) m' w ∙ rw (s.1, p, put_all_again registers k (walk_of o bs) o.registers) (sym (load_puts registers bs o m w));
      }

-- a stream started as a write and stopped after k bytes; d is any chain with its devices and the registers that the stop left
pub restart : (c d : Chain) (mode : ℕ) (m bs : List ℕ) (k : ℕ) (xs : List Sent)
    → Accepted (with_place c (opened_place mode writing)) bs → walk_of (with_place c (opened_place mode writing)) bs ≡ xs → Unbarred xs
    → d.count ≡ c.count → d.kinds ≡ c.kinds
    → d.registers ≡ (run_of (run (with_place c (opened_place mode writing)) m more) (take k bs)).chain.registers
    → Restarted (with_place c (opened_place mode writing)) (with_place d (opened_place mode writing))
    m (run_of (run (with_place c (opened_place mode writing)) m more) (take k bs)).memory bs
restart c d mode m bs k xs a s u n ks g =
    rw (n, ks)
    (restart_from (with_place c (opened_place mode writing)) m bs refl refl a k d.registers
    (run_of (run (with_place c (opened_place mode writing)) m more) (take k bs)).memory
    (rw s u) (g ∙ stop_puts registers k bs (with_place c (opened_place mode writing)) m refl) (stop_puts memory k bs (with_place c (opened_place mode writing)) m refl))
