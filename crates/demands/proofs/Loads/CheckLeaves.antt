-- The second demand, clause (f): a check changes no cell, leaves the control bytes that were taken, and as far as it goes on the registers that a
-- write of the same bytes leaves, in any cut. And what follows for any loader: B3 of every register is as it was. Assumes nothing.
use Prim.Native.Nat.{ℕ, ◌<◌}
use mathlib.Core.Bool.{false}
use mathlib.Core.Path.{◌≡◌, refl, ap, sym, ◌∙◌}
use mathlib.Core.List.{List, [], ◌∷◌, ◌++◌, append_assoc}
use lib.Dec.{eqb}
use lib.ListN.{length, get_or}
use Rattle.chain.specs.declared.Chain.{Chain}
use Rattle.chain.specs.declared.Made.{Made}
use Rattle.chain.specs.Paper.{writing, checking, most_devices, done, more, B3}
use Rattle.chain.specs.Bytes.{Bytes}
use Rattle.chain.specs.State.{feed_number}
use Rattle.chain.proofs.ByCases.{by_eq}
use Rattle.chain.proofs.Bytes.{bytes-front, bytes_rest}
use Rattle.machine.specs.Run.{Run, run, run_of}
use Rattle.machine.proofs.Feed.{run-append, run-over}
use Rattle.machine.proofs.Runs.{run_lasts}
use Rattle.grammar.specs.Sent.{registers}
use Rattle.grammar.specs.Stores.{walk_of}
use Rattle.grammar.proofs.Walk.{put_all, run_stores}
use Rattle.grammar.proofs.LastByte.{get_or-put_all, length-put_all}
use Rattle.grammar.proofs.Runs.Keeps.{run_open}
use Rattle.grammar.proofs.Runs.Kept.{check-cells}
use Rattle.grammar.proofs.Runs.AsWrite.{as_write, run-as_write, feed_as_write}
use Rattle.grammar.proofs.Runs.CheckB3.{check_b3}
use Rattle.grammar.proofs.Runs.Slices.{slice_number_lem}
use Rattle.demands.specs.Loader.{Loader, AfterSlice, Idle, Mode}
use Rattle.demands.specs.Demand2.{slices, joined, ran, Demand2f}
use Rattle.demands.specs.Ours.{ours}
use Rattle.demands.proofs.Loads.LoadRuns.{begun, left, slice_is, begun_feeds, started, slices_join}
use Rattle.demands.proofs.Loads.Cuts.{slice_goes, slice_ends, slices-more, slices-refused, closed_refuses}
use Rattle.demands.proofs.Loads.RunSeen.{fed-same}

-- ---- slices leave what one run over them all leaves, whether it ends among them or not

record Left (r : Run) (a : AfterSlice) : Type 0 where
  cells : a.memory ≡ r.memory
  regs : a.fed.chain.registers ≡ r.chain.registers
  count : a.fed.chain.count ≡ r.chain.count
  kinds : a.fed.chain.kinds ≡ r.chain.kinds

left_of_lem : (r : Run) → Left r (left r)
left_of_lem r = let f = fed-same r in record { cells = refl; regs = f.registers; count = f.count; kinds = f.kinds }

slices_leave : (ps : List (List ℕ)) (c : Chain) (m last : List ℕ) → Bytes (joined ps) → length c.registers ≡ most_devices
    → feed_number c (length m) ≡ done → Left (run_of (run c m more) (joined ps ++ last)) (slices ours c m ps last)
slices_leave [] c m last small eight o = rw (slice_is c m last o) (left_of_lem (run_of (run c m more) last))
slices_leave (p ∷ ps) c m last small eight o =
    let r = run_of (run c m more) p in
    let a = ours.slice c m p in
    let rest = joined ps ++ last in
    let all : run_of (run c m more) ((p ++ joined ps) ++ last) ≡ run_of r rest =
    ap (run_of (run c m more)) (append_assoc p (joined ps) last) ∙ run-append p rest (run c m more) in
    by_eq r.number more
    (λ g.
    let w = slice_goes c m p o g in
    let on : run_of (run c m more) ((p ++ joined ps) ++ last) ≡ run_of (run r.chain r.memory more) rest = all ∙ rw g refl in
    rw (on, w.0, w.1)
    (slices_leave ps r.chain r.memory last (bytes_rest p (joined ps) small) ((run_lasts p (run c m more)).registers ∙ eight)
    (run_open c m p (bytes-front p (joined ps) small) eight o g)))
    (λ g.
    let shut = closed_refuses a.fed.chain (length a.memory) (slice_ends c m p o g) in
    let q = slice_is c m p o in
    let f = left_of_lem r in
    rw (all, run-over rest r g, slices-refused ps a.fed.chain a.memory last shut)
    (record {
      cells = ap (λ (x : AfterSlice). x.memory) q;
      regs = ap (λ (x : AfterSlice). x.fed.chain.registers) q ∙ f.regs;
      count = ap (λ (x : AfterSlice). x.fed.chain.count) q ∙ f.count;
      kinds = ap (λ (x : AfterSlice). x.fed.chain.kinds) q ∙ f.kinds;
    }))

-- ---- and a write of them, as long as the check goes on

-- both go on, and leave the same registers
record Alike (a b : AfterSlice) : Type 0 where
  keeps_going : b.fed.answer.number ≡ more
  registers : a.fed.chain.registers ≡ b.fed.chain.registers

one_alike : (c : Chain) (m s : List ℕ) → feed_number c (length m) ≡ done → (ours.slice c m s).fed.answer.number ≡ more
    → Alike (ours.slice c m s) (ours.slice (as_write c) m s)
one_alike c m s o h =
    let g = sym (slice_number_lem c m s o) ∙ h in
    let w = run-as_write s c m m g in
    let written = feed_as_write c (length m) o in
    record {
      keeps_going = slice_number_lem (as_write c) m s written ∙ w.number;
      registers = ap (λ (d : Chain). d.registers) (slice_goes c m s o g).0
          ∙ ap (λ (d : Chain). d.registers) (sym ((slice_goes (as_write c) m s written w.number).0 ∙ w.chain));
    }

all_alike : (ps : List (List ℕ)) (c : Chain) (m last : List ℕ) → Bytes (joined ps) → length c.registers ≡ most_devices → feed_number c (length m) ≡ done
    → (slices ours c m ps last).fed.answer.number ≡ more → Alike (slices ours c m ps last) (slices ours (as_write c) m ps last)
all_alike ps c m last small eight o h =
    let g = slices-more ps c m last h in
    let one = slices_join ps c m last o eight small g in
    let other = slices_join ps (as_write c) m last (feed_as_write c (length m) o) eight small (run-as_write (joined ps) c m m g).number in
    rw (one, other) (one_alike c m (joined ps ++ last) o (rw one at h))

-- ---- the clause

module _ (c : Chain) (m : List ℕ) (check mode : ℕ) (ps : List (List ℕ)) (last : List ℕ)
    (i : Idle c m) (o : Mode mode) (u : Bytes (joined ps ++ last)) (e : eqb check writing ≡ false) where
  abbrev opened : Chain
  opened = begun c mode check

  abbrev bs : List ℕ
  bs = joined ps ++ last

  feeds : feed_number opened (length m) ≡ done
  feeds = begun_feeds c m mode check i.sound o

  checks : opened.place.check ≡ checking
  checks = rw e refl

  leaves : Left (run_of (run opened m more) bs) (slices ours opened m ps last)
  leaves = slices_leave ps opened m last (bytes-front (joined ps) last u) i.registers feeds

  put_in : (slices ours opened m ps last).fed.chain.registers ≡ put_all registers (walk_of opened bs) c.registers
  put_in = leaves.regs ∙ run_stores registers bs opened m

  started_as : (sort : ℕ) → (ours.start c m mode sort).chain ≡ begun c mode sort
  started_as sort = ap (λ (r : Made). r.chain) (started c m mode sort i.sound o i.is_closed)

  -- B3 of every register that our check leaves is as it was
  own_b3 : (d : ℕ) → B3 (get_or (ran ours check mode c m ps last).fed.chain.registers d 0) ≡ B3 (get_or c.registers d 0)
  own_b3 d = rw (started_as check, leaves.regs) (check_b3 opened m bs u i.registers feeds checks d)

pub second_f : Demand2f ours
second_f c m check mode ps last i o u e =
    let x = leaves c m check mode ps last i o u e in
    let r = put_in c m check mode ps last i o u e in
    let bs = joined ps ++ last in
    let a = run_lasts bs (run (begun c mode check) m more) in
    let b = all_alike ps (begun c mode check) m last (bytes-front (joined ps) last u) i.registers (begun_feeds c m mode check i.sound o) in
    rw (started_as c m check mode ps last i o u e check, started_as c m check mode ps last i o u e writing)
    (record {
      cells = x.cells ∙ check-cells bs (run (begun c mode check) m more) (checks c m check mode ps last i o u e);
      count = x.count ∙ a.count;
      kinds = x.kinds ∙ a.kinds;
      regs = λ d l. ap (λ (y : List ℕ). get_or y d 0) r ∙ get_or-put_all registers (walk_of (begun c mode check) bs) c.registers d l;
      regs_many = ap length r ∙ length-put_all registers (walk_of (begun c mode check) bs) c.registers;
      keeps_going = λ h. (b h).keeps_going;
      as_written = λ h. (b h).registers;
    })

-- ---- so a check of any loader that meets the clause cannot bar later checks: B3 of every register is as it was

pub check_keeps_b3 : (l : Loader) → Demand2f l → (c : Chain) (m : List ℕ) (check mode : ℕ) (ps : List (List ℕ)) (last : List ℕ) → Idle c m → Mode mode
    → Bytes (joined ps ++ last) → eqb check writing ≡ false → (d : ℕ) → d < length c.registers
    → B3 (get_or (ran l check mode c m ps last).fed.chain.registers d 0) ≡ B3 (get_or c.registers d 0)
check_keeps_b3 l f c m check mode ps last i o u e d h =
    ap B3 ((f c m check mode ps last i o u e).regs d h ∙ sym ((second_f c m check mode ps last i o u e).regs d h))
    ∙ own_b3 c m check mode ps last i o u e d
