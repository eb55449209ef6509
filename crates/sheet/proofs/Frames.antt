-- Bytes of a write that store nothing: one byte, and a window's null byte, start and end at once. Assumes nothing.
use Prim.Native.Nat.{ℕ, zero, suc, ◌+◌, ◌-◌, ◌*◌, ◌/◌, ◌<◌, ◌≤◌}
use mathlib.Core.Bool.{true}
use mathlib.Core.Logic.{◌≢◌}
use mathlib.Core.Path.{◌≡◌, refl, sym, ap, subst, ◌∙◌}
use mathlib.Core.List.{List, [], ◌∷◌, ◌++◌}
use native.Mathlib.Omega.{arith}
use lib.Bits.{bit_and}
use lib.ListN.{length, replicate, length-replicate}
use Rattle.chain.specs.declared.Chain.{Chain}
use Rattle.chain.specs.declared.Made.{Made}
use Rattle.chain.specs.Paper.{at_null, at_data, writing, more}
use Rattle.chain.specs.Set.{with_place}
use Rattle.chain.specs.Kinds.{size_here}
use Rattle.chain.specs.Window.{fits_of}
use Rattle.chain.specs.Bytes.{Bytes}
use Rattle.awaited.specs.Byte.{advance_of}
use Rattle.machine.specs.Run.{memory_of, Run, run, went_on, gone_on, run_of}
use Rattle.machine.specs.Calls.{ahead_of}
use Rattle.machine.specs.Block.{headed_of}
use Rattle.machine.proofs.Header.{header_at, fits_true}
use Rattle.machine.proofs.Runs.{run_went, run-first, run_lasts}
use Rattle.grammar.specs.Stores.{puts_of}
use Rattle.grammar.proofs.Runs.Keeps.{write_misses, run_open}
use Rattle.grammar.proofs.Runs.Stays.{went_stays, run_stays}
use Rattle.hunt.specs.Bits.{byte_at, bytes_from}
use Rattle.sheet.specs.Steps.{rest_at, Writing, bound_at, Header}
use Rattle.sheet.proofs.Bounds.{byte_small}
use Rattle.sheet.proofs.Stored.{over_puts, frame_puts, writing_gone, writing-size}
use Rattle.sheet.proofs.WalkTurns.{ahead_gone, ahead-over, Framing}

-- ---- the next byte

module _ (d : Chain) (len : ℕ) (w : Writing d len) (s : List ℕ) (q k n at : ℕ) (h : at < n) where
  first : (b : ℕ) → b ≡ byte_at s (8 * (q + at) + k) → rest_at s q k n at ≡ b ∷ rest_at s q k n (at + 1)
  unfolding bytes_from
  first b e =
      let m : n - at ≡ suc (n - (at + 1)) = omega arith in
      let f : 8 * (q + at) + k + 8 ≡ 8 * (q + (at + 1)) + k = omega arith in
      rw (m, f, e)

  -- it goes on
  pub one_framing : (b : ℕ) → b < 256 → b ≡ byte_at s (8 * (q + at) + k) → d.place.awaited ≢ at_data → (a : Made) → a ≡ ahead_of d b → a.number ≡ more
      → Framing d len s q k n at a.chain 1
  one_framing b small e z a f y =
      let g = ahead_gone d b a f y in
      record {
        on = ap (puts_of d) (first b e) ∙ frame_puts d b (rest_at s q k n (at + 1)) w.write g.0 z ∙ ap (λ (c : Chain). puts_of c (rest_at s q k n (at + 1))) (sym g.1);
        write = subst (λ (c : Chain). Writing c len) (sym g.1) (writing_gone d len b w small g.0);
      }

  -- or it ends the run
  pub one-over : (b : ℕ) → b ≡ byte_at s (8 * (q + at) + k) → (a : Made) → a ≡ ahead_of d b → (a.number ≡ more → ⊥) → puts_of d (rest_at s q k n at) ≡ []
  one-over b e a f y = ap (puts_of d) (first b e) ∙ over_puts d b (rest_at s q k n (at + 1)) w.write (ahead-over d b a f y)

-- ---- null byte, start and end

-- the awaited byte after one of them
awaited-next : (c : Chain) (b k : ℕ) → k < 5 → c.place.awaited ≡ at_null + k → (gone_on c 0 b).place.awaited ≡ at_null + suc k
unfolding advance_of
awaited-next c b zero h e = rw e
awaited-next c b (suc zero) h e = rw e
awaited-next c b (suc (suc zero)) h e = rw e
awaited-next c b (suc (suc (suc zero))) h e = rw e
awaited-next c b (suc (suc (suc (suc zero)))) h e = rw e
awaited-next c b (suc (suc (suc (suc (suc k))))) h e = absurd (omega (arith, h))

frames : (bs rest : List ℕ) (c : Chain) (m : List ℕ) (k : ℕ) → c.place.check ≡ writing → c.place.awaited ≡ at_null + k → k + length bs ≤ 5
    → (run_of (run c m more) bs).number ≡ more → puts_of c (bs ++ rest) ≡ puts_of (run_of (run c m more) bs).chain rest
frames [] rest c m k w e h n = unfold run_of in refl
frames (b ∷ bs) rest c m k w e h n =
    let z = run-first c m b bs n in
    let t = run_went c m b bs z in
    let g : went_on c m b ≡ gone_on c 0 b = ap (λ (i : ℕ). gone_on c i b) (write_misses c m b w) in
    frame_puts c b (bs ++ rest) w z (λ y. omega (arith, e, y, h))
    ∙ ap (λ (d : Chain). puts_of d (bs ++ rest)) (sym g)
    ∙ frames bs rest (went_on c m b) (memory_of c m b) (suc k) ((went_stays c m b).check ∙ w) (ap (λ (d : Chain). d.place.awaited) g ∙ awaited-next c b k (omega arith) e) (omega arith)
    (rw t at n)
    ∙ ap (λ (r : Run). puts_of r.chain rest) (sym t)

-- a run that goes on stays a write of one device
writing-run : (c : Chain) (len : ℕ) (bs : List ℕ) (d : Chain) (m : List ℕ) → Writing c len → Bytes bs → run_of (run c (replicate len 0) more) bs ≡ run d m more → Writing d len
writing-run c len bs d m w u e =
    let k : length {A = ℕ} (replicate len 0) ≡ len = length-replicate len 0 in
    let n = ap (λ (r : Run). r.number) e in
    let s = run_stays bs c (replicate len 0) n in
    let l = run_lasts bs (run c (replicate len 0) more) in
    let f = run_open c (replicate len 0) bs u w.registers (rw k w.feeds) n in
    record {
      one = ap (λ (r : Run). r.chain.count) (sym e) ∙ s.count ∙ w.one;
      kinds = ap (λ (r : Run). length r.chain.kinds) (sym e) ∙ ap length s.kinds ∙ w.kinds;
      registers = ap (λ (r : Run). length r.chain.registers) (sym e) ∙ l.registers ∙ w.registers;
      write = ap (λ (r : Run). r.chain.place.check) (sym e) ∙ s.check ∙ w.write;
      feeds = rw (l.memory, k, e) at f;
    }

module _ (d : Chain) (len : ℕ) (w : Writing d len) (s : List ℕ) (q k n at : ℕ) (h : at + 5 ≤ n) where
  abbrev byte : ℕ → ℕ
  byte j = byte_at s (8 * (q + at + j) + k)

  five : rest_at s q k n at ≡ (byte 0 ∷ byte 1 ∷ byte 2 ∷ byte 3 ∷ byte 4 ∷ []) ++ rest_at s q k n (at + 5)
  unfolding bytes_from
  five =
      let m : n - at ≡ suc (suc (suc (suc (suc (n - (at + 5)))))) = omega arith in
      let e0 : 8 * (q + at) + k ≡ 8 * (q + at + 0) + k = omega arith in
      let e1 : 8 * (q + at) + k + 8 ≡ 8 * (q + at + 1) + k = omega arith in
      let e2 : 8 * (q + at + 1) + k + 8 ≡ 8 * (q + at + 2) + k = omega arith in
      let e3 : 8 * (q + at + 2) + k + 8 ≡ 8 * (q + at + 3) + k = omega arith in
      let e4 : 8 * (q + at + 3) + k + 8 ≡ 8 * (q + at + 4) + k = omega arith in
      let e5 : 8 * (q + at + 4) + k + 8 ≡ 8 * (q + (at + 5)) + k = omega arith in
      rw (m, e1, e2, e3, e4, e5, ← e0)

  header_framing : d.place.awaited ≡ at_null → (start end : ℕ) → start ≡ bound_at s k (q + (at + 1)) → end ≡ bound_at s k (q + (at + 3)) → fits_of len start end ≡ true
      → (c : Chain) → c ≡ with_place d (headed_of d.place start end) → Framing d len s q k n at c 5
  header_framing null start end f g fit c e =
      let d1 : q + (at + 1) ≡ q + at + 1 = omega arith in
      let d3 : q + (at + 3) ≡ q + at + 3 = omega arith in
      let e2 : q + at + 1 + 1 ≡ q + at + 2 = omega arith in
      let e4 : q + at + 3 + 1 ≡ q + at + 4 = omega arith in
      let f1 : start ≡ byte 1 * 256 + byte 2 = rw (d1, e2) at f in
      let f2 : end ≡ byte 3 * 256 + byte 4 = rw (d3, e4) at g in
      let o : fits_of (size_here d) (byte 1 * 256 + byte 2) (byte 3 * 256 + byte 4) ≡ true = rw (writing-size d len w) (rw (f1, f2) at fit) in
      let bs : List ℕ = byte 0 ∷ byte 1 ∷ byte 2 ∷ byte 3 ∷ byte 4 ∷ [] in
      let t = fits_true (size_here d) (byte 1 * 256 + byte 2) (byte 3 * 256 + byte 4) o in
      let r : run_of (run d (replicate len 0) more) bs ≡ run (with_place d (headed_of d.place start end)) (replicate len 0) more =
      rw (f1, f2) (header_at d (replicate len 0) (byte 0) (byte 1) (byte 2) (byte 3) (byte 4) null t.0 t.1 t.2) in
      let small : (j : ℕ) → byte j < 256 = λ j. byte_small s (8 * (q + at + j) + k) in
      record {
        on = ap (puts_of d) five ∙ frames bs (rest_at s q k n (at + 5)) d (replicate len 0) 0 w.write null (omega arith) (ap (λ (x : Run). x.number) r)
            ∙ ap (λ (x : Run). puts_of x.chain (rest_at s q k n (at + 5))) r ∙ ap (λ (x : Chain). puts_of x (rest_at s q k n (at + 5))) (sym e);
        write = subst (λ (x : Chain). Writing x len) (sym e)
            (writing-run d len bs (with_place d (headed_of d.place start end)) (replicate len 0) w (small 0, (small 1, (small 2, (small 3, (small 4, tt))))) r);
      }

-- where a stream's bytes stand from bit p on
pub window_framing : (d : Chain) (len : ℕ) (s : List ℕ) (p at start end : ℕ) (c : Chain) → Writing d len → Header d.place.awaited len s p at start end
    → c ≡ with_place d (headed_of d.place start end) → Framing d len s (p / 8) (bit_and p 7) (length s - (p + 7) / 8) at c 5
window_framing d len s p at start end c w x e =
    header_framing d len w s (p / 8) (bit_and p 7) (length s - (p + 7) / 8) at x.there x.null start end x.start_is x.end_is x.fits c e
