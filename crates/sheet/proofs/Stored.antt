-- What a write of one device stores, byte by byte and block by block; and that it stays such a write. Assumes nothing.
use Prim.Native.Nat.{ℕ, zero, suc, ◌+◌, ◌-◌, ◌<◌, ◌≤◌}
use mathlib.Core.Bool.{Bool, true, false}
use mathlib.Core.Logic.{◌≢◌}
use mathlib.Core.Path.{◌≡◌, refl, sym, ap, ◌∙◌}
use mathlib.Core.List.{List, [], ◌∷◌, ◌++◌}
use native.Mathlib.Nat.{not-suc-le-zero, add-zero}
use native.Mathlib.Omega.{arith}
use borrow.Author.Tests.{eq-eqb, ne_eqb, le-leb}
use lib.Dec.{eqb, leb, ltb, lit<}
use lib.ListN.{length, get_or, replicate, length-replicate}
use Rattle.chain.specs.declared.Chain.{Chain}
use Rattle.chain.specs.Paper.{at_control, at_data, writing, more}
use Rattle.chain.specs.Rules.{pick}
use Rattle.chain.specs.Set.{with_next, with_place}
use Rattle.chain.specs.Kinds.{size_of, base_of, size_here}
use Rattle.chain.specs.Bytes.{Bytes}
use Rattle.chain.proofs.ByCases.{by_test}
use Rattle.chain.proofs.Sizes.{size_most}
use Rattle.chain.proofs.Sound.{feed_sound, sound_feed, feed_is_open}
use Rattle.awaited.specs.Byte.{number_of, passed_of}
use Rattle.machine.specs.Run.{writes, address_of, counted, Run, run, went_on, gone_on, run_of}
use Rattle.machine.specs.Calls.{past_of}
use Rattle.machine.specs.Block.{misses_of, laid_of}
use Rattle.machine.proofs.Block.{block, block_of, data_number, data_step}
use Rattle.machine.proofs.Runs.{step_went, registers-length, run_lasts}
use Rattle.grammar.specs.Sent.{framing, register}
use Rattle.grammar.specs.Stores.{Put, aim, put_of, puts_of}
use Rattle.grammar.proofs.Walk.{walk_on, walk_over}
use Rattle.grammar.proofs.Runs.Keeps.{write_misses, went_sound, run_open}
use Rattle.grammar.proofs.Runs.Stays.{went_stays}
use Rattle.closing.proofs.Sound.{within}
use Rattle.sheet.specs.Steps.{Writing, puts_at}

-- ---- one byte

module _ (c : Chain) (b : ℕ) (bs : List ℕ) (w : c.place.check ≡ writing) where
  writes-on : writes (went_on c [] b) ≡ true
  writes-on = eq-eqb (went_on c [] b).place.check writing ((went_stays c [] b).check ∙ w)

  step_puts : number_of c b ≡ more → puts_of c (b ∷ bs) ≡ put_of (aim c) b (puts_of (went_on c [] b) bs)
  step_puts n = rw (eq-eqb c.place.check writing w, writes-on, walk_on c b bs n)

  -- it ends the run
  pub over_puts : (number_of c b ≡ more → ⊥) → puts_of c (b ∷ bs) ≡ []
  over_puts n = rw (eq-eqb c.place.check writing w, walk_over c b bs n)

  gone_is : gone_on c 0 b ≡ went_on c [] b
  gone_is = ap (λ (k : ℕ). gone_on c k b) (sym (write_misses c [] b w))

  -- a byte that is no data byte stores nothing
  pub frame_puts : number_of c b ≡ more → c.place.awaited ≢ at_data → puts_of c (b ∷ bs) ≡ puts_of (gone_on c 0 b) bs
  frame_puts n e =
      step_puts n ∙ rw (ne_eqb c.place.awaited at_data e) (by (eqb c.place.awaited at_control)) ∙ ap (λ (d : Chain). puts_of d bs) (sym gone_is)
    where
      by : (q : Bool) → put_of (pick q (register c.place.device) framing) b (puts_of (went_on c [] b) bs) ≡ puts_of (went_on c [] b) bs
      by true = refl
      by false = refl

-- ---- data bytes

-- the place after them, in a write
block_past : (c : Chain) (m : List ℕ) (i : ℕ) (bs : List ℕ) → c.place.check ≡ writing → block_of c m i bs ≡ past_of c (length bs)
unfolding misses_of past_of
block_past c m i bs w = rw w

module _ (c : Chain) (b : ℕ) (w : c.place.check ≡ writing) (e : c.place.awaited ≡ at_data) where
  data_went : went_on c [] b ≡ past_of c 1
  data_went =
      ap (λ (r : Run). r.chain) (sym (step_went c [] b (data_number c b e)) ∙ data_step c b e [])
      ∙ block_past c [] (address_of c) (b ∷ []) w

  data_puts : (bs : List ℕ) → puts_of c (b ∷ bs) ≡ record { cell = address_of c; byte = b } ∷ puts_of (past_of c 1) bs
  data_puts bs =
      step_puts c b bs w (data_number c b e) ∙ rw (eq-eqb c.place.awaited at_data e)
      (ap (λ (d : Chain). record { cell = address_of c; byte = b } ∷ puts_of d bs) data_went)

-- one byte further in its window
module _ (c : Chain) (h : c.place.next < c.place.end) where
  past_one : past_of c 1 ≡ with_place c (with_next (counted c.place 1 0) (c.place.next + 1))
  unfolding past_of passed_of
  past_one = rw (le-leb (c.place.next + 1) c.place.end (omega arith))

  past_address : address_of (past_of c 1) ≡ suc (address_of c)
  unfolding address_of
  past_address = rw past_one (omega arith)

-- and the bytes after it
past_both : (c : Chain) (x : ℕ) (bs : List ℕ) → c.place.check ≡ writing → c.place.awaited ≡ at_data → c.place.next < c.place.end
    → length (x ∷ bs) ≤ c.place.end - c.place.next → past_of (past_of c 1) (length (x ∷ bs)) ≡ past_of c (suc (length (x ∷ bs)))
past_both c x bs w e h g =
    let p = past_one c h in
    let r : run_of (run c [] more) (x ∷ x ∷ bs) ≡ run (block_of c [] (address_of c) (x ∷ x ∷ bs)) (laid_of c.place.check [] (address_of c) (x ∷ x ∷ bs)) more =
    block (x ∷ x ∷ bs) c [] e (omega arith) (omega arith) in
    let s : run_of (run c [] more) (x ∷ x ∷ bs) ≡ run_of (run (past_of c 1) (laid_of c.place.check [] (address_of c) (x ∷ [])) more) (x ∷ bs) =
    unfold run_of in ap (λ (y : Run). run_of y (x ∷ bs)) (data_step c x e []) ∙ ap (λ (d : Chain). run_of (run d (laid_of c.place.check [] (address_of c) (x ∷ [])) more) (x ∷ bs)) (block_past c [] (address_of c) (x ∷ []) w) in
    let t = block (x ∷ bs) (past_of c 1) (laid_of c.place.check [] (address_of c) (x ∷ [])) (ap (λ (d : Chain). d.place.awaited) p ∙ e) (omega arith)
    (rw (ap (λ (d : Chain). d.place.end) p, ap (λ (d : Chain). d.place.next) p) (omega arith)) in
    sym (block_past (past_of c 1) (laid_of c.place.check [] (address_of c) (x ∷ [])) (address_of (past_of c 1)) (x ∷ bs) (ap (λ (d : Chain). d.place.check) p ∙ w))
    ∙ ap (λ (y : Run). y.chain) (sym t ∙ sym s ∙ r) ∙ block_past c [] (address_of c) (x ∷ x ∷ bs) w

pub block_puts : (bs rest : List ℕ) (c : Chain) → c.place.check ≡ writing → c.place.awaited ≡ at_data → 0 < length bs
    → length bs ≤ c.place.end - c.place.next + 1 → puts_of c (bs ++ rest) ≡ puts_at (address_of c) bs ++ puts_of (past_of c (length bs)) rest
block_puts [] rest c w e h g = absurd (not-suc-le-zero h)
block_puts (b ∷ []) rest c w e h g = data_puts c b w e rest
block_puts (b ∷ x ∷ bs) rest c w e h g =
    let l : c.place.next < c.place.end = omega arith in
    let p = past_one c l in
    data_puts c b w e (x ∷ bs ++ rest)
    ∙ ap (λ (ps : List Put). record { cell = address_of c; byte = b } ∷ ps)
    (block_puts (x ∷ bs) rest (past_of c 1) (ap (λ (d : Chain). d.place.check) p ∙ w) (ap (λ (d : Chain). d.place.awaited) p ∙ e) (omega arith)
    (rw (ap (λ (d : Chain). d.place.end) p, ap (λ (d : Chain). d.place.next) p) (omega arith))
    ∙ rw (past_address c l, past_both c x bs w e l (omega arith)))

-- ---- the run stays a write of one device

pub writing_gone : (c : Chain) (len b : ℕ) → Writing c len → b < 256 → number_of c b ≡ more → Writing (gone_on c 0 b) len
writing_gone c len b w small n =
    rw (gone_is c b [] w.write)
    (record {
      one = (went_stays c [] b).count ∙ w.one;
      kinds = ap length (went_stays c [] b).kinds ∙ w.kinds;
      registers = registers-length c [] b ∙ w.registers;
      write = (went_stays c [] b).check ∙ w.write;
      feeds = sound_feed (went_on c [] b) len (went_sound c [] b len small w.registers n (feed_sound c len w.feeds));
    })

passed_check : (c : Chain) (n : ℕ) → c.place.check ≡ writing → (past_of c n).place.check ≡ writing
unfolding past_of passed_of
passed_check c n w =
    by_test (leb (c.place.next + n) c.place.end) (λ e. rw e w) (λ e. by_test (ltb 1 c.place.left) (λ f. rw (e, f) w) (λ f. rw (e, f) w))

zeros-bytes : (n : ℕ) → Bytes (replicate n 0)
zeros-bytes zero = tt
zeros-bytes (suc n) = (lit< tt, zeros-bytes n)

pub writing_past : (c : Chain) (len n : ℕ) → Writing c len → c.place.awaited ≡ at_data → 0 < n → n ≤ c.place.end - c.place.next + 1 → Writing (past_of c n) len
unfolding past_of
writing_past c len n w e h g =
    let m : List ℕ = replicate len 0 in
    let bs : List ℕ = replicate n 0 in
    let l : length bs ≡ n = length-replicate n 0 in
    let k : length m ≡ len = length-replicate len 0 in
    let r = block bs c m e (omega arith) (omega arith) in
    let p : block_of c m (address_of c) bs ≡ past_of c n = block_past c m (address_of c) bs w.write ∙ ap (past_of c) l in
    let f = run_open c m bs (zeros-bytes n) w.registers (rw k w.feeds) (ap (λ (x : Run). x.number) r) in
    record {
      one = w.one;
      kinds = w.kinds;
      registers = w.registers;
      write = passed_check c n w.write;
      feeds = rw ((run_lasts bs (run c m more)).memory, k, ap (λ (x : Run). x.chain) r, p) at f;
    }

-- its size is that of memory
pub writing-size : (c : Chain) (len : ℕ) → Writing c len → size_here c ≡ len
writing-size c len w =
    let s = feed_sound c len w.feeds in
    let z : c.place.device ≡ 0 = omega (arith, s.formed.device_in_chain, w.one) in
    ap (λ (d : ℕ). size_of (get_or c.kinds d 0)) z ∙ sym (first c.kinds w.kinds) ∙ ap (base_of c.kinds) (sym w.one) ∙ s.usable.fits.exact
  where
    first : (ks : List ℕ) → length ks ≡ 8 → base_of ks 1 ≡ size_of (get_or ks 0 0)
    first [] h = absurd (omega (arith, h))
    first (k ∷ ks) h = unfold base_of in add-zero (size_of k)

pub size_small : (c : Chain) (len : ℕ) → Writing c len → len ≤ 16381
size_small c len w = omega (arith, writing-size c len w, size_most (get_or c.kinds c.place.device 0))

-- ---- where its data bytes go

pub record Awaiting (c : Chain) (len : ℕ) : Type 0 where
  pub address : address_of c ≡ c.place.next
  pub next : c.place.next ≤ c.place.end
  pub inside : c.place.end < len

base_zero : (ks : List ℕ) (n : ℕ) → base_of ks 0 + n ≡ n
unfolding base_of
base_zero ks n = omega arith

pub awaiting : (c : Chain) (len : ℕ) → Writing c len → c.place.awaited ≡ at_data → Awaiting c len
unfolding address_of
awaiting c len w e =
    let s = feed_sound c len w.feeds in
    let z : c.place.device ≡ 0 = omega (arith, s.formed.device_in_chain, w.one) in
    let m : List ℕ = replicate len 0 in
    let k : length m ≡ len = length-replicate len 0 in
    let i = within c m (rw k (feed_is_open c len w.feeds)) w.kinds in
    let x = i.cells e in
    record { address = rw z (base_zero c.kinds c.place.next); next = x.0; inside = omega (arith, x.1, i.inside, k) }
