-- One stream as the code loads it: where its bytes begin, the run that is open, its row and the device that it leaves. Assumes nothing.
use Prim.Native.Nat.{ℕ, ◌+◌, ◌*◌, ◌/◌, ◌<◌, ◌≤◌}
use mathlib.Core.Bool.{Bool, true, false, ◌&&◌}
use mathlib.Core.Path.{◌≡◌, refl, sym, ap, ap₂, subst, ◌∙◌}
use mathlib.Core.List.{List, [], ◌∷◌}
use native.Mathlib.Nat.{add-zero}
use native.Mathlib.Omega.{arith}
use borrow.Author.Tests.{eq-eqb, ne_eqb, eqb-false}
use lib.Dec.{eqb}
use lib.ListN.{length, get_or}
use Rattle.chain.specs.declared.Chain.{Chain}
use Rattle.chain.specs.declared.Made.{Made}
use Rattle.chain.specs.declared.Place.{Place}
use Rattle.chain.specs.declared.mode.Mode.{Mode}
use Rattle.chain.specs.declared.mode.Mode.TheVariants.{Upward, Downward, SerialExternal, SerialInternal, EpromInternal, TwoPreambles}
use Rattle.chain.specs.Mode.{mode_number}
use Rattle.chain.specs.Paper.{serial, first_mode, two_preambles, most_bytes, more, writing}
use Rattle.chain.specs.Rules.{pick, from}
use Rattle.chain.specs.Set.{with_place, closed_place}
use Rattle.chain.specs.Kinds.{size_of, base_of}
use Rattle.chain.specs.Bytes.{Bytes}
use Rattle.chain.proofs.Bytes.{bytes-at, bytes_by}
use Rattle.chain.proofs.Sizes.{size_most, size-least}
use Rattle.chain.proofs.Sound.{state_usable}
use Rattle.chain.proofs.BadChain.{m_known}
use Rattle.machine.specs.declared.Answer.{Answer}
use Rattle.machine.specs.declared.Fed.{Fed}
use Rattle.machine.specs.Run.{Run, run, run_of}
use Rattle.machine.specs.Calls.{start_of, fed_of}
use Rattle.machine.proofs.Runs.{run_lasts}
use Rattle.hunt.specs.Bits.{bytes_from, whole_from}
use Rattle.hunt.specs.Hunt.{nowhere, found_at, hunted_bytes}
use Rattle.hunt.proofs.Found.{found_le, found_fits}
use Rattle.hunt.proofs.Bytes.{bytes_rest, whole_is}
use Rattle.grammar.specs.Stores.{puts_of, put_into}
use Rattle.grammar.proofs.Walk.{run_puts}
use Rattle.sheet.specs.declared.Sheet.{Sheet}
use Rattle.sheet.specs.Stream.{Device, shift_of, hunt_fails, bytes_of_stream, started, load_of, stores_of, left_by, unfound_row, row_of}
use Rattle.sheet.specs.Steps.{bytes_after, puts_left, Ready, Writing, row_from}
use Rattle.sheet.proofs.Bounds.{row_bounds}
use Rattle.sheet.proofs.WalkTurns.{rest-first}
use Rattle.sheet.proofs.Left.{Idle, started_is, started_feeds, started-kinds, started-registers, left-loaded}

-- ---- where its bytes begin

module _ (mode : ℕ) (s : List ℕ) (p : ℕ) (e : p ≡ shift_of mode s) where
  pub hunt_fails_lem : nowhere ≤ p → hunt_fails mode s ≡ true
  hunt_fails_lem h = by (serial mode) (sym e)
    where
      by : (b : Bool) → pick b (found_at s) 0 ≡ p → (b && eqb (found_at s) nowhere) ≡ true
      by true f = eq-eqb (found_at s) nowhere (omega (arith, f, h, found_le s))
      by false f = absurd (omega (arith, f, h))

  pub hunt_finds : p < nowhere → hunt_fails mode s ≡ false
  hunt_finds h = by (serial mode) (sym e)
    where
      by : (b : Bool) → pick b (found_at s) 0 ≡ p → (b && eqb (found_at s) nowhere) ≡ false
      by true f = ne_eqb (found_at s) nowhere (λ g. omega (arith, f, h, g))
      by false f = refl

  pub begins-inside : p < nowhere → (p + 7) / 8 ≤ length s
  begins-inside h = by (serial mode) (sym e)
    where
      by : (b : Bool) → pick b (found_at s) 0 ≡ p → (p + 7) / 8 ≤ length s
      by true f = omega (arith, f, found_fits s (omega (arith, f, h)))
      by false f = omega (arith, f)

  pub bytes-given : Bytes s → bytes_after s p ≡ bytes_of_stream mode s
  bytes-given u = by (serial mode) (sym e)
    where
      by : (b : Bool) → pick b (found_at s) 0 ≡ p → bytes_after s p ≡ pick b (hunted_bytes s) s
      by true f = ap (bytes_after s) (sym f) ∙ hunted s
        where
          hunted : (s : List ℕ) → bytes_after s (found_at s) ≡ hunted_bytes s
          hunted s = unfold hunted_bytes in refl
      by false f =
          let z : p ≡ 8 * 0 = omega (arith, f) in
          let n : whole_from s p ≡ length s = sym (whole_is s p) ∙ omega (arith, f) in
          ap₂ (bytes_from s) z n ∙ bytes_rest s (bytes-at s u) 0 (length s) (omega arith)

-- ---- the modes by name are the paper's
pub mode_known : (m : Mode) → from first_mode two_preambles (mode_number m) ≡ true
mode_known Upward = refl
mode_known Downward = refl
mode_known SerialExternal = refl
mode_known SerialInternal = refl
mode_known EpromInternal = refl
mode_known TwoPreambles = refl

-- ---- the device's size

pub ready_size : (c : Chain) (n : ℕ) → Ready c n → (0 < n) × (n ≤ 16381)
ready_size c n r =
    let f = (state_usable c n r.usable).fits in
    let k = f.known 0 (omega (arith, r.one)) in
    let z : base_of c.kinds 1 ≡ n = ap (base_of c.kinds) (sym r.one) ∙ f.exact in
    let b : base_of c.kinds 1 ≡ size_of (get_or c.kinds 0 0) = first c.kinds r.kinds in
    (omega (arith, z, b, size-least (get_or c.kinds 0 0) (eqb-false (size_of (get_or c.kinds 0 0)) 0 ((m_known (get_or c.kinds 0 0)).said k))), omega (arith, z, b, size_most (get_or c.kinds 0 0)))
  where
    first : (ks : List ℕ) → length ks ≡ 8 → base_of ks 1 ≡ size_of (get_or ks 0 0)
    first [] h = absurd (omega (arith, h))
    first (k ∷ ks) h = unfold base_of in add-zero (size_of k)

-- ---- its run

module _ (d : Device) (mode : ℕ) (i : Idle d) (m : from first_mode two_preambles mode ≡ true) where
  started-writing : Writing (started d mode) (length d.memory)
  started-writing =
      record {
        one = ap (λ (c : Chain). c.count) (started_is d mode i m) ∙ i.ready.one;
        kinds = started-kinds d mode i m;
        registers = started-registers d mode i m;
        write = ap (λ (c : Chain). c.place.check) (started_is d mode i m);
        feeds = started_feeds d mode i m;
      }

-- a run fed and then closed has its chain closed
closing-chain : (r : Run) → with_place (fed_of r).chain closed_place ≡ with_place r.chain closed_place
unfolding fed_of
closing-chain r = by (eqb r.number more)
  where
    by : (b : Bool) → with_place (pick b r.chain (with_place r.chain closed_place)) closed_place ≡ with_place r.chain closed_place
    by true = refl
    by false = refl

module _ (d : Device) (mode : ℕ) (s : List ℕ) (i : Idle d) (m : from first_mode two_preambles mode ≡ true) (u : Bytes s) (p : ℕ) (e : p ≡ shift_of mode s) (h : p < nowhere)
  where
    -- what the bytes come to, as the code feeds them
    abbrev fed : Run
    fed = run_of (run (started d mode) d.memory more) (bytes_after s p)

    fed_is : fed ≡ load_of d mode s
    unfolding load_of
    fed_is = ap (run_of (run (started d mode) d.memory more)) (bytes-given mode s p e u)

    taken_few : length s ≤ most_bytes → (fed_of fed).answer.taken ≤ most_bytes
    unfolding fed_of row_of
    taken_few n =
        let b = (row_bounds d mode s (ap (λ (c : Place). c.taken) i.ready.closed) n i.bytes u).taken in
        let f : (row_of d mode s).taken ≡ (load_of d mode s).chain.place.taken = rw (hunt_finds mode s p e h) in
        omega (arith, b, f, ap (λ (r : Run). r.chain.place.taken) fed_is, n)

    row_is : row_from mode p (fed_of fed).answer (puts_of (started d mode) (bytes_after s p)) d.memory fed.memory ≡ row_of d mode s
    unfolding fed_of row_of stores_of
    row_is = rw (hunt_finds mode s p e h, fed_is, bytes-given mode s p e u, e)

    chain_left : with_place (fed_of fed).chain closed_place ≡ (left_by d mode s).chain
    chain_left = closing-chain fed ∙ ap (λ (r : Run). with_place r.chain closed_place) fed_is ∙ ap (λ (x : Device). x.chain) (sym (left-loaded d mode s i m u (hunt_finds mode s p e h)))

    memory-left : fed.memory ≡ (left_by d mode s).memory
    memory-left = ap (λ (r : Run). r.memory) fed_is ∙ ap (λ (x : Device). x.memory) (sym (left-loaded d mode s i m u (hunt_finds mode s p e h)))

row_same : (mode p : ℕ) (bs before : List ℕ) {a b : Answer} {c d : Chain} {after mem : List ℕ} → a ≡ b → c ≡ d → after ≡ mem
    → row_from mode p a (puts_of c bs) before after ≡ row_from mode p b (puts_of d bs) before mem
row_same mode p bs before e f h = rw (e, f, h)

-- the run that is started at c, and what it is fed
module _ (d : Device) (mode : ℕ) (s : List ℕ) (i : Idle d) (m : from first_mode two_preambles mode ≡ true) (u : Bytes s) (p : ℕ) (e : p ≡ shift_of mode s) (h : p < nowhere)
    (c : Chain) (st : c ≡ started d mode) (f : Fed) (fed : f ≡ fed_of (run_of (run c d.memory more) (bytes_after s p))) (mem : List ℕ)
    (after : mem ≡ (run_of (run c d.memory more) (bytes_after s p)).memory) where
  as_fed : f ≡ fed_of (run_of (run (started d mode) d.memory more) (bytes_after s p))
  as_fed = fed ∙ ap (λ (c : Chain). fed_of (run_of (run c d.memory more) (bytes_after s p))) st

  as-left : mem ≡ (run_of (run (started d mode) d.memory more) (bytes_after s p)).memory
  as-left = after ∙ ap (λ (c : Chain). (run_of (run c d.memory more) (bytes_after s p)).memory) st

  left_is : puts_left c s p 0 ≡ puts_of c (bytes_after s p)
  left_is = ap (puts_of c) (sym (rest-first s p))

  opened_same : length mem ≡ length d.memory
  opened_same = ap length after ∙ (run_lasts (bytes_after s p) (run c d.memory more)).memory

  opened_writing : Writing c (length mem)
  opened_writing = rw (opened_same, st) (started-writing d mode i m)

  opened_few : length s ≤ most_bytes → f.answer.taken ≤ most_bytes
  opened_few n = subst (λ (x : Fed). x.answer.taken ≤ most_bytes) (sym as_fed) (taken_few d mode s i m u p e h n)

  opened_memory : mem ≡ put_into (puts_left c s p 0) d.memory
  opened_memory = rw left_is (after ∙ run_puts (bytes_after s p) c d.memory)

  opened_row : (r : Sheet) → r ≡ row_from mode p f.answer (puts_left c s p 0) d.memory mem → r ≡ row_of d mode s
  opened_row r g = rw left_is at g ∙ row_same mode p (bytes_after s p) d.memory (ap (λ (y : Fed). y.answer) as_fed) st as-left ∙ row_is d mode s i m u p e h

  opened_chain : with_place f.chain closed_place ≡ (left_by d mode s).chain
  opened_chain = ap (λ (y : Fed). with_place y.chain closed_place) as_fed ∙ chain_left d mode s i m u p e h

  opened_left : mem ≡ (left_by d mode s).memory
  opened_left = as-left ∙ memory-left d mode s i m u p e h

-- what is known of it, as the code has it: r is the start's answer
pub record Opened (d : Device) (mode : ℕ) (s : List ℕ) (p : ℕ) (c : Chain) (f : Fed) (mem : List ℕ) : Type 0 where
  pub writes : Writing c (length mem)
  pub few : f.answer.taken ≤ most_bytes
  pub memory : mem ≡ put_into (puts_left c s p 0) d.memory
  pub row : (r : Sheet) → r ≡ row_from mode p f.answer (puts_left c s p 0) d.memory mem → r ≡ row_of d mode s
  pub chain : with_place f.chain closed_place ≡ (left_by d mode s).chain
  pub left : mem ≡ (left_by d mode s).memory

pub opened : (d : Device) (mode : Mode) (s : List ℕ) (p n : ℕ) (r : Made) (f : Fed) (mem : List ℕ) → Ready d.chain (length d.memory) → Bytes d.memory
    → ((i : ℕ) → get_or s i 0 < 256) → length s ≤ most_bytes → (p ≡ shift_of (mode_number mode) s) × (p < nowhere) → n ≡ mode_number mode
    → r ≡ start_of d.chain (length d.memory) n writing → f ≡ fed_of (run_of (run r.chain d.memory more) (bytes_after s p))
    → mem ≡ (run_of (run r.chain d.memory more) (bytes_after s p)).memory → Opened d (mode_number mode) s p r.chain f mem
opened d mode s p n r f mem ready bytes small few e named made fed after =
    let k = mode_number mode in
    let i : Idle d = record { ready = ready; bytes = bytes } in
    let u = bytes_by s (λ j h. small j) in
    let st : r.chain ≡ started d k = ap (λ (x : Made). x.chain) made ∙ ap (λ (x : ℕ). (start_of d.chain (length d.memory) x writing).chain) named in
    let m = mode_known mode in
    record {
      writes = opened_writing d k s i m u p e.0 e.1 r.chain st f fed mem after;
      few = opened_few d k s i m u p e.0 e.1 r.chain st f fed mem after few;
      memory = opened_memory d k s i m u p e.0 e.1 r.chain st f fed mem after;
      row = opened_row d k s i m u p e.0 e.1 r.chain st f fed mem after;
      chain = opened_chain d k s i m u p e.0 e.1 r.chain st f fed mem after;
      left = opened_left d k s i m u p e.0 e.1 r.chain st f fed mem after;
    }

-- the hunt fails
module _ (d : Device) (mode : ℕ) (s : List ℕ) (p : ℕ) (e : p ≡ shift_of mode s) (h : nowhere ≤ p) where
  pub unfound_row_lem : unfound_row mode ≡ row_of d mode s
  unfolding row_of
  unfound_row_lem = rw (hunt_fails_lem mode s p e h)

  pub unfound-left : d ≡ left_by d mode s
  unfolding left_by
  unfound-left = rw (hunt_fails_lem mode s p e h)
