-- Every stream that fits is accepted with its last byte, as a write and as a check. Assumes nothing.
use Prim.Native.Nat.{ℕ, zero, suc, ◌+◌, ◌-◌, ◌*◌, ◌/◌, ◌%◌, ◌^◌, ◌≤◌, ◌<◌}
use mathlib.Core.Bool.{Bool, true, false, ◌&&◌, and-false, or-false}
use mathlib.Core.Path.{◌≡◌, refl, ap, sym, subst, ◌∙◌}
use mathlib.Core.List.{List, [], ◌∷◌, ◌++◌}
use native.Mathlib.Nat.{div-add-mod', mod-lt, mod-eq_of_lt}
use native.Mathlib.Omega.{arith}
use lib.Dec.{eqb, ltb, leb, eqb-suc-zero, lit<}
use lib.ListN.{length, get_or}
use borrow.Author.Tests.{lt-ltb, le-ltb, lt-leb, ne_eqb}
use Rattle.cells.proofs.Count.{sets_out}
use Rattle.chain.specs.declared.Chain.{Chain}
use Rattle.chain.specs.declared.Place.{Place}
use Rattle.chain.specs.Paper.{preamble, postamble, no_windows, at_preamble, at_second, at_control, at_address, at_address2, at_address3, at_count, at_null, at_start, at_start_low, at_end, at_end_low, at_data, at_check, writing, checking, two_preambles, done, more, B2, B3}
use Rattle.chain.specs.Rules.{pick}
use Rattle.chain.specs.Set.{with_awaited, with_left, with_control, with_start, with_end, with_next, with_device, with_place}
use Rattle.chain.proofs.ByCases.{by_test}
use Rattle.chain.specs.Window.{with_low}
use Rattle.awaited.specs.Byte.{number_of, no_window, passed_of, advance_of}
use Rattle.machine.specs.Run.{address_of, registers_of, missed_of, counted, Run, run, went_on, run_of}
use Rattle.machine.specs.Calls.{opened_place}
use Rattle.machine.specs.Block.{misses_of, laid_of}
use Rattle.machine.proofs.Block.{block}
use Rattle.machine.proofs.Feed.{run-append}
use Rattle.machine.proofs.Runs.{run-first, registers-later}
use Rattle.chain.specs.Kinds.{size_at}
use Rattle.grammar.specs.Stream.{base_at, Window, Section, window_sent, windows_sent, section_sent, sections_sent, lead_sent, stream_sent}
use Rattle.grammar.specs.Sent.{frame, bytes_of}
use Rattle.grammar.specs.Fits.{Fits, AllFit, SectionFits, SectionsFit, Lets, AllLet, Fitting}
use Rattle.grammar.proofs.OneReading.{bytes-append, data_bytes}
use Rattle.grammar.proofs.Accepted.{Accepted, last, next, bare_on}

-- ---- bytes that take a run on

-- the bytes bs take the run from the chain c to the chain d; it is open before and after, and there is no memory
record Goes (c : Chain) (bs : List ℕ) (d : Chain) : Type 0 where
  pub is : run_of (run c [] more) bs ≡ run d [] more

goes_none : {c : Chain} → Goes c [] c
goes_none {c} = record { is = unfold run_of in refl }

goes_both : {c d e : Chain} {bs cs : List ℕ} → Goes c bs d → Goes d cs e → Goes c (bs ++ cs) e
goes_both {c} {d} {e} {bs} {cs} p q =
    record { is = run-append bs cs (run c [] more) ∙ ap (λ (r : Run). run_of r cs) p.is ∙ q.is }

goes_step : (c : Chain) (b : ℕ) → number_of c b ≡ more → Goes c (b ∷ []) (went_on c [] b)
goes_step c b e = record { is = bare_on c b [] e ∙ unfold run_of in refl }

-- bytes before an accepted stream
accepted-after : (bs : List ℕ) {cs : List ℕ} (c d : Chain) → run_of (run c [] more) bs ≡ run d [] more → Accepted d cs → Accepted c (bs ++ cs)
accepted-after [] {cs} c d e a = subst (λ (x : Chain). Accepted x cs) (sym same) a
  where
    same : c ≡ d
    same = unfold run_of in ap (λ (r : Run). r.chain) e
accepted-after (b ∷ bs) c d e a =
    let g = run-first c [] b bs (ap (λ (r : Run). r.number) e) in
    next g (accepted-after bs (went_on c [] b) d (sym (bare_on c b bs g) ∙ e) a)

goes_accepted : {c d : Chain} {bs cs : List ℕ} → Goes c bs d → Accepted d cs → Accepted c (bs ++ cs)
goes_accepted {c} {d} {bs} p a = accepted-after bs c d p.is a

-- ---- one byte

-- the chain c with the registers g, at the place p
abbrev placed : Chain → List ℕ → Place → Chain
placed c g p = record { count = c.count; kinds = c.kinds; registers = g; place = p }

-- one byte further, at the awaited byte a
abbrev on_to : ℕ → Place → Place
on_to a p = with_awaited (counted p 1 0) a

-- a byte that loads no register
frame_goes : (c : Chain) (g : List ℕ) (p q : Place) (b : ℕ) → number_of (placed c g p) b ≡ more → registers_of (placed c g p) b ≡ g
    → advance_of (counted p 1 (missed_of (placed c g p) [] b)) b ≡ q → Goes (placed c g p) (b ∷ []) (placed c g q)
frame_goes c g p q b e f h =
    subst (λ (d : Chain). Goes (placed c g p) (b ∷ []) d) (rw (f, h) refl) (goes_step (placed c g p) b e)

-- bytes that cannot be refused
module _ (c : Chain) (g : List ℕ) (p : Place) (b : ℕ) where
  address_goes : Goes (placed c g (with_awaited p at_address)) (b ∷ []) (placed c g (on_to at_address2 p))
  unfolding number_of registers_of missed_of advance_of
  address_goes = frame_goes c g (with_awaited p at_address) (on_to at_address2 p) b (simp and-false) refl refl

  address2_goes : Goes (placed c g (with_awaited p at_address2)) (b ∷ []) (placed c g (on_to at_address3 p))
  unfolding number_of registers_of missed_of advance_of
  address2_goes = frame_goes c g (with_awaited p at_address2) (on_to at_address3 p) b (simp and-false) refl refl

  address3_goes : Goes (placed c g (with_awaited p at_address3)) (b ∷ []) (placed c g (on_to at_count p))
  unfolding number_of registers_of missed_of advance_of
  address3_goes = frame_goes c g (with_awaited p at_address3) (on_to at_count p) b (simp and-false) refl refl

  null_goes : Goes (placed c g (with_awaited p at_null)) (b ∷ []) (placed c g (on_to at_start p))
  unfolding number_of registers_of missed_of advance_of
  null_goes = frame_goes c g (with_awaited p at_null) (on_to at_start p) b (simp and-false) refl refl

  start_goes : Goes (placed c g (with_awaited p at_start)) (b ∷ []) (placed c g (with_start (on_to at_start_low p) (b * 256)))
  unfolding number_of registers_of missed_of advance_of
  start_goes = frame_goes c g (with_awaited p at_start) (with_start (on_to at_start_low p) (b * 256)) b (simp and-false) refl refl

  end_goes : Goes (placed c g (with_awaited p at_end)) (b ∷ []) (placed c g (with_end (on_to at_end_low p) (b * 256)))
  unfolding number_of registers_of missed_of advance_of
  end_goes = frame_goes c g (with_awaited p at_end) (with_end (on_to at_end_low p) (b * 256)) b (simp and-false) refl refl

  -- the second bytes of a start and of an end, which are inside the device
  start_low_goes : (s : ℕ) → with_low p.start b ≡ s → s < size_at c p.device
      → Goes (placed c g (with_awaited p at_start_low)) (b ∷ []) (placed c g (with_start (on_to at_end p) s))
  unfolding number_of registers_of missed_of advance_of
  start_low_goes s e h =
      frame_goes c g (with_awaited p at_start_low) (with_start (on_to at_end p) s) b
      (simp (e, lt-ltb s (size_at c p.device) h, and-false)) refl (rw e refl)

  end_low_goes : (e : ℕ) → with_low p.end b ≡ e → p.start ≤ e → e < size_at c p.device
      → Goes (placed c g (with_awaited p at_end_low)) (b ∷ []) (placed c g (with_next (with_end (on_to at_data p) e) p.start))
  unfolding number_of registers_of missed_of advance_of
  end_low_goes e f l h =
      frame_goes c g (with_awaited p at_end_low) (with_next (with_end (on_to at_data p) e) p.start) b
      (simp (f, le-ltb e p.start l, lt-ltb e (size_at c p.device) h, and-false)) refl (rw f refl)

-- ---- windows

-- with k windows still to come: at a null byte, or at the check byte
abbrev between : ℕ → Place → Place
between k p = with_awaited (with_left p (pick (eqb k 0) p.left k)) (pick (eqb k 0) at_check at_null)

-- bytes that take a run from p to between windows, on the same device
record Reached (c : Chain) (g : List ℕ) (bs : List ℕ) (p : Place) (k : ℕ) : Type 0 where
  pub place : Place
  pub goes : Goes (placed c g p) bs (placed c g (between k place))
  pub device : place.device ≡ p.device
  pub check : place.check ≡ p.check
  pub control : place.control ≡ p.control

-- the last data byte of a window, with k windows after it
passed_end : (p : Place) (n k : ℕ) → p.left ≡ suc k → p.next + n ≡ suc p.end → passed_of p n ≡ between k (with_left (no_window p) 0)
unfolding passed_of
passed_end p n k e h = rw (lt-leb (p.next + n) p.end (omega arith), e) (either k)
  where
    either : (k : ℕ) → pick (ltb 1 (suc k)) (with_awaited (with_left (no_window p) (suc k - 1)) at_null) (with_awaited (with_left (no_window p) 0) at_check)
        ≡ between k (with_left (no_window p) 0)
    either zero = refl
    either (suc k) =
        let e : suc (suc k) - 1 ≡ suc k = omega arith in
        rw (lt-ltb 1 (suc (suc k)) (omega arith), e, eqb-suc-zero k) refl

data_goes : (c : Chain) (g : List ℕ) (p : Place) (bs : List ℕ) (k : ℕ) → p.awaited ≡ at_data → p.left ≡ suc k → 0 < length bs
    → p.next + length bs ≡ suc p.end → Reached c g bs p k
data_goes c g p bs k a e l h =
    let n : ℕ = misses_of p.check [] (address_of (placed c g p)) bs in
    let q : Place = counted p (length bs) n in
    record {
      place = with_left (no_window q) 0;
      goes = record { is = block bs (placed c g p) [] a l (omega arith) ∙ rw (no_memory, passed_end q (length bs) k e h) refl };
      device = refl;
      check = refl;
      control = refl;
    }
  where
    no_memory : laid_of p.check [] (address_of (placed c g p)) bs ≡ []
    no_memory = unfold laid_of in rw (sets_out bs [] (address_of (placed c g p)) (omega arith)) (either (eqb p.check writing))
      where
        either : (q : Bool) → pick {A = List ℕ} q [] [] ≡ []
        either true = refl
        either false = refl

-- a number's two bytes are the number
two_bytes : (x : ℕ) → with_low (x / 256 * 256) (x % 256) ≡ x
two_bytes x = omega (arith, div-add-mod' x 256, div-add-mod' (x / 256 * 256) 256, mod-lt (x / 256 * 256) (lit< {m = 0} {n = 256} tt))

window_goes : (c : Chain) (g : List ℕ) (p : Place) (d k base : ℕ) (w : Window) → p.device ≡ d → p.left ≡ suc k → Fits (size_at c d) w
    → Reached c g (bytes_of (window_sent base w)) (with_awaited p at_null) k
window_goes c g p d k base w i e f =
    let p1 : Place = on_to at_start p in
    let p2 : Place = with_start (on_to at_start_low p1) (w.start / 256 * 256) in
    let p3 : Place = with_start (on_to at_end p2) w.start in
    let p4 : Place = with_end (on_to at_end_low p3) (w.end / 256 * 256) in
    let p5 : Place = with_next (with_end (on_to at_data p4) w.end) w.start in
    let o : w.start ≤ w.end = f.order in
    let n : length w.bytes ≡ suc (w.end - w.start) = f.full in
    let end-in : w.end < size_at c p.device = subst (λ (x : ℕ). w.end < size_at c x) (sym i) f.inside in
    let start-in : w.start < size_at c p.device = omega arith in
    let t : Reached c g w.bytes p5 k = data_goes c g p5 w.bytes k refl e (omega arith) (omega arith) in
    let z : Chain = placed c g (between k t.place) in
    record {
      place = t.place;
      goes = goes_both {e = z} (null_goes c g p w.null)
          (goes_both {e = z} (start_goes c g p1 (w.start / 256))
          (goes_both {e = z} (start_low_goes c g p2 (w.start % 256) w.start (two_bytes w.start) start-in)
          (goes_both {e = z} (end_goes c g p3 (w.end / 256))
          (goes_both {e = z} (end_low_goes c g p4 (w.end % 256) w.end (two_bytes w.end) o end-in)
          (subst (λ (bs : List ℕ). Goes (placed c g p5) bs z) (sym (data_bytes (base + w.start) w.bytes)) t.goes)))));
      device = t.device;
      check = t.check;
      control = t.control;
    }

windows_go : (c : Chain) (g : List ℕ) (d base : ℕ) (ws : List Window) (p : Place) → p.device ≡ d → AllFit (size_at c d) ws
    → Reached c g (bytes_of (windows_sent base ws)) (between (length ws) p) 0
windows_go c g d base [] p i f = record { place = p; goes = goes_none; device = refl; check = refl; control = refl }
windows_go c g d base (w ∷ ws) p i f =
    let q : Place = with_left p (suc (length ws)) in
    let null : between (suc (length ws)) p ≡ with_awaited q at_null = rw (eqb-suc-zero (length ws)) refl in
    let a : Reached c g (bytes_of (window_sent base w)) (with_awaited q at_null) (length ws) = window_goes c g q d (length ws) base w i refl f.0 in
    let b : Reached c g (bytes_of (windows_sent base ws)) (between (length ws) a.place) 0 = windows_go c g d base ws a.place (a.device ∙ i) f.1 in
    let all : Reached c g (bytes_of (window_sent base w) ++ bytes_of (windows_sent base ws)) (with_awaited q at_null) 0 =
    record {
      place = b.place;
      goes = goes_both a.goes b.goes;
      device = b.device ∙ a.device;
      check = b.check ∙ a.check;
      control = b.control ∙ a.control;
    } in
    subst (λ (x : Place). Reached c g (bytes_of (windows_sent base (w ∷ ws))) x 0) (sym null)
    (subst (λ (bs : List ℕ). Reached c g bs (with_awaited q at_null) 0) (sym (bytes-append (window_sent base w) (windows_sent base ws))) all)

-- ---- a section

-- the sort of a run that was started with check
abbrev sort_of : ℕ → ℕ
sort_of check = pick (eqb check writing) writing checking

-- a bit that is clear in a check bars no run
no_bar : (check : ℕ) (bit : Bool) → (eqb check writing ≡ false → bit ≡ false) → (eqb (sort_of check) checking && bit) ≡ false
no_bar check bit h = by_test (eqb check writing) (λ e. rw e refl) (λ e. rw e (h e))

-- the registers after the control byte b
abbrev loaded_of : Chain → List ℕ → Place → ℕ → List ℕ
loaded_of c g p b = registers_of (placed c g (with_awaited p at_control)) b

control_goes : (c : Chain) (g : List ℕ) (p : Place) (b : ℕ) → (eqb p.check checking && B3 b) ≡ false
    → Goes (placed c g (with_awaited p at_control)) (b ∷ []) (placed c (loaded_of c g p b) (with_control (on_to at_address p) b))
control_goes c g p b e =
    subst (λ (d : Chain). Goes q (b ∷ []) d) here (goes_step q b number)
  where
    q : Chain
    q = placed c g (with_awaited p at_control)

    number : number_of q b ≡ more
    number = unfold number_of in simp (e, and-false)

    here : went_on q [] b ≡ placed c (loaded_of c g p b) (with_control (on_to at_address p) b)
    here = unfold missed_of advance_of in refl

-- the count of n windows
count_goes : (c : Chain) (g : List ℕ) (p : Place) (n : ℕ) → n ≤ no_windows
    → Goes (placed c g (with_awaited p at_count)) ((no_windows - n) ∷ []) (placed c g (between n (counted p 1 0)))
unfolding number_of registers_of missed_of advance_of
count_goes c g p n h =
    frame_goes c g (with_awaited p at_count) (between n (counted p 1 0)) (no_windows - n) (simp and-false) refl (either n h)
  where
    q : Place
    q = counted p 1 0

    either : (n : ℕ) → n ≤ no_windows
        → pick (eqb (no_windows - n) no_windows) (with_awaited q at_check) (with_awaited (with_left q (255 - (no_windows - n))) at_null) ≡ between n q
    either zero h = refl
    either (suc n) h =
        let e : 255 - (no_windows - suc n) ≡ suc n = omega arith in
        rw (ne_eqb (no_windows - suc n) no_windows (λ z. omega arith), e, eqb-suc-zero n) refl

-- a section takes a run from its device's control byte to the check byte
record Sectioned (c : Chain) (g : List ℕ) (bs : List ℕ) (p : Place) (b : ℕ) : Type 0 where
  pub place : Place
  pub goes : Goes (placed c g (with_awaited p at_control)) bs (placed c (loaded_of c g p b) (with_awaited place at_check))
  pub device : place.device ≡ p.device
  pub check : place.check ≡ p.check
  pub control : place.control ≡ b

section_goes : (c : Chain) (g : List ℕ) (d : ℕ) (s : Section) (p : Place) → p.device ≡ d → (eqb p.check checking && B3 s.control) ≡ false
    → SectionFits (size_at c d) s → Sectioned c g (bytes_of (section_sent (base_at c d) d s)) p s.control
section_goes c g d s p i e f =
    let h : List ℕ = loaded_of c g p s.control in
    let p1 : Place = with_control (on_to at_address p) s.control in
    let p2 : Place = on_to at_address2 p1 in
    let p3 : Place = on_to at_address3 p2 in
    let p4 : Place = on_to at_count p3 in
    let n : ℕ = length s.windows in
    let t : Reached c h (bytes_of (windows_sent (base_at c d) s.windows)) (between n (counted p4 1 0)) 0 =
    windows_go c h d (base_at c d) s.windows (counted p4 1 0) i f.fit in
    let z : Chain = placed c h (with_awaited t.place at_check) in
    record {
      place = t.place;
      goes = goes_both {e = z} (control_goes c g p s.control e)
          (goes_both {e = z} (address_goes c h p1 s.address0)
          (goes_both {e = z} (address2_goes c h p2 s.address1)
          (goes_both {e = z} (address3_goes c h p3 s.address2) (goes_both {e = z} (count_goes c h p4 n f.few) t.goes))));
      device = t.device;
      check = t.check;
      control = t.control;
    }

-- ---- from device to device

-- a device that lets the run in: neither B4 nor, in a check, B3 bars it
bars_no : (check k stored b : ℕ) → k ≡ sort_of check → Lets check stored b → (eqb k checking && B3 stored) ≡ false
bars_no check k stored b e h = rw e (no_bar check (B3 stored) h.b3)

-- B2 at the check byte begins device d, which lets the run in
module _ (c : Chain) (g : List ℕ) (p : Place) (check d b : ℕ) (k : p.check ≡ sort_of check) (i : suc p.device ≡ d) (l : d < c.count) (m : d < 256) where
  next_device_lem : (p.device + 1) % 2 ^ 8 ≡ d
  next_device_lem =
      let e : p.device + 1 ≡ d = omega arith in
      rw e (mod-eq_of_lt m)

  next_number_lem : B2 p.control ≡ false → Lets check (get_or g d 0) b → number_of (placed c g (with_awaited p at_check)) preamble ≡ more
  unfolding number_of
  next_number_lem f h =
      let e : leb c.count (p.device + 1) ≡ false = lt-leb c.count (p.device + 1) (omega arith) in
      simp (f, e, next_device_lem, h.b4, or-false, bars_no check p.check (get_or g d 0) b k h)

  next_goes : B2 p.control ≡ false → Lets check (get_or g d 0) b
      → Goes (placed c g (with_awaited p at_check)) (preamble ∷ []) (placed c g (with_awaited (with_control (with_device (counted p 1 0) d) 0) at_control))
  unfolding registers_of missed_of advance_of
  next_goes f h =
      frame_goes c g (with_awaited p at_check) (with_awaited (with_control (with_device (counted p 1 0) d) 0) at_control) preamble (next_number_lem f h)
      refl (rw next_device_lem refl)

-- the first device of those met
pub first_lets : (check : ℕ) (g : List ℕ) (d : ℕ) (s : Section) (ss : List Section) → AllLet check g d s ss → Lets check (get_or g d 0) s.control
first_lets check g d s [] h = h
first_lets check g d s (t ∷ ts) h = h.0

-- registers alike from device d on
pub lets_alike : (check : ℕ) (g h : List ℕ) (d : ℕ) (s : Section) (ss : List Section) → ((e : ℕ) → d ≤ e → get_or h e 0 ≡ get_or g e 0)
    → AllLet check g d s ss → AllLet check h d s ss
lets_alike check g h d s [] q l = subst (λ (x : ℕ). Lets check x s.control) (sym (q d (omega arith))) l
lets_alike check g h d s (t ∷ ts) q l =
    (subst (λ (x : ℕ). Lets check x s.control) (sym (q d (omega arith))) l.0, lets_alike check g h (suc d) t ts (λ e n. q e (omega arith)) l.1)

first_below : (c : Chain) (d : ℕ) (s : Section) (ss : List Section) → SectionsFit c d s ss → d < c.count
first_below c d s [] f = f.0
first_below c d s (t ∷ ts) f = f.0

ends-number : (c : Chain) (g : List ℕ) (p : Place) → number_of (placed c g (with_awaited p at_check)) postamble ≡ done
unfolding number_of
ends-number c g p = simp and-false

sections_accepted : (c : Chain) (check d : ℕ) (s : Section) (ss : List Section) (g : List ℕ) (p : Place) → c.count ≤ 8
    → p.device ≡ d → p.check ≡ sort_of check → AllLet check g d s ss → SectionsFit c d s ss
    → Accepted (placed c g (with_awaited p at_control)) (bytes_of (sections_sent c d s ss))
sections_accepted c check d s [] g p n i k l f =
    let e : (eqb p.check checking && B3 s.control) ≡ false = rw k (no_bar check (B3 s.control) l.sent_b3) in
    let t : Sectioned c g (bytes_of (section_sent (base_at c d) d s)) p s.control = section_goes c g d s p i e f.1 in
    subst (λ (bs : List ℕ). Accepted (placed c g (with_awaited p at_control)) bs) (sym (bytes-append (section_sent (base_at c d) d s) (frame postamble ∷ [])))
    (goes_accepted t.goes (last (ends-number c (loaded_of c g p s.control) t.place)))
sections_accepted c check d s (u ∷ us) g p n i k l f =
    let e : (eqb p.check checking && B3 s.control) ≡ false = rw k (no_bar check (B3 s.control) l.0.sent_b3) in
    let t : Sectioned c g (bytes_of (section_sent (base_at c d) d s)) p s.control = section_goes c g d s p i e f.1 in
    let h : List ℕ = loaded_of c g p s.control in
    let q : Place = with_control (with_device (counted t.place 1 0) (suc d)) 0 in
    let lets : AllLet check h (suc d) u us =
    lets_alike check g h (suc d) u us (λ x y. registers-later (placed c g (with_awaited p at_control)) s.control x (omega arith)) l.1 in
    let low : suc d < c.count = first_below c (suc d) u us f.3 in
    let go : Goes (placed c h (with_awaited t.place at_check)) (preamble ∷ []) (placed c h (with_awaited q at_control)) =
    next_goes c h t.place check (suc d) u.control (t.check ∙ k) (ap suc (t.device ∙ i)) low (omega arith) (ap B2 t.control ∙ f.2) (first_lets check h (suc d) u us lets) in
    subst (λ (bs : List ℕ). Accepted (placed c g (with_awaited p at_control)) bs)
    (sym (bytes-append (section_sent (base_at c d) d s) (frame preamble ∷ sections_sent c (suc d) u us)))
    (goes_accepted t.goes (goes_accepted go (sections_accepted c check (suc d) u us h q n refl (t.check ∙ k) lets f.3)))

-- ---- the stream

-- the preambles
record Led (c : Chain) (g : List ℕ) (bs : List ℕ) (p : Place) : Type 0 where
  pub place : Place
  pub goes : Goes (placed c g p) bs (placed c g (with_awaited place at_control))
  pub device : place.device ≡ p.device
  pub check : place.check ≡ p.check

module _ (c : Chain) (g : List ℕ) (p : Place) (check b : ℕ) (k : p.check ≡ sort_of check) (h : Lets check (get_or g p.device 0) b) where
  preamble_goes : eqb p.mode two_preambles ≡ false → Goes (placed c g (with_awaited p at_preamble)) (preamble ∷ []) (placed c g (on_to at_control p))
  unfolding number_of registers_of missed_of advance_of
  preamble_goes e =
      frame_goes c g (with_awaited p at_preamble) (on_to at_control p) preamble
      (simp (e, h.b4, or-false, bars_no check p.check (get_or g p.device 0) b k h)) refl (rw e refl)

  two_preambles_go : eqb p.mode two_preambles ≡ true → Goes (placed c g (with_awaited p at_preamble)) (preamble ∷ []) (placed c g (on_to at_second p))
  unfolding number_of registers_of missed_of advance_of
  two_preambles_go e =
      frame_goes c g (with_awaited p at_preamble) (on_to at_second p) preamble (simp (e, and-false)) refl (rw e refl)

  second_goes : Goes (placed c g (with_awaited p at_second)) (preamble ∷ []) (placed c g (on_to at_control p))
  unfolding number_of registers_of missed_of advance_of
  second_goes =
      frame_goes c g (with_awaited p at_second) (on_to at_control p) preamble
      (simp (h.b4, or-false, bars_no check p.check (get_or g p.device 0) b k h)) refl refl

lead_goes : (c : Chain) (g : List ℕ) (p : Place) (check b : ℕ) → p.check ≡ sort_of check → Lets check (get_or g p.device 0) b
    → Led c g (bytes_of (lead_sent p.mode)) (with_awaited p at_preamble)
lead_goes c g p check b k h =
    by_test (eqb p.mode two_preambles)
    (λ e. rw e
    (record {
      place = counted (counted p 1 0) 1 0;
      goes = goes_both (two_preambles_go c g p check b k h e) (second_goes c g (counted p 1 0) check b k h);
      device = refl;
      check = refl;
    }))
    (λ e. rw e (record { place = counted p 1 0; goes = preamble_goes c g p check b k h e; device = refl; check = refl }))

-- every chain of at most eight devices, every mode, a write and a check: only the devices that the stream meets are asked to let it in
pub stream-accepted : (c : Chain) (check mode : ℕ) (s : Section) (ss : List Section) → c.count ≤ 8 → Fitting c check mode s ss
    → Accepted (with_place c (opened_place mode check)) (bytes_of (stream_sent c mode s ss))
stream-accepted c check mode s ss n f =
    let g : List ℕ = c.registers in
    let l : Led c g (bytes_of (lead_sent mode)) (opened_place mode check) =
    lead_goes c g (opened_place mode check) check s.control refl (first_lets check g 0 s ss f.lets) in
    subst (λ (bs : List ℕ). Accepted (with_place c (opened_place mode check)) bs) (sym (bytes-append (lead_sent mode) (sections_sent c 0 s ss)))
    (goes_accepted l.goes (sections_accepted c check 0 s ss g l.place n l.device l.check f.lets f.fits))
