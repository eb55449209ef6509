-- The windows of an accepted stream: what the machine reads there is windows of the grammar, which fit their device. Assumes nothing.
use Prim.Native.Nat.{ℕ, zero, suc, ◌+◌, ◌-◌, ◌*◌, ◌/◌, ◌%◌, ◌≤◌, ◌<◌}
use mathlib.Core.Bool.{Bool, true, false, not, ◌||◌, true≢false}
use mathlib.Core.Path.{◌≡◌, refl, ap, sym, subst, ◌∙◌}
use mathlib.Core.List.{List, [], ◌∷◌}
use native.Mathlib.Nat.{div-add-mod', mod-lt, mul-div_cancel}
use native.Mathlib.Omega.{arith}
use lib.Dec.{ltb, lit<}
use lib.ListN.{length}
use borrow.Author.Tests.{ltb-true, ltb-false, lt-leb, le-leb, not-false, lt-ltb}
use Rattle.chain.specs.declared.Chain.{Chain}
use Rattle.chain.specs.declared.Place.{Place}
use Rattle.chain.specs.Paper.{at_null, at_start, at_start_low, at_end, at_end_low, at_data, at_check}
use Rattle.chain.specs.Set.{with_place, with_awaited, with_left, with_start, with_end, with_next}
use Rattle.chain.specs.Window.{with_low}
use Rattle.awaited.specs.Byte.{no_window, passed_of, advance_of}
use Rattle.machine.specs.Run.{address_of, registers_of, missed_of, counted, went_on}
use Rattle.chain.specs.Kinds.{size_at}
use Rattle.grammar.specs.Stream.{base_at, Window, data_sent, window_sent, windows_sent}
use Rattle.grammar.specs.Sent.{cell, frame}
use Rattle.grammar.specs.Fits.{Fits, AllFit}
use Rattle.chain.specs.Bytes.{Bytes}
use Rattle.grammar.specs.Stores.{aim}
use Rattle.grammar.proofs.Accepted.{Accepted}
use Rattle.grammar.proofs.ReadByte.{Left, left_both, OneLeft, one, Moves}

-- one byte more taken, none missed
abbrev pub counting : Place → Place
counting p = counted p 1 0

-- ---- two bytes make a number

pub high : (a b : ℕ) → b < 256 → with_low (a * 256) b / 256 ≡ a
high a b h =
    omega (arith, mul-div_cancel a {n = 256} (lit< tt), div-add-mod' (with_low (a * 256) b) 256, mod-lt (with_low (a * 256) b) (lit< {m = 0} {n = 256} tt))

pub low : (a b : ℕ) → b < 256 → with_low (a * 256) b % 256 ≡ b
low a b h =
    omega (arith, mul-div_cancel a {n = 256} (lit< tt), div-add-mod' (with_low (a * 256) b) 256, mod-lt (with_low (a * 256) b) (lit< {m = 0} {n = 256} tt))

-- the place after a high byte and after a low byte
abbrev start_high : Place → ℕ → Place
start_high p b = with_awaited (with_start (counting p) (b * 256)) at_start_low

abbrev start_low : Place → ℕ → Place
start_low p b = with_awaited (with_start (counting p) (with_low p.start b)) at_end

abbrev end_high : Place → ℕ → Place
end_high p b = with_awaited (with_end (counting p) (b * 256)) at_end_low

abbrev end_low : Place → ℕ → Place
end_low p b = with_awaited (with_next (with_end (counting p) (with_low p.end b)) p.start) at_data

-- ---- the null byte and the start

-- w windows are left, this one too
abbrev awaits_null : Place → ℕ → Place
awaits_null p w = with_awaited (with_left p w) at_null

abbrev awaits_end : Place → ℕ → ℕ → Place
awaits_end p w s = with_awaited (with_start (with_left p w) s) at_end

pub record StartLeft (c : Chain) (bs : List ℕ) (p : Place) (w : ℕ) : Type 0 where
  pub null : ℕ
  pub start : ℕ
  pub rest : List ℕ
  pub run : Place
  pub inside : start < size_at c p.device
  pub left : Left c bs (awaits_null p w) (frame null ∷ frame (start / 256) ∷ frame (start % 256) ∷ []) rest (awaits_end run w start)

module _ (c : Chain) (bs : List ℕ) (p : Place) (u : Bytes bs) where
  null_one : Accepted (with_place c (with_awaited p at_null)) bs → OneLeft c bs (with_awaited p at_null) (λ b. with_awaited (counting p) at_start)
  unfolding registers_of missed_of advance_of
  null_one h = one c bs (with_awaited p at_null) (λ b. with_awaited (counting p) at_start) refl (λ b. (refl, refl, refl)) u h

  start-one : Accepted (with_place c (with_awaited p at_start)) bs → OneLeft c bs (with_awaited p at_start) (start_high p)
  unfolding registers_of missed_of advance_of
  start-one h = one c bs (with_awaited p at_start) (start_high p) refl (λ b. (refl, refl, refl)) u h

  start_low-one : Accepted (with_place c (with_awaited p at_start_low)) bs → OneLeft c bs (with_awaited p at_start_low) (start_low p)
  unfolding registers_of missed_of advance_of
  start_low-one h = one c bs (with_awaited p at_start_low) (start_low p) refl (λ b. (refl, refl, refl)) u h

  end-one : Accepted (with_place c (with_awaited p at_end)) bs → OneLeft c bs (with_awaited p at_end) (end_high p)
  unfolding registers_of missed_of advance_of
  end-one h = one c bs (with_awaited p at_end) (end_high p) refl (λ b. (refl, refl, refl)) u h

  end_low-one : Accepted (with_place c (with_awaited p at_end_low)) bs → OneLeft c bs (with_awaited p at_end_low) (end_low p)
  unfolding registers_of missed_of advance_of
  end_low-one h = one c bs (with_awaited p at_end_low) (end_low p) refl (λ b. (refl, refl, refl)) u h

parse_start : (c : Chain) (bs : List ℕ) (p : Place) (w : ℕ) → Bytes bs → Accepted (with_place c (awaits_null p w)) bs → StartLeft c bs p w
parse_start c bs p w u h =
    let n = null_one c bs (with_left p w) u h in
    let x = start-one c n.rest (counting (with_left p w)) n.left.bytes n.left.accepted in
    let y = start_low-one c x.rest (start_high (counting (with_left p w)) x.byte) x.left.bytes x.left.accepted in
    record {
      null = n.byte;
      start = with_low (x.byte * 256) y.byte;
      rest = y.rest;
      run = counting (counting (counting p));
      inside = ltb-true _ _ (not-false _ y.tells.start);
      left = rw (high x.byte y.byte y.small, low x.byte y.byte y.small) (left_both n.left (left_both x.left y.left));
    }

-- ---- the end

both_off : (a b : Bool) → (a || b) ≡ false → (a ≡ false) × (b ≡ false)
both_off true b e = absurd (true≢false e)
both_off false b e = (refl, e)

pub record EndLeft (c : Chain) (bs : List ℕ) (p : Place) (w s : ℕ) : Type 0 where
  pub end : ℕ
  pub rest : List ℕ
  pub run : Place
  pub order : s ≤ end
  pub inside : end < size_at c p.device
  pub left : Left c bs (awaits_end p w s) (frame (end / 256) ∷ frame (end % 256) ∷ []) rest
      (with_awaited (with_left (with_next (with_end (with_start run s) end) s) w) at_data)

parse_end : (c : Chain) (bs : List ℕ) (p : Place) (w s : ℕ) → Bytes bs → Accepted (with_place c (awaits_end p w s)) bs → EndLeft c bs p w s
parse_end c bs p w s u h =
    let x = end-one c bs (awaits_end p w s) u h in
    let y = end_low-one c x.rest (end_high (awaits_end p w s) x.byte) x.left.bytes x.left.accepted in
    let t = both_off (ltb (with_low (x.byte * 256) y.byte) s) (not (ltb (with_low (x.byte * 256) y.byte) (size_at c p.device))) y.tells.end in
    record {
      end = with_low (x.byte * 256) y.byte;
      rest = y.rest;
      run = counting (counting p);
      order = ltb-false _ _ t.0;
      inside = ltb-true _ _ (not-false _ t.1);
      left = rw (high x.byte y.byte y.small, low x.byte y.byte y.small) (left_both x.left y.left);
    }

-- ---- data bytes

-- w windows are to come: where there is none, the check byte is awaited
abbrev awaited_for : ℕ → ℕ
awaited_for zero = at_check
awaited_for (suc w) = at_null

abbrev left_for : ℕ → ℕ → ℕ
left_for zero left = left
left_for (suc w) left = suc w

abbrev pub before : Place → ℕ → Place
before p w = with_awaited (with_left p (left_for w p.left)) (awaited_for w)

-- data is awaited, and w windows are to come after this one
abbrev awaits_data : Place → ℕ → Place
awaits_data p w = with_awaited (with_left p (suc w)) at_data

-- after one data byte
abbrev data_taken : Chain → Place → ℕ → ℕ → Place
data_taken c p w b = counted p 1 (missed_of (with_place c (awaits_data p w)) [] b)

-- after the window's last byte, and after one before it
abbrev window_over : Chain → Place → ℕ → ℕ → Place
window_over c p w b = with_left (no_window (data_taken c p w b)) 0

abbrev next_cell : Chain → Place → ℕ → ℕ → Place
next_cell c p w b = with_next (data_taken c p w b) (p.next + 1)

module _ (c : Chain) (p : Place) (w : ℕ) where
  data_last : p.next ≡ p.end → Moves c (awaits_data p w) (λ b. before (window_over c p w b) w)
  unfolding registers_of advance_of passed_of
  data_last e b = (here w, refl, refl)
    where
      here : (w : ℕ) → went_on (with_place c (awaits_data p w)) [] b ≡ with_place c (before (window_over c p w b) w)
      here zero = rw (lt-leb (p.next + 1) p.end (omega arith))
      here (suc w) =
          let l : suc (suc w) - 1 ≡ suc w = omega arith in
          rw (lt-leb (p.next + 1) p.end (omega arith), lt-ltb 1 (suc (suc w)) (omega arith), l)

  data_inner : p.next < p.end → Moves c (awaits_data p w) (λ b. awaits_data (next_cell c p w b) w)
  unfolding registers_of advance_of passed_of
  data_inner h b = (rw (le-leb (p.next + 1) p.end (omega arith)), refl, refl)

  -- the byte's cell
  data_aim : (i : ℕ) → i ≡ base_at c p.device + p.next → aim (with_place c (awaits_data p w)) ≡ cell i
  unfolding address_of
  data_aim i e = ap cell (sym e)

pub record DataLeft (c : Chain) (bs : List ℕ) (p : Place) (w i k : ℕ) : Type 0 where
  pub values : List ℕ
  pub rest : List ℕ
  pub run : Place
  pub long : length values ≡ suc k
  pub left : Left c bs (awaits_data p w) (data_sent i values) rest (before run w)

module _ (c : Chain) (bs : List ℕ) (p : Place) (w i : ℕ) (e : i ≡ base_at c p.device + p.next) where
  data_end : OneLeft c bs (awaits_data p w) (λ b. before (window_over c p w b) w) → DataLeft c bs p w i 0
  data_end x =
      record {
        values = x.byte ∷ [];
        rest = x.rest;
        run = window_over c p w x.byte;
        long = refl;
        left = rw (data_aim c p w i e) at x.left;
      }

  data_on : (k : ℕ) (x : OneLeft c bs (awaits_data p w) (λ b. awaits_data (next_cell c p w b) w))
      → DataLeft c x.rest (next_cell c p w x.byte) w (suc i) k → DataLeft c bs p w i (suc k)
  data_on k x d =
      record {
        values = x.byte ∷ d.values;
        rest = d.rest;
        run = d.run;
        long = ap suc d.long;
        left = left_both (rw (data_aim c p w i e) at x.left) d.left;
      }

parse_data : (c : Chain) (k : ℕ) (bs : List ℕ) (p : Place) (w i : ℕ) → i ≡ base_at c p.device + p.next → p.next + k ≡ p.end
    → Bytes bs → Accepted (with_place c (awaits_data p w)) bs → DataLeft c bs p w i k
parse_data c zero bs p w i e n u h =
    data_end c bs p w i e
    (one c bs (awaits_data p w) (λ b. before (window_over c p w b) w) refl (data_last c p w (omega arith)) u h)
parse_data c (suc k) bs p w i e n u h =
    let x = one c bs (awaits_data p w) (λ b. awaits_data (next_cell c p w b) w) refl (data_inner c p w (omega arith)) u h in
    data_on c bs p w i e k x
    (parse_data c k x.rest (next_cell c p w x.byte) w (suc i) (omega arith) (omega arith) x.left.bytes x.left.accepted)

-- ---- a window

pub record WindowLeft (c : Chain) (bs : List ℕ) (p : Place) (w : ℕ) : Type 0 where
  pub window : Window
  pub rest : List ℕ
  pub run : Place
  pub fits : Fits (size_at c p.device) window
  pub left : Left c bs (before p (suc w)) (window_sent (base_at c p.device) window) rest (before run w)

module _ (c : Chain) (bs : List ℕ) (p : Place) (w : ℕ) (a : StartLeft c bs p (suc w)) where
  -- where its data begins
  abbrev data_from : EndLeft c a.rest a.run (suc w) a.start → Place
  data_from b = with_next (with_end (with_start b.run a.start) b.end) a.start

  window_of_lem : (b : EndLeft c a.rest a.run (suc w) a.start)
      → DataLeft c b.rest (data_from b) w (base_at c p.device + a.start) (b.end - a.start) → WindowLeft c bs p w
  window_of_lem b d =
      record {
        window = record { null = a.null; start = a.start; end = b.end; bytes = d.values };
        rest = d.rest;
        run = d.run;
        fits = record { order = b.order; inside = subst (λ (x : ℕ). b.end < size_at c x) a.left.device b.inside; full = d.long };
        left = left_both a.left (left_both b.left d.left);
      }

  window-end : (b : EndLeft c a.rest a.run (suc w) a.start) → WindowLeft c bs p w
  window-end b =
      let dev : b.run.device ≡ p.device = b.left.device ∙ a.left.device in
      let ord : a.start ≤ b.end = b.order in
      window_of_lem b
      (parse_data c (b.end - a.start) b.rest (data_from b) w (base_at c p.device + a.start)
      (ap (λ (x : ℕ). base_at c x + a.start) (sym dev)) (omega arith) b.left.bytes b.left.accepted)

parse_window : (c : Chain) (bs : List ℕ) (p : Place) (w : ℕ) → Bytes bs → Accepted (with_place c (before p (suc w))) bs → WindowLeft c bs p w
parse_window c bs p w u h =
    let a = parse_start c bs p (suc w) u h in
    window-end c bs p w a (parse_end c a.rest a.run (suc w) a.start a.left.bytes a.left.accepted)

-- ---- all windows of a section

pub record WindowsLeft (c : Chain) (bs : List ℕ) (p : Place) (w : ℕ) : Type 0 where
  pub windows : List Window
  pub rest : List ℕ
  pub run : Place
  pub many : length windows ≡ w
  pub fits : AllFit (size_at c p.device) windows
  pub left : Left c bs (before p w) (windows_sent (base_at c p.device) windows) rest (before run 0)

windows-on : (c : Chain) (bs : List ℕ) (p : Place) (w : ℕ) (a : WindowLeft c bs p w) → WindowsLeft c a.rest a.run w → WindowsLeft c bs p (suc w)
windows-on c bs p w a b =
    let dev : a.run.device ≡ p.device = a.left.device in
    record {
      windows = a.window ∷ b.windows;
      rest = b.rest;
      run = b.run;
      many = ap suc b.many;
      fits = (a.fits, subst (λ (d : ℕ). AllFit (size_at c d) b.windows) dev b.fits);
      left = left_both a.left
          (subst (λ (d : ℕ). Left c a.rest (before a.run w) (windows_sent (base_at c d) b.windows) b.rest (before b.run 0)) dev b.left);
    }

pub parse_windows : (c : Chain) (w : ℕ) (bs : List ℕ) (p : Place) → Bytes bs → Accepted (with_place c (before p w)) bs → WindowsLeft c bs p w
parse_windows c zero bs p u h =
    record { windows = []; rest = bs; run = p; many = refl; fits = tt; left = record { sends = refl; accepted = h; bytes = u; device = refl; control = refl } }
parse_windows c (suc w) bs p u h =
    let a = parse_window c bs p w u h in
    windows-on c bs p w a (parse_windows c w a.rest a.run a.left.bytes a.left.accepted)
