-- One byte of an open run: which number it gives, and where the run goes on. Assumes nothing.
use Rattle.std.specs.Prelude.{◌≡◌, ◌≢◌, ℕ, ◌+◌, ◌-◌, ◌*◌, ◌%◌, ◌^◌, Bool, not, ◌&&◌, ◌||◌, List, [], ◌∷◌, ◌==◌, nat_eq, nat_le, nat_lt, slice_index, Result, Ok, Err}
use Rattle.std.specs.declared.ops.ControlFlow.{ControlFlow}
use Rattle.std.specs.declared.ops.ControlFlow.TheVariants.{Continue, Break}
use Rattle.chain.specs.declared.Chain.{Chain}
use Rattle.chain.specs.declared.Place.{Place}
use Rattle.chain.specs.declared.refusal.Refusal.{Refusal}
use Rattle.chain.specs.Paper.{preamble, postamble, no_windows, at_preamble, at_second, at_control, at_address, at_address2, at_address3, at_count, at_null, at_start, at_start_low, at_end, at_end_low, at_data, at_check, checking, two_preambles, done, no_preamble, barred, no_check, bad_check_byte, ends_here, last_device, bad_start, bad_end, more, B2, B3, B4}
use Rattle.chain.specs.Rules.{pick, Rule, ◌gives◌, first_of, Row, ◌⇒◌, row_of}
use Rattle.chain.specs.Set.{with_awaited, with_left, with_control, with_start, with_end, with_next, with_device}
use Rattle.chain.specs.Kinds.{size_here}
use Rattle.chain.specs.Refusal.{answered}
use Rattle.chain.specs.Window.{with_low, start_outside, end_outside}

-- the run awaits the byte a
abbrev pub awaits : Chain → ℕ → Bool
awaits c a = c.place.awaited == a

abbrev pub checks : Chain → Bool
checks c = c.place.check == checking

-- b begins a device: B2 at the preamble, in mode 6 at the second, or at the check byte
abbrev pub begins : Chain → ℕ → Bool
begins c b =
    (b == preamble)
    && (awaits c at_preamble && not (c.place.mode == two_preambles) || awaits c at_second || awaits c at_check)

abbrev pub next_device : Place → ℕ
next_device p = (p.device + 1) % 2 ^ 8

-- the stored register of the device that B2 would begin: this one, at the check byte the next
abbrev pub register_begun : Chain → ℕ
register_begun c = slice_index c.registers (pick (awaits c at_check) (next_device c.place) c.place.device)

-- no device stands after the run's
abbrev pub on_last : Chain → Bool
on_last c = nat_le c.count (c.place.device + 1)

-- 11, at the start's second byte: not below the device's size
abbrev pub is_bad_start : Chain → ℕ → Bool
is_bad_start c b = start_outside (size_here c) (with_low c.place.start b)

-- 12, at the end's second byte: below start or not below size
abbrev pub is_bad_end : Chain → ℕ → Bool
is_bad_end c b = end_outside (size_here c) c.place.start (with_low c.place.end b)

-- what a byte of an open run gives. Both orders of document 01, 5 6 7 at a preamble and 8 9 10 6 7 at the check byte, are in this one
abbrev pub byte_rules : Chain → ℕ → List Rule
byte_rules c b =
    ((awaits c at_preamble || awaits c at_second) && not (b == preamble) gives no_preamble)
    ∷ (awaits c at_check && not (b == postamble) && not (b == preamble) gives bad_check_byte)
    ∷ (awaits c at_check && b == preamble && B2 c.place.control gives ends_here)
    ∷ (awaits c at_check && b == preamble && on_last c gives last_device)
    ∷ (begins c b && B4 (register_begun c) gives barred)
    ∷ (checks c && (begins c b && B3 (register_begun c) || awaits c at_control && B3 b) gives no_check)
    ∷ (awaits c at_start_low && is_bad_start c b gives bad_start)
    ∷ (awaits c at_end_low && is_bad_end c b gives bad_end)
    ∷ (awaits c at_check && nat_eq b postamble gives done)
    ∷ []

unfoldable pub number_of : Chain → ℕ → ℕ
number_of c b = first_of (byte_rules c b) more

-- what a byte gives, as the code has it, by its number: the run goes on at 16, and is over at every other
abbrev pub Given : ControlFlow (Result Unit Refusal) Unit → ℕ → Type 0
Given (Continue x) n = n ≡ more
Given (Break end) n = (answered end ≡ n) × (n ≢ more)

-- a test of the byte: where it passes the run goes on
abbrev pub Passes : Result Unit Refusal → ℕ → Type 0
Passes (Ok x) n = n ≡ more
Passes (Err e) n = Given (Break (Err e)) n

abbrev pub no_window : Place → Place
no_window p = with_start (with_end (with_next p 0) 0) 0

-- n data bytes of a window are passed: on to a later cell, or at its end to the next window or the check byte
unfoldable pub passed_of : Place → ℕ → Place
passed_of p n =
    pick (nat_le (p.next + n) p.end) (with_next p (p.next + n))
    (pick (nat_lt 1 p.left) (with_awaited (with_left (no_window p) (p.left - 1)) at_null)
    (with_awaited (with_left (no_window p) 0) at_check))

-- where a run goes on after the byte b, by the awaited byte
abbrev pub advance_rows : Place → ℕ → List (Row Place)
advance_rows p b =
    (at_preamble ⇒ with_awaited p (pick (p.mode == two_preambles) at_second at_control))
    ∷ (at_second ⇒ with_awaited p at_control)
    ∷ (at_control ⇒ with_awaited (with_control p b) at_address)
    ∷ (at_address ⇒ with_awaited p at_address2)
    ∷ (at_address2 ⇒ with_awaited p at_address3)
    ∷ (at_address3 ⇒ with_awaited p at_count)
    ∷ (at_count ⇒ pick (b == no_windows) (with_awaited p at_check) (with_awaited (with_left p (255 - b)) at_null))
    ∷ (at_null ⇒ with_awaited p at_start)
    ∷ (at_start ⇒ with_awaited (with_start p (b * 256)) at_start_low)
    ∷ (at_start_low ⇒ with_awaited (with_start p (with_low p.start b)) at_end)
    ∷ (at_end ⇒ with_awaited (with_end p (b * 256)) at_end_low)
    ∷ (at_end_low ⇒ with_awaited (with_next (with_end p (with_low p.end b)) p.start) at_data)
    ∷ (at_data ⇒ passed_of p 1)
    ∷ (at_check ⇒ with_awaited (with_control (with_device p (next_device p)) 0) at_control)
    ∷ []

unfoldable pub advance_of : Place → ℕ → Place
advance_of p b = row_of p.awaited (advance_rows p b) p
