-- The closing bytes of a stopped run, by awaited byte, as document 01 lists them; at 2 in a check and at 11 as document 02 has them. Assumes
-- nothing.
use Rattle.std.specs.Prelude.{ℕ, ◌+◌, Bool, not, ◌&&◌, List, [], ◌∷◌, ◌++◌, get_or, take, drop, eqb, ltb}
use Rattle.chain.specs.declared.Chain.{Chain}
use Rattle.chain.specs.declared.Place.{Place}
use Rattle.chain.specs.Paper.{postamble, no_windows, at_preamble, at_second, at_control, at_address, at_address2, at_address3, at_count, at_null, at_start, at_start_low, at_end, at_end_low, at_data, at_check}
use Rattle.chain.specs.Rules.{pick, Row, ◌⇒◌, row_of}
use Rattle.chain.specs.Kinds.{base_of, size_here}
use Rattle.chain.specs.Window.{high_byte, low_byte, with_low, width_of, end_outside}
use Rattle.awaited.specs.Byte.{checks}

-- the current device's stored register
abbrev pub stored_register : Chain → ℕ
stored_register c = get_or c.registers c.place.device 0

-- 256h + 255, with h the high byte of x
abbrev pub with_ff : ℕ → ℕ
with_ff x = with_low x 0xff

-- 00 FF FF if windows remain after this one, which is counted too, else 4D
abbrev pub tail : Place → List ℕ
tail p = pick (ltb 1 p.left) (0x00 ∷ 0xff ∷ 0xff ∷ []) (postamble ∷ [])

-- the present values of the device's cells from first to last, then the tail
abbrev pub window : Chain → List ℕ → ℕ → ℕ → List ℕ
window c m first last = take (width_of first last) (drop (base_of c.kinds c.place.device + first) m) ++ tail c.place

-- at 2: in a check 08 alone, which sets B3: 7 ends the run. In a write the stored register, and a stream with no windows goes on from there
abbrev pub after_preamble : Chain → List ℕ
after_preamble c = pick (checks c) (0x08 ∷ []) (stored_register c ∷ 0x00 ∷ 0x00 ∷ 0x00 ∷ no_windows ∷ postamble ∷ [])

-- at 9: FF, then FF FF if that start is below size
abbrev pub after_start : Chain → List ℕ
after_start c = 0xff ∷ pick (ltb (with_ff c.place.start) (size_here c)) (0xff ∷ 0xff ∷ []) []

-- at 11: the end's high byte h is the start's, and the start's low byte is not zero: the end 256h is then below start
abbrev pub ends_below : Place → Bool
ends_below p = eqb (high_byte p.end) (high_byte p.start) && not (eqb (low_byte p.start) 0)

-- at 11: 256h + 255 is no end: it is not below size, or it is below start
abbrev pub refuses_ff : Chain → Bool
refuses_ff c = end_outside (size_here c) c.place.start (with_ff c.place.end)

-- at 11, in this order: 00 alone where the end 256h is below start as above, also where FF would be refused too; FF alone where 256h + 255 is no
-- end; else 00, and the window from start to 256h
abbrev pub after_end : Chain → List ℕ → List ℕ
after_end c m =
    let p = c.place in
    pick (ends_below p) (0x00 ∷ [])
    (pick (refuses_ff c) (0xff ∷ [])
    (0x00 ∷ window c m p.start (with_low p.end 0x00)))

-- by awaited byte
abbrev pub closing_rows : Chain → List ℕ → List (Row (List ℕ))
closing_rows c m =
    let p = c.place in
    (at_preamble ⇒ 0x00 ∷ [])
    ∷ (at_second ⇒ 0x00 ∷ [])
    ∷ (at_control ⇒ after_preamble c)
    ∷ (at_address ⇒ 0x00 ∷ 0x00 ∷ 0x00 ∷ no_windows ∷ postamble ∷ [])
    ∷ (at_address2 ⇒ 0x00 ∷ 0x00 ∷ no_windows ∷ postamble ∷ [])
    ∷ (at_address3 ⇒ 0x00 ∷ no_windows ∷ postamble ∷ [])
    ∷ (at_count ⇒ no_windows ∷ postamble ∷ [])
    ∷ (at_check ⇒ postamble ∷ [])
    ∷ (at_null ⇒ 0x00 ∷ 0xff ∷ 0xff ∷ [])
    ∷ (at_start ⇒ 0xff ∷ 0xff ∷ [])
    ∷ (at_start_low ⇒ after_start c)
    ∷ (at_end ⇒ 0xff ∷ 0xff ∷ [])
    ∷ (at_end_low ⇒ after_end c m)
    ∷ (at_data ⇒ window c m p.next p.end)
    ∷ []

unfoldable pub closing_bytes : Chain → List ℕ → List ℕ
closing_bytes c m = row_of c.place.awaited (closing_rows c m) []
