-- Two saved places, written out: the layout at a glance. Assumes nothing.
use Prim.Native.Nat.{ℕ}
use mathlib.Core.Path.{◌≡◌, refl}
use mathlib.Core.List.{List, [], ◌∷◌, ◌++◌}
use lib.ListN.{replicate}
use Rattle.chain.specs.declared.Place.{Place}
use Rattle.chain.specs.Set.{with_running, with_mode, with_check, with_device, with_awaited, with_left, with_control, with_start, with_end, with_next, with_taken, with_mismatches, closed_place}
use Rattle.saved.specs.Layout.{form1, saved_in, saved_bytes, held_in, place_in, registers_in}

-- stream A of document 01, stopped after 13 of its 15 bytes
abbrev stopped : Place
stopped =
    let p = with_left (with_awaited (with_mode (with_running closed_place 1) 1) 12) 1 in
    with_taken (with_next (with_end (with_start p 9) 11) 11) 13

pub stopped-bytes : saved_bytes (replicate 8 0) stopped
    ≡ 0x12 ∷ 0x18 ∷ 0x01 ∷ 0x00 ∷ 0x00 ∷ 0x09 ∷ 0x00 ∷ 0x0b ∷ 0x00 ∷ 0x0b ∷ 0x00 ∷ 0x00 ∷ 0x00 ∷ 0x0d ∷ 0x00 ∷ 0x00 ∷ 0x00 ∷ 0x00 ∷ replicate 9 0
unfolding saved_in
stopped-bytes = refl

-- a check in the third device, no byte of which is like another's but the control byte, which is the third register
abbrev full : Place
full =
    let p = with_awaited (with_device (with_check (with_mode (with_running closed_place 1) 5) 1) 2) 12 in
    let q = with_next (with_end (with_start (with_left p 0xa5) 0x0102) 0x0304) 0x0203 in
    with_control (with_mismatches (with_taken q 0x05060708) 0x090a0b0c) 0xe7

abbrev registers : List ℕ
registers = 0x11 ∷ 0x12 ∷ 0xe7 ∷ 0x14 ∷ 0x15 ∷ 0x16 ∷ 0x17 ∷ 0x18 ∷ []

abbrev full_bytes : List ℕ
full_bytes =
    0x1b ∷ 0x58 ∷ 0xa5 ∷ 0x00
    ∷ 0x01 ∷ 0x02 ∷ 0x03 ∷ 0x04 ∷ 0x02 ∷ 0x03
    ∷ 0x05 ∷ 0x06 ∷ 0x07 ∷ 0x08 ∷ 0x09 ∷ 0x0a ∷ 0x0b ∷ 0x0c
    ∷ (registers ++ (0xe7 ∷ []))

pub full_bytes_lem : saved_bytes registers full ≡ full_bytes
unfolding saved_in
full_bytes_lem = refl

pub full_place : place_in form1 full_bytes ≡ full
unfolding held_in
full_place = refl

pub full-registers : registers_in form1 full_bytes ≡ registers
unfolding held_in
full-registers = refl
