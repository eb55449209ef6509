-- The closing bytes are bytes, each row of them. Assumes nothing.
use Prim.Native.Nat.{ℕ, ◌+◌}
use mathlib.Core.Bool.{Bool, true, false}
use mathlib.Core.Path.{refl}
use mathlib.Core.List.{List, [], ◌∷◌}
use lib.Dec.{eqb, ltb, lit<}
use lib.ListN.{take, drop}
use Rattle.chain.specs.declared.Chain.{Chain}
use Rattle.chain.specs.Paper.{postamble, no_windows}
use Rattle.chain.specs.Rules.{pick, Row, ◌⇒◌, row_of}
use Rattle.chain.specs.Kinds.{base_of, size_here}
use Rattle.chain.specs.Window.{with_low, width_of}
use Rattle.chain.specs.Bytes.{Bytes}
use Rattle.chain.proofs.Bytes.{bytes-append, bytes_take, bytes-at, bytes_drop, bytes_below}
use Rattle.awaited.specs.Byte.{checks}
use Rattle.closing.specs.Closing.{stored_register, tail, window, after_preamble, ends_below, refuses_ff, with_ff, after_start, after_end, closing_rows, closing_bytes}

pick-bytes : (k : Bool) (xs ys : List ℕ) → Bytes xs → Bytes ys → Bytes (pick k xs ys)
pick-bytes true xs ys u v = u
pick-bytes false xs ys u v = v

-- every row's
abbrev EachBytes : List (Row (List ℕ)) → Type 0
EachBytes [] = Unit {0}
EachBytes ((n ⇒ x) ∷ rows) = Bytes x × EachBytes rows

row_bytes : (a : ℕ) (rows : List (Row (List ℕ))) → EachBytes rows → Bytes (row_of a rows [])
row_bytes a [] u = tt
row_bytes a ((n ⇒ x) ∷ rows) u = pick-bytes (eqb a n) x (row_of a rows []) u.0 (row_bytes a rows u.1)

module _ (c : Chain) (m : List ℕ) (g : Bytes c.registers) (u : Bytes m) where
  tail-bytes : Bytes (tail c.place)
  tail-bytes = pick-bytes (ltb 1 c.place.left) (0x00 ∷ 0xff ∷ 0xff ∷ []) (postamble ∷ []) (bytes_below (0x00 ∷ 0xff ∷ 0xff ∷ []) refl) (bytes_below (postamble ∷ []) refl)

  window_bytes_lem : (first last : ℕ) → Bytes (window c m first last)
  window_bytes_lem first last =
      let from = base_of c.kinds c.place.device + first in
      bytes-append (take (width_of first last) (drop from m)) (tail c.place) (bytes_take (width_of first last) (drop from m) (bytes_drop from m u)) tail-bytes

  control-bytes : Bytes (after_preamble c)
  control-bytes =
      pick-bytes (checks c) (0x08 ∷ []) (stored_register c ∷ 0x00 ∷ 0x00 ∷ 0x00 ∷ no_windows ∷ postamble ∷ []) (bytes_below (0x08 ∷ []) refl)
      (bytes-at c.registers g c.place.device, bytes_below (0x00 ∷ 0x00 ∷ 0x00 ∷ no_windows ∷ postamble ∷ []) refl)

  start-bytes : Bytes (after_start c)
  start-bytes = (lit< tt, pick-bytes (ltb (with_ff c.place.start) (size_here c)) (0xff ∷ 0xff ∷ []) [] (bytes_below (0xff ∷ 0xff ∷ []) refl) tt)

  end-bytes : Bytes (after_end c m)
  end-bytes =
      let p = c.place in
      let last = with_low p.end 0x00 in
      let closed : List ℕ = 0x00 ∷ window c m p.start last in
      pick-bytes (ends_below p) (0x00 ∷ []) (pick (refuses_ff c) (0xff ∷ []) closed) (bytes_below (0x00 ∷ []) refl)
      (pick-bytes (refuses_ff c) (0xff ∷ []) closed (bytes_below (0xff ∷ []) refl) (lit< tt, window_bytes_lem p.start last))

  each_bytes : EachBytes (closing_rows c m)
  each_bytes = (
    bytes_below (0x00 ∷ []) refl,
    (
      bytes_below (0x00 ∷ []) refl,
      (
        control-bytes,
        (
          bytes_below (0x00 ∷ 0x00 ∷ 0x00 ∷ no_windows ∷ postamble ∷ []) refl,
          (
            bytes_below (0x00 ∷ 0x00 ∷ no_windows ∷ postamble ∷ []) refl,
            (
              bytes_below (0x00 ∷ no_windows ∷ postamble ∷ []) refl,
              (
                bytes_below (no_windows ∷ postamble ∷ []) refl,
                (
                  bytes_below (postamble ∷ []) refl,
                  (
                    bytes_below (0x00 ∷ 0xff ∷ 0xff ∷ []) refl,
                    (
                      bytes_below (0xff ∷ 0xff ∷ []) refl,
                      (
                        start-bytes,
                        (
                          bytes_below (0xff ∷ 0xff ∷ []) refl,
                          (
                            end-bytes,
                            (window_bytes_lem c.place.next c.place.end, tt),
                          ),
                        ),
                      ),
                    ),
                  ),
                ),
              ),
            ),
          ),
        ),
      ),
    ),
  )

  pub closing_are_bytes : Bytes (closing_bytes c m)
  unfolding closing_bytes
  closing_are_bytes = row_bytes c.place.awaited (closing_rows c m) each_bytes
