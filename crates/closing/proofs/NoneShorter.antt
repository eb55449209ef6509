-- The closing bytes are at most as many as their run needs at least, so no shorter string of bytes ends it, whatever that string changes. Of every
-- chain, place and memory. Assumes nothing.
use Prim.Native.Nat.{ℕ, ◌+◌, ◌<◌, ◌≤◌}
use mathlib.Core.Path.{◌≡◌, refl}
use mathlib.Core.List.{List, []}
use native.Mathlib.Omega.{arith}
use lib.Dec.{ltb}
use lib.ListN.{length, take, drop, length-append, length-take}
use borrow.Author.Tests.{ltb-true, ltb-false}
use Rattle.chain.proofs.ByCases.{by_test, no_case, ◌or◌, below}
use Rattle.chain.specs.declared.Chain.{Chain}
use Rattle.chain.specs.declared.Place.{Place}
use Rattle.chain.specs.Paper.{more}
use Rattle.chain.specs.Bytes.{Bytes}
use Rattle.chain.specs.Kinds.{base_of, size_here}
use Rattle.chain.specs.Window.{with_low, width_of}
use Rattle.awaited.specs.Byte.{checks}
use Rattle.machine.specs.Run.{run, run_of}
use Rattle.closing.specs.Closing.{with_ff, tail, window, ends_below, refuses_ff, closing_rows, closing_bytes}
use Rattle.closing.proofs.Least.{least_after, least, no_row, run_needs}

tail-least : (p : Place) → length (tail p) ≤ least_after p
tail-least p = by_test (ltb 1 p.left) (λ q. rw q (omega arith)) (λ q. rw q (omega arith))

module _ (c : Chain) (m : List ℕ) where
  -- a window's cells, as far as memory goes, and its tail
  pub window-least : (first last : ℕ) → length (window c m first last) ≤ width_of first last + least_after c.place
  window-least first last =
      let from = drop (base_of c.kinds c.place.device + first) m in
      omega (arith, length-append (take (width_of first last) from) (tail c.place), length-take (width_of first last) from, tail-least c.place)

  abbrev Enough : ℕ → Type 0
  Enough a = c.place.awaited ≡ a → length (closing_bytes c m) ≤ least c

  enough_2 : Enough 2
  unfolding closing_bytes least
  enough_2 e = rw e (by_test (checks c) (λ q. rw q (omega arith)) (λ q. rw q (omega arith)))

  enough_9 : Enough 9
  unfolding closing_bytes least
  enough_9 e = rw e (by_test (ltb (with_ff c.place.start) (size_here c)) (λ q. rw q (omega arith)) (λ q. rw q (omega arith)))

  enough_11 : Enough 11
  unfolding closing_bytes least
  enough_11 e =
      rw e
      (by_test (ends_below c.place) (λ q. rw q (omega arith))
      (λ b.
      by_test (refuses_ff c) (λ q. rw (b, q) (omega arith))
      (λ q. rw (b, q) (omega (arith, window-least c.place.start (with_low c.place.end 0x00))))))

  enough_12 : Enough 12
  unfolding closing_bytes least
  enough_12 e = rw e (window-least c.place.next c.place.end)

  enough : (a : ℕ) → a < 14 → Enough a
  unfolding closing_bytes least
  enough =
      below Enough 14
      (no_case
      or (λ e. rw e (omega arith))
      or (λ e. rw e (omega arith))
      or enough_2
      or (λ e. rw e (omega arith))
      or (λ e. rw e (omega arith))
      or (λ e. rw e (omega arith))
      or (λ e. rw e (omega arith))
      or (λ e. rw e (omega arith))
      or (λ e. rw e (omega arith))
      or enough_9
      or (λ e. rw e (omega arith))
      or enough_11
      or enough_12
      or (λ e. rw e (omega arith)))

  pub closing-least : length (closing_bytes c m) ≤ least c
  unfolding closing_bytes
  closing-least =
      by_test (ltb c.place.awaited 14) (λ e. enough c.place.awaited (ltb-true c.place.awaited 14 e) refl)
      (λ e. rw (no_row 14 c.place.awaited (closing_rows c m) [] refl (ltb-false c.place.awaited 14 e)) (omega arith))

  -- a string that ends the run, whatever it changes and whatever the number
  pub none_shorter : (bs : List ℕ) → Bytes bs → ((run_of (run c m more) bs).number ≡ more → ⊥) → length (closing_bytes c m) ≤ length bs
  none_shorter bs small n = omega (arith, closing-least, (run_needs bs small c m).ends n)
