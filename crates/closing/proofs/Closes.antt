-- The law of closing bytes: in every state whose run the calls take as open they end it, at exactly their last byte, and change no cell and no
-- register; they are at most size + 3. Assumes nothing.
use Prim.Native.Nat.{ℕ, suc, ◌+◌, ◌-◌, ◌%◌, ◌^◌, ◌<◌, ◌≤◌}
use mathlib.Core.Bool.{false, ◌&&◌, ◌||◌}
use mathlib.Core.Path.{◌≡◌, refl, ap, ◌∙◌}
use mathlib.Core.List.{List, [], ◌∷◌}
use native.Mathlib.Omega.{arith}
use lib.Dec.{eqb, ltb}
use lib.ListN.{length, take}
use borrow.Author.Tests.{ne_eqb, le-ltb}
use Rattle.chain.proofs.ByCases.{by_test, no_case, ◌or◌, below}
use Rattle.chain.proofs.FirstOf.{first_never}
use Rattle.chain.proofs.Means.{says, reads}
use Rattle.chain.proofs.Sound.{feed_is_open}
use Rattle.chain.specs.declared.Chain.{Chain}
use Rattle.chain.specs.Paper.{at_preamble, at_second, at_control, at_null, at_start, at_start_low, at_end, at_end_low, at_data, done, no_preamble, no_check, bad_start, bad_end, more}
use Rattle.chain.specs.Rules.{Rule, ◌gives◌, first_of, from}
use Rattle.chain.specs.Set.{with_place, closed_place}
use Rattle.chain.specs.Kinds.{size_here}
use Rattle.chain.specs.Window.{with_low}
use Rattle.chain.specs.State.{open_number, feed_number}
use Rattle.awaited.specs.Byte.{checks}
use Rattle.machine.specs.Run.{run, run_of}
use Rattle.machine.specs.Calls.{answered, fed_of, slice_of, slice_memory}
use Rattle.closing.specs.Closing.{with_ff, window, ends_below, refuses_ff, closing_bytes}
use Rattle.closing.specs.Calls.{written_number}
use Rattle.closing.proofs.Meets.{number_open}
use Rattle.closing.proofs.Ends.{Ends}
use Rattle.closing.proofs.Rows.{ends_0, ends_1, ends_2, ends_3, ends_4, ends_5, ends_6, ends_7, ends_8, ends_9, ends_10, ends_11, ends_12, ends_13}
use Rattle.closing.proofs.Sound.{Within, within}
use Rattle.closing.proofs.Least.{after_most}
use Rattle.closing.proofs.NoneShorter.{window-least}

-- when the closing bytes end a run with a number other than 0: 5 at a preamble, 7 in a check at 2, 11 and 12 where a start or an end is sent
-- that is none
abbrev pub end_rules : Chain → List Rule
end_rules c =
    let p = c.place in
    (from at_preamble at_second p.awaited gives no_preamble)
    ∷ (eqb p.awaited at_control && checks c gives no_check)
    ∷ (from at_null at_start p.awaited gives bad_start)
    ∷ (eqb p.awaited at_start_low && ltb (with_ff p.start) (size_here c) gives bad_end)
    ∷ (eqb p.awaited at_start_low gives bad_start)
    ∷ (eqb p.awaited at_end gives bad_end)
    ∷ (eqb p.awaited at_end_low && (ends_below p || refuses_ff c) gives bad_end)
    ∷ (from at_end_low at_data p.awaited && ltb 1 p.left gives bad_start)
    ∷ []

unfoldable pub closing_number : Chain → ℕ
closing_number c = first_of (end_rules c) done

-- what document 01 asks of closing bytes
pub record Closes (c : Chain) (m : List ℕ) : Type 0 where
  pub number : (run_of (run c m more) (closing_bytes c m)).number ≡ closing_number c
  pub over : closing_number c ≡ more → ⊥
  pub memory : (run_of (run c m more) (closing_bytes c m)).memory ≡ m
  pub registers : (run_of (run c m more) (closing_bytes c m)).chain.registers ≡ c.registers
  pub late : (k : ℕ) → k < length (closing_bytes c m) → (run_of (run c m more) (take k (closing_bytes c m))).number ≡ more
  pub short : length (closing_bytes c m) ≤ size_here c + 3

-- ---- all awaited bytes

module _ (c : Chain) (m : List ℕ) where
  -- at the awaited byte a the closing bytes end the run, and are short
  record Closed-at (a : ℕ) : Type 0 where
    pub ends : c.place.awaited ≡ a → Ends c m (closing_bytes c m) (closing_number c)
    pub short : c.place.awaited ≡ a → length (closing_bytes c m) ≤ size_here c + 3

  shaped : {bs : List ℕ} {n : ℕ} → Ends c m bs n → closing_bytes c m ≡ bs → closing_number c ≡ n → Ends c m (closing_bytes c m) (closing_number c)
  shaped h p q = rw (p, q) h

module _ (c : Chain) (m : List ℕ) (s : Within c m) where
  small : size_here c ≤ 65535
  small = omega (arith, s.most)

  least : 52 ≤ size_here c
  least = s.least

  row_9 : Closed-at c m 9
  unfolding closing_bytes closing_number
  row_9 =
      record {
        ends = λ e. shaped c m (ends_9 c m small e) (rw e) (rw e);
        short = λ e. rw e (by_test (ltb (with_ff c.place.start) (size_here c)) (λ q. rw q (omega arith)) (λ q. rw q (omega arith)));
      }

  -- a window's cells and its tail, of three bytes at most
  window-short : (first last : ℕ) → length (window c m first last) ≤ last - first + 4
  window-short first last = omega (arith, window-least c m first last, after_most c.place)

  row_12 : Closed-at c m 12
  unfolding closing_bytes closing_number
  row_12 =
      record {
        ends = λ e.
            let w = s.cells e in
            shaped c m (ends_12 c m small e w.0 (omega (arith, s.inside))) (rw e) (rw e);
        short = λ e.
            let w = s.cells e in
            rw e (omega (arith, window-short c.place.next c.place.end));
      }

  row_2 : Closed-at c m 2
  unfolding closing_bytes closing_number
  row_2 =
      record {
        ends = λ e. shaped c m (ends_2 c m e) (rw e) (rw e);
        short = λ e. rw e (by_test (checks c) (λ q. rw q (omega arith)) (λ q. rw q (omega (arith, least))));
      }

  -- the window up to 256h leaves room for the byte before it
  row_11 : Closed-at c m 11
  unfolding closing_bytes closing_number
  row_11 =
      record {
        ends = λ e. shaped c m (ends_11 c m small e s.inside) (rw e) (rw e);
        short = λ e.
            rw e
            (by_test (ends_below c.place) (λ q. rw q (omega arith))
            (λ b. by_test (refuses_ff c) (λ q. rw (b, q) (omega arith)) (λ q. rw (b, q) (fits q))));
      }
    where
      fits : refuses_ff c ≡ false → suc (length (window c m c.place.start (with_low c.place.end 0x00))) ≤ size_here c + 3
      fits q =
          let p = c.place in
          let t : (p.start ≤ with_ff p.end) × (with_ff p.end < size_here c) = says (search reads) q in
          omega (arith, window-short p.start (with_low p.end 0x00))

  every : Closed-at c m c.place.awaited
  unfolding closing_bytes closing_number
  every =
      below (Closed-at c m) 14
      (no_case
      or record { ends = λ e. shaped c m (ends_0 c m e) (rw e) (rw e); short = λ e. rw e (omega arith) }
      or record { ends = λ e. shaped c m (ends_1 c m e) (rw e) (rw e); short = λ e. rw e (omega arith) }
      or row_2
      or record { ends = λ e. shaped c m (ends_3 c m e) (rw e) (rw e); short = λ e. rw e (omega (arith, least)) }
      or record { ends = λ e. shaped c m (ends_4 c m e) (rw e) (rw e); short = λ e. rw e (omega (arith, least)) }
      or record { ends = λ e. shaped c m (ends_5 c m e) (rw e) (rw e); short = λ e. rw e (omega arith) }
      or record { ends = λ e. shaped c m (ends_6 c m e) (rw e) (rw e); short = λ e. rw e (omega arith) }
      or record { ends = λ e. shaped c m (ends_7 c m small e) (rw e) (rw e); short = λ e. rw e (omega arith) }
      or record { ends = λ e. shaped c m (ends_8 c m small e) (rw e) (rw e); short = λ e. rw e (omega arith) }
      or row_9
      or record { ends = λ e. shaped c m (ends_10 c m small e) (rw e) (rw e); short = λ e. rw e (omega arith) }
      or row_11
      or row_12
      or record { ends = λ e. shaped c m (ends_13 c m e) (rw e) (rw e); short = λ e. rw e (omega arith) })
      c.place.awaited s.awaited

-- no closing number is 16
never_more : (c : Chain) → closing_number c ≡ more → ⊥
unfolding closing_number
never_more c = first_never (end_rules c) done more (omega arith) tt

-- ---- the law

-- for every chain, place and memory that the calls take as an open run; the struct holds eight kinds
pub closes : (c : Chain) (m : List ℕ) → length c.kinds ≡ 8 → open_number c (length m) ≡ done → Closes c m
closes c m eight h =
    let r = every c m (within c m h eight) in
    let e = r.ends refl in
    record {
      number = rw e.is;
      over = never_more c;
      memory = rw e.is;
      registers = rw e.is (ap (λ (d : Chain). d.registers) e.along.chain);
      late = e.late;
      short = r.short refl;
    }

-- all that the slice call answers and leaves: every byte counted, no mismatch more, no run open, and else all as it was
pub record SliceCloses (c : Chain) (m : List ℕ) : Type 0 where
  pub fed : slice_of c m (closing_bytes c m)
      ≡ answered (with_place c closed_place) (closing_number c) ((c.place.taken + length (closing_bytes c m)) % 2 ^ 32) (c.place.mismatches % 2 ^ 32)
  pub memory : slice_memory c m (closing_bytes c m) ≡ m

pub slice_closes : (c : Chain) (m : List ℕ) → length c.kinds ≡ 8 → feed_number c (length m) ≡ done → SliceCloses c m
unfolding slice_of slice_memory fed_of
slice_closes c m eight h =
    let e = (every c m (within c m (feed_is_open c (length m) h) eight)).ends refl in
    let z : c.place.mismatches + 0 ≡ c.place.mismatches = omega arith in
    record {
      fed = rw (h, e.is, ne_eqb (closing_number c) more (never_more c), e.along.chain, e.along.taken, e.along.mismatches, z);
      memory = rw (h, e.is);
    }

-- an output of size + 3 bytes is never too short
pub room_enough : (c : Chain) (m : List ℕ) (room : ℕ) → length c.kinds ≡ 8 → open_number c (length m) ≡ done → size_here c + 3 ≤ room
    → written_number c m room ≡ done
room_enough c m room eight h l =
    let s = (closes c m eight h).short in
    number_open c m room h ∙ rw (le-ltb room (length (closing_bytes c m)) (omega arith))
