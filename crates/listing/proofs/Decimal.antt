-- A number's digits are those that std writes, and how long a line is. Assumes nothing.
use Rattle.std.proofs.Common.{ℕ, suc, ◌%◌, ◌^◌, ◌≤◌, ◌<◌, ◌≡◌, refl, [], ◌∷◌, length, length-append, arith}
use Rattle.std.specs.Fmt.{decimal}
use Rattle.std.proofs.lemmas.Fmt.{AppendsLastDigit, decimal_from_appends, length-decimal-le, length-decimal-le_succ}
use borrow.Author.Tests.{lt-ltb, le-ltb}
use Rattle.listing.specs.Lines.{letter_W, digits_within, decimal_of, numbers_of, line_of}
use Rattle.listing.specs.Program.{answer_line}

last_digit : AppendsLastDigit digits_within
unfolding digits_within
last_digit =
    record {
      one = λ k n h. let e : n % 10 ≡ n = omega arith in rw (lt-ltb n 10 h, e) refl;
      more = λ k n h. rw (le-ltb n 10 h) refl;
    }

pub decimal_is : (n : ℕ) → n < 2 ^ 64 → decimal_of n ≡ decimal n
unfolding decimal_of
decimal_is n h = decimal_from_appends digits_within last_digit (suc n) n h (omega (arith, length-decimal-le_succ n h))

decimal_short : (k n : ℕ) → 0 < k → n < 10 ^ k → n < 2 ^ 64 → length (decimal_of n) ≤ k
decimal_short k n h l m = rw (decimal_is n m) (length-decimal-le k n h l m)

-- the longest lines: a window's number is a byte and its bounds are of 16 bits, an answer's number is a byte and its bytes taken are of 32
window_digits : (n start end : ℕ) → n < 2 ^ 8 → start < 2 ^ 16 → end < 2 ^ 16
    → (length (decimal_of n) ≤ 3) × (length (decimal_of start) ≤ 5) × (length (decimal_of end) ≤ 5)
window_digits n start end h k l = (
  decimal_short 3 n (omega arith) (omega arith) (omega arith),
  decimal_short 5 start (omega arith) (omega arith) (omega arith),
  decimal_short 5 end (omega arith) (omega arith) (omega arith),
)

answer_digits : (number taken : ℕ) → number < 2 ^ 8 → taken < 2 ^ 32 → (length (decimal_of number) ≤ 3) × (length (decimal_of taken) ≤ 10)
answer_digits number taken h k =
    (decimal_short 3 number (omega arith) (omega arith) (omega arith), decimal_short 10 taken (omega arith) (omega arith) (omega arith))

pub window_line : (n start end : ℕ) → n < 2 ^ 8 → start < 2 ^ 16 → end < 2 ^ 16 → length (line_of letter_W (n ∷ start ∷ end ∷ [])) ≤ 18
unfolding numbers_of
window_line n start end h k l =
    let d = window_digits n start end h k l in
    simp length-append (omega (arith, d.0, d.1, d.2))

pub answer_line_lem : (number taken : ℕ) → number < 2 ^ 8 → taken < 2 ^ 32 → length (answer_line number taken []) ≤ 17
unfolding numbers_of
answer_line_lem number taken h k =
    let d = answer_digits number taken h k in
    simp length-append (omega (arith, d.0, d.1))

-- with two bytes after it
pub where_line : (number taken p left : ℕ) → number < 2 ^ 8 → taken < 2 ^ 32 → p < 2 ^ 8 → left < 2 ^ 8 → length (answer_line number taken (p ∷ left ∷ [])) ≤ 25
unfolding numbers_of
where_line number taken p left h k l m =
    let d = answer_digits number taken h k in
    let e = answer_digits p 0 l (omega arith) in
    let f = answer_digits left 0 m (omega arith) in
    simp length-append (omega (arith, d.0, d.1, e.0, f.0))
