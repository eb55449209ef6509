-- One number more on a line, and one window's line more. Assumes nothing.
use Rattle.std.proofs.Common.{ℕ, ◌+◌, ◌<◌, ◌≤◌, ◌≡◌, ap, List, [], ◌∷◌, ◌++◌, add-one, length, drop, get_or, length-append, append-nil, append_assoc, arith}
use Rattle.std.proofs.Math.Seq.{drop-cons, drop-length}
use Rattle.listing.specs.Lines.{letter_W, space, line_feed, decimal_of, numbers_of, line_of}
use Rattle.listing.specs.Program.{window_lines}

-- number i and those after it
pub numbers_more : (ns : List ℕ) (i : ℕ) → i < length ns → numbers_of (drop i ns) ≡ (space ∷ decimal_of (get_or ns i 0)) ++ numbers_of (drop (i + 1) ns)
unfolding numbers_of
numbers_more ns i h = rw add-one (ap numbers_of (drop-cons ns i 0 h))

-- past the last the line feed
pub numbers_done : (ns : List ℕ) → numbers_of (drop (length ns) ns) ≡ line_feed ∷ []
unfolding numbers_of
numbers_done ns = ap numbers_of (drop-length ns)

-- a line that has room has room for the rest of it, where now is written of it: the number at hand, or the line feed
module _ (ns : List ℕ) (i room : ℕ) (now before all : List ℕ) (e : now ++ numbers_of (drop i ns) ≡ before ++ all) (h : length before + length all ≤ room) where
  rest_fits : length now + length (numbers_of (drop i ns)) ≤ room
  rest_fits = omega (arith, simp length-append at (ap length e), h)

  pub number_fits : i < length ns → length now + (1 + length (decimal_of (get_or ns i 0))) ≤ room
  number_fits l = omega (arith, rest_fits, simp length-append at (ap length (numbers_more ns i l)))

  pub feed_fits : i ≡ length ns → length now + 1 ≤ room
  feed_fits l = omega (arith, rw l at rest_fits, ap length (numbers_done ns))

-- one window's line more
pub line_more : (n start end : ℕ) (starts ends now new whole : List ℕ) → new ≡ now ++ line_of letter_W (n ∷ start ∷ end ∷ [])
    → now ++ window_lines n (start ∷ starts) (end ∷ ends) ≡ whole → new ++ window_lines (n + 1) starts ends ≡ whole
unfolding window_lines
line_more n start end starts ends now new whole e h = rw (e, append_assoc now) h

-- and none
pub lines_end : (n : ℕ) (starts ends now whole : List ℕ) → length starts ≡ 0 → now ++ window_lines n starts ends ≡ whole → now ≡ whole
unfolding window_lines
lines_end n [] ends now whole e h = rw append-nil at h
lines_end n (s ∷ ss) ends now whole e h = absurd (omega (arith, e))
