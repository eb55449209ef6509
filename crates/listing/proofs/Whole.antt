-- The whole text, by the length of the input, and from a reader to a writer. Assumes nothing.
use Rattle.std.proofs.Common.{ℕ, ◌+◌, ◌-◌, ◌≤◌, ◌<◌, ◌≡◌, sym, ap, ◌∙◌, subst, List, [], ◌++◌, append-nil, length, take, drop, get_or, length-drop, length-append, take_all, ltb, Option, Some, None, Result, Ok, Err, OnOk, IfSome, arith}
use Rattle.std.proofs.Math.Seq.{take_at}
use borrow.Author.Tests.{lt-ltb, le-ltb, ltb-true, ltb-false}
use Rattle.chain.proofs.ByCases.{by_test}
use Rattle.std.specs.Io.KnownBytes.{Appends, Consumes, IsAtEnd}
use Rattle.chain.specs.Paper.{bad_chain}
use Rattle.listing.specs.Lines.{letter_L, line_of}
use Rattle.listing.specs.Program.{most_input, answer_line, program_lines, text_of, Writes}

module _ (input : List ℕ) where
  pub too_short : length input < 2 → text_of input ≡ answer_line bad_chain 0 []
  unfolding text_of
  too_short h = rw (lt-ltb (length input) 2 h)

  pub too_long : most_input < length input → text_of input ≡ line_of letter_L []
  unfolding text_of
  too_long h = rw (le-ltb (length input) 2 (omega arith), lt-ltb most_input (length input) h)

  -- the stream is all that follows the first two bytes
  pub taken : 2 ≤ length input → length input ≤ most_input
      → text_of input ≡ program_lines (get_or input 1 0) (get_or input 0 0) (take (length input - 2) (drop 2 input))
  unfolding text_of
  taken h l =
      rw (
        le-ltb (length input) 2 h,
        le-ltb most_input (length input) l,
        take_all (length input - 2) (drop 2 input) (omega (arith, length-drop 2 input)),
      )

-- of what is read: all of the input, or so much that more makes no difference
read_enough : (block rest : List ℕ) (n : ℕ) → length block ≡ most_input + 1 → n ≡ length (take n block) → (n < length block → rest ≡ [])
    → text_of (take n block) ≡ text_of (take n block ++ rest)
read_enough block rest n l k e =
    by_test (ltb n (length block))
    (λ t. ap text_of (sym (rw (e (ltb-true n (length block) t)) (append-nil (take n block)))))
    (λ f. let long : most_input < n = omega (arith, ltb-false n (length block) f) in
    too_long (take n block) (omega arith) ∙ sym (too_long (take n block ++ rest) (omega (arith, length-append (take n block) rest))))

-- so the text of what was read is that of the input
pub passes : {E : Type 0} (r : Result (Unit {0}) E) (from left held holds : Option (List ℕ)) (block out out' : List ℕ) (n k : ℕ) → length block ≡ most_input + 1
    → n ≡ length (take n block) → Consumes from left (take n block) → OnOk r (n < length block → IsAtEnd left)
    → Writes (take n block) out k out' → Appends held holds (take k out') → OnOk r (IfSome from (λ input. Appends held holds (text_of input)))
passes (Err e) from left held holds block out out' n k l c q d w a = tt
passes (Ok x) None left held holds block out out' n k l c q d w a = tt
passes (Ok x) (Some xs) None held holds block out out' n k l c q d w a = absurd q
passes (Ok x) (Some xs) (Some rest) held holds block out out' n k l c q d w a =
    let t : take k out' ≡ text_of (take n block) = ap (take k) w.output ∙ take_at (text_of (take n block)) _ k (sym w.answer) in
    let e : text_of (take n block) ≡ text_of xs = read_enough block rest n l c d ∙ ap text_of (sym q) in
    subst (Appends held holds) (t ∙ e) a
