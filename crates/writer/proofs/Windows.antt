-- Windows taken from the front of the two tables. Assumes nothing.
use Prim.Native.Nat.{ℕ, ◌+◌, ◌*◌}
use mathlib.Core.Path.{◌≡◌, refl, sym, ap, ◌∙◌}
use mathlib.Core.List.{List, [], ◌∷◌, ◌++◌}
use mathlib.Core.Logic.{◌⊎◌, inl, inr}
use native.Mathlib.Omega.{arith}
use lib.ListN.{length, take, drop, length-append, length-drop}
use lib.Seq.{length-take-le}
use borrow.Author.Tests.{eqb-false}
use Rattle.chain.specs.declared.refusal.Refusal.{Refusal}
use Rattle.chain.specs.Refusal.{number_of}
use Rattle.chain.proofs.ByCases.{by_test}
use Rattle.chain.proofs.PassedUp.{not_done}
use Rattle.chain.specs.Paper.{done, bad_start, bad_end}
use Rattle.chain.specs.Window.{width_of, start_outside, end_outside, window_number}
use Rattle.grammar.specs.Stream.{window_sent, windows_sent}
use Rattle.grammar.specs.Tables.{window_of, windows_from}
use Rattle.grammar.proofs.OneReading.{bytes-append, data_bytes}
use Rattle.writer.specs.Stream.{window_bytes, windows_bytes}
use Rattle.writer.specs.Write.{windows_number, sum_of}

-- one window more
pub bytes-more : (s e : ℕ) (ss es d : List ℕ)
    → windows_bytes (s ∷ ss) (e ∷ es) d ≡ window_bytes s e (take (width_of s e) d) ++ windows_bytes ss es (drop (width_of s e) d)
unfolding windows_from
bytes-more s e ss es d =
    bytes-append (window_sent 0 (window_of s e (take (width_of s e) d))) (windows_sent 0 (windows_from ss es (drop (width_of s e) d)))

-- the window in front is refused, or it is not and the others decide
pub number_stops : (size s e : ℕ) (ss es : List ℕ) (x : Refusal) → number_of x ≡ window_number size s e → windows_number size (s ∷ ss) (e ∷ es) ≡ number_of x
unfolding windows_number
number_stops size s e ss es x h =
    by_test (start_outside size s)
    (λ p. rw p (sym (h ∙ rw p)))
    (λ p.
    by_test (end_outside size s e)
    (λ q. rw (p, q) (sym (h ∙ rw (p, q))))
    (λ q. absurd (eqb-false (number_of x) done (not_done x) (h ∙ rw (p, q)))))

pub number-goes : (size s e : ℕ) (ss es : List ℕ) → done ≡ window_number size s e → windows_number size (s ∷ ss) (e ∷ es) ≡ windows_number size ss es
unfolding windows_number
number-goes size s e ss es h =
    by_test (start_outside size s)
    (λ p. let z : done ≡ bad_start = h ∙ rw p in absurd (omega (arith, z)))
    (λ p.
    by_test (end_outside size s e)
    (λ q. let z : done ≡ bad_end = h ∙ rw (p, q) in absurd (omega (arith, z)))
    (λ q. rw (p, q)))

-- two tables as long as one another are used up together: what the end of a loop over both tells
pub used_up : {A B : Type 0} {P : A → Type 0} {Q : B → Type 0} (m n : ℕ) → m ≡ n → ((x : A) × (m ≡ 0 × P x)) ⊎ ((x : B) × (n ≡ 0 × Q x)) → m ≡ 0
used_up m n e (inl p) = p.1.0
used_up m n e (inr p) = e ∙ p.1.0

-- none left
pub bytes-done : (ss es d : List ℕ) → length ss ≡ 0 → windows_bytes ss es d ≡ []
unfolding windows_from
bytes-done [] es d h = refl
bytes-done (s ∷ ss) es d h = absurd (omega (arith, h))

pub sum_done : (ss es : List ℕ) → length ss ≡ 0 → sum_of ss es ≡ 0
unfolding sum_of
sum_done [] es h = refl
sum_done (s ∷ ss) es h = absurd (omega (arith, h))

pub number-done : (size : ℕ) (ss es : List ℕ) → length ss ≡ 0 → windows_number size ss es ≡ done
unfolding windows_number
number-done size [] es h = refl
number-done size (s ∷ ss) es h = absurd (omega (arith, h))

-- five bytes for each window beside its data
pub window-length : (s e : ℕ) (d : List ℕ) → length (window_bytes s e d) ≡ 5 + length d
window-length s e d = omega (arith, ap length (data_bytes (0 + s) d))

pub bytes-length : (ss es d : List ℕ) → length ss ≡ length es → length d ≡ sum_of ss es
    → length (windows_bytes ss es d) ≡ 5 * length ss + length d
unfolding windows_from sum_of
bytes-length [] es d e s = omega (arith, s)
bytes-length (s ∷ ss) [] d e h = absurd (omega (arith, e))
bytes-length (s ∷ ss) (x ∷ es) d e h =
    let r = bytes-length ss es (drop (width_of s x) d) (omega (arith, e)) (omega (arith, length-drop (width_of s x) d)) in
    let t = take (width_of s x) d in
    ap length (bytes-append (window_sent 0 (window_of s x t)) (windows_sent 0 (windows_from ss es (drop (width_of s x) d))))
    ∙ length-append (window_bytes s x t) (windows_bytes ss es (drop (width_of s x) d))
    ∙ omega (arith, r, window-length s x t, length-take-le (width_of s x) d (omega arith), length-drop (width_of s x) d)
