-- The ways through the program, one law for each: refused before the lister, or what the lister is given. Assumes nothing.
use Prim.Native.Nat.{ℕ, ◌≤◌}
use mathlib.Core.Bool.{true, false}
use mathlib.Core.Path.{◌≡◌, refl, sym, ap, ◌∙◌}
use mathlib.Core.List.{List, [], ◌∷◌}
use borrow.Author.Tests.{eq-eqb, ne_eqb, eqb-true, le-ltb}
use native.Mathlib.Omega.{arith}
use lib.Dec.{eqb}
use lib.ListN.{length, take}
use Rattle.chain.specs.Paper.{first_mode, two_preambles, serial_external, serial_internal, done, bad_chain, no_preamble, serial}
use Rattle.chain.specs.Rules.{from}
use Rattle.chain.specs.Kinds.{size_of}
use Rattle.chain.specs.declared.kinds.Kind.{Kind}
use Rattle.chain.specs.declared.kinds.Kind.TheVariants.{Teaching, At6002, At6003, At6005, At6010}
use Rattle.chain.specs.KnownKinds.{kind_number}
use Rattle.hunt.specs.declared.Hunted.{Hunted}
use Rattle.hunt.specs.Hunt.{nowhere, found_at, hunted_bytes, hunt_number, hunt_of, Hunt}
use Rattle.hunt.proofs.Answers.{hunted-count, done-found, done-figures, done-front}
use Rattle.lister.specs.Listing.{list_stop, listing_of}
use Rattle.chain.proofs.ByCases.{by_test}
use Rattle.listing.specs.Program.{most_input, lister_stop, program_stop, window_lines, answer_line, lines_of, program_lines}

-- modes 3 and 4 are modes
serial_mode : (mode : ℕ) → serial mode ≡ true → from first_mode two_preambles mode ≡ true
serial_mode mode m =
    by_test (eqb mode serial_external) (λ y. rw (eqb-true mode serial_external y))
    (λ y. rw (eqb-true mode serial_internal (rw y at m)))

pub no_serial : (mode : ℕ) → from first_mode two_preambles mode ≡ false → serial mode ≡ false
no_serial mode f = by_test (serial mode) (λ y. cc (serial_mode mode y)) (λ y. y)

-- a known kind has a size
kind_sized : (k : Kind) → size_of (kind_number k) ≡ 0 → ⊥
unfolding size_of
kind_sized Teaching z = omega arith
kind_sized At6002 z = omega arith
kind_sized At6003 z = omega arith
kind_sized At6005 z = omega arith
kind_sized At6010 z = omega arith

pub kind_known : (k : Kind) (n : ℕ) → kind_number k ≡ n → size_of n ≡ 0 → ⊥
kind_known k n e z = kind_sized k (ap size_of e ∙ z)

-- what the hunt answers in the program's own output
pub hunt_answer : (s out : List ℕ) (r : Hunted) (out' : List ℕ) → Hunt s out r out' → length out ≡ most_input → r ≡ hunt_of s most_input
hunt_answer s out r out' h e = rw (← e) h.answer

-- and where there is room for all of the stream
module _ (s out : List ℕ) (r : Hunted) (out' : List ℕ) (h : Hunt s out r out') (room : length s ≤ length out) where
  enough : length (hunted_bytes s) ≤ length out
  enough = omega (arith, hunted-count s (found_at s) refl)

  number_is : r.number ≡ hunt_number s (length out)
  unfolding hunt_of
  number_is = ap (λ (x : Hunted). x.number) h.answer

  pub hunt_fails_lem : (r.number ≡ done → ⊥) → found_at s ≡ nowhere
  unfolding hunt_number
  hunt_fails_lem z =
      by_test (eqb (found_at s) nowhere) (λ y. eqb-true (found_at s) nowhere y)
      (λ y. absurd (z (number_is ∙ simp (y, le-ltb (length out) (length (hunted_bytes s)) enough))))

  module _ (z : r.number ≡ done) where
    is_done : hunt_number s (length out) ≡ done
    is_done = sym number_is ∙ z

    pub hunt_finds : eqb (found_at s) nowhere ≡ false
    hunt_finds = ne_eqb (found_at s) nowhere (λ e. omega (arith, e, done-found s out is_done))

    hunt_length : r.length ≡ length (hunted_bytes s)
    hunt_length = ap (λ (x : Hunted). x.length) h.answer ∙ (done-figures s out is_done).2

    pub hunt_inside : r.length ≤ length out
    hunt_inside = omega (arith, hunt_length, enough)

    pub hunt_front : take r.length out' ≡ hunted_bytes s
    hunt_front = rw (h.answer, h.output) (done-front s out is_done)

    pub hunt_count : r.length ≡ length (take r.length out')
    hunt_count = hunt_length ∙ sym (ap length hunt_front)

-- the lines of each way
module _ (kind mode : ℕ) (s : List ℕ) where
  pub way_kind : serial mode ≡ true → size_of kind ≡ 0 → program_lines kind mode s ≡ answer_line bad_chain 0 (0 ∷ 0 ∷ [])
  unfolding program_lines program_stop lines_of listing_of window_lines
  way_kind m h = simp (m, eq-eqb (size_of kind) 0 h)

  module _ (k : size_of kind ≡ 0 → ⊥) (m : serial mode ≡ true) where
    pub way_nowhere : found_at s ≡ nowhere → program_lines kind mode s ≡ answer_line no_preamble 0 (0 ∷ 0 ∷ [])
    unfolding program_lines program_stop lines_of listing_of window_lines hunt_of hunt_number
    way_nowhere h = simp (ne_eqb (size_of kind) 0 k, serial_mode mode m, m, eq-eqb (found_at s) nowhere h)

    pub way_hunted : (h : Hunted) → h ≡ hunt_of s most_input → eqb (found_at s) nowhere ≡ false
        → program_lines kind mode s ≡ lines_of kind mode (hunted_bytes s) (lister_stop kind mode (hunted_bytes s)) (h.p ∷ h.left ∷ [])
    unfolding program_lines program_stop
    way_hunted h e f = simp (ne_eqb (size_of kind) 0 k, serial_mode mode m, m, f, ← e)

  pub way_plain : serial mode ≡ false → program_lines kind mode s ≡ lines_of kind mode s (lister_stop kind mode s) []
  unfolding program_lines program_stop list_stop
  way_plain m =
      by_test (eqb (size_of kind) 0) (λ y. simp (m, y))
      (λ y. by_test (from first_mode two_preambles mode) (λ z. simp (m, y, z)) (λ z. simp (m, y, z)))
