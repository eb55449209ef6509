-- The writer's number by the tests as they are made, one after another: each that refuses gives it, and where none does it is 0. size is that of
-- the kind, t whether the tables are refused. Assumes nothing.
use Prim.Native.Nat.{ℕ, ◌≤◌, ◌<◌}
use mathlib.Core.Bool.{Bool, true, false, not, ◌||◌}
use mathlib.Core.Path.{◌≡◌, refl, sym, ◌∙◌}
use mathlib.Core.List.{List}
use native.Mathlib.Omega.{arith}
use borrow.Author.Tests.{ne_eqb, eq-eqb, le-ltb, lt-ltb, eqb-false}
use lib.Dec.{eqb, ltb}
use lib.ListN.{length}
use Rattle.chain.specs.declared.refusal.Refusal.{Refusal}
use Rattle.chain.specs.declared.mode.Mode.{Mode}
use Rattle.chain.specs.declared.mode.Mode.TheVariants.{Upward, Downward, SerialExternal, SerialInternal, EpromInternal, TwoPreambles}
use Rattle.chain.specs.Kinds.{size_of}
use Rattle.chain.specs.Mode.{mode_number}
use Rattle.chain.specs.Paper.{first_mode, two_preambles, done, bad_chain, bad_mode, bad_tables, bad_data, too_short}
use Rattle.chain.specs.Refusal.{number_of as refusal_number}
use Rattle.chain.specs.Rules.{pick, from}
use Rattle.chain.proofs.PassedUp.{not_done}
use Rattle.writer.specs.Write.{most_windows, windows_number, sum_of, number_of}
use Rattle.writer.proofs.Accepted.{refuses}

-- a mode that has a name is one of the six
pub named : (m : Mode) (n : ℕ) → mode_number m ≡ n → from first_mode two_preambles n ≡ true
named Upward n e = rw (← e)
named Downward n e = rw (← e)
named SerialExternal n e = rw (← e)
named SerialInternal n e = rw (← e)
named EpromInternal n e = rw (← e)
named TwoPreambles n e = rw (← e)

-- so has a kind
pub some_size : (n k : ℕ) → 52 ≤ n → n ≡ size_of k → size_of k ≡ 0 → ⊥
some_size n k h e z = omega arith

refusing : (e : Refusal) → refusal_number e ≡ done → ⊥
refusing e = eqb-false (refusal_number e) done (not_done e)

pub passes : (t : Bool) → done ≡ pick t bad_tables done → t ≡ false
passes true h = absurd (omega (arith, h))
passes false h = refl

module _ (kind mode : ℕ) (ss es : List ℕ) (len long room : ℕ) where
  abbrev number : ℕ
  number = number_of kind mode ss es len long room

  abbrev t : Bool
  t = not (eqb (length ss) (length es)) || ltb most_windows (length ss)

  pub by_chain : size_of kind ≡ 0 → bad_chain ≡ number
  unfolding number_of
  by_chain h = simp h

  module _ (known : size_of kind ≡ 0 → ⊥) where
    pub by_mode : from first_mode two_preambles mode ≡ false → bad_mode ≡ number
    unfolding number_of
    by_mode h = simp (ne_eqb (size_of kind) 0 known, h)

    module _ (one : from first_mode two_preambles mode ≡ true) where
      by_test_of : (b : Bool) (e : Refusal) → t ≡ b → refusal_number e ≡ pick b bad_tables done → refusal_number e ≡ number
      unfolding number_of
      by_test_of true e s h = simp (ne_eqb (size_of kind) 0 known, one, s) h
      by_test_of false e s h = absurd (refusing e h)

      pub by_tables : (e : Refusal) → refusal_number e ≡ pick t bad_tables done → refusal_number e ≡ number
      by_tables e h = by_test_of t e refl h

      module _ (right : t ≡ false) where
        pub by_window : (e : Refusal) → refusal_number e ≡ windows_number (size_of kind) ss es → refusal_number e ≡ number
        unfolding number_of
        by_window e h =
            simp (ne_eqb (size_of kind) 0 known, one, right)
            (h ∙ sym (refuses (size_of kind) ss es _ (λ z. refusing e (h ∙ z))))

        module _ (inside : done ≡ windows_number (size_of kind) ss es) where
          pub by_data : (len ≡ sum_of ss es → ⊥) → bad_data ≡ number
          unfolding number_of
          by_data h = simp (ne_eqb (size_of kind) 0 known, one, right, ← inside, ne_eqb len (sum_of ss es) h)

          module _ (all : len ≡ sum_of ss es) where
            pub by_room : room < long → too_short ≡ number
            unfolding number_of
            by_room h = simp (ne_eqb (size_of kind) 0 known, one, right, ← inside, eq-eqb len (sum_of ss es) all, lt-ltb room long h)

            pub by_none : long ≤ room → done ≡ number
            unfolding number_of
            by_none h = simp (ne_eqb (size_of kind) 0 known, one, right, ← inside, eq-eqb len (sum_of ss es) all, le-ltb room long h)
