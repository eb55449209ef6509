-- What a sheet is refused with, refusal by refusal in their order. Assumes nothing.
use Prim.Native.Nat.{ℕ, ◌*◌, ◌≤◌, ◌<◌}
use mathlib.Core.Bool.{true, false, not, ◌||◌}
use mathlib.Core.Path.{◌≡◌}
use mathlib.Core.List.{List}
use borrow.Author.Tests.{lt-ltb, le-ltb, eq-eqb, ne_eqb}
use lib.Dec.{eqb, ltb}
use lib.ListN.{length}
use Rattle.chain.specs.Paper.{first_mode, two_preambles, most_streams, most_bytes, done, bad_chain, bad_mode, too_short, bad_lengths}
use Rattle.chain.specs.Rules.{pick, from}
use Rattle.chain.specs.Kinds.{size_of}
use Rattle.chain.specs.declared.kinds.Kind.{Kind}
use Rattle.chain.specs.declared.kinds.Kind.TheVariants.{Teaching, At6002, At6003, At6005, At6010}
use Rattle.chain.specs.KnownKinds.{kind_number}
use Rattle.sheet.specs.Sheet.{sum, figures_a_row, sheet_number}

module _ (kind mode : ℕ) (s lengths : List ℕ) (numbers figures : ℕ) where
  -- the lengths
  pub too_many : most_streams < length lengths → bad_lengths ≡ sheet_number kind mode s lengths numbers figures
  unfolding sheet_number
  too_many h = rw (lt-ltb most_streams (length lengths) h)

  module _ (few : length lengths ≤ most_streams) where
    pub other-sum : (sum lengths ≡ length s → ⊥) → bad_lengths ≡ sheet_number kind mode s lengths numbers figures
    unfolding sheet_number
    other-sum h = rw (le-ltb most_streams (length lengths) few, ne_eqb (sum lengths) (length s) h)

    module _ (exact : sum lengths ≡ length s) where
      pub too_long : most_bytes < length s → bad_lengths ≡ sheet_number kind mode s lengths numbers figures
      unfolding sheet_number
      too_long h = rw (le-ltb most_streams (length lengths) few, eq-eqb (sum lengths) (length s) exact, lt-ltb most_bytes (length s) h)

      module _ (short : length s ≤ most_bytes) where
        -- kind, mode and tables
        rest : sheet_number kind mode s lengths numbers figures
            ≡ pick (eqb (size_of kind) 0) bad_chain
            (pick (not (from first_mode two_preambles mode)) bad_mode
            (pick (ltb numbers (length lengths) || ltb figures (figures_a_row * length lengths)) too_short done))
        unfolding sheet_number
        rest = rw (le-ltb most_streams (length lengths) few, eq-eqb (sum lengths) (length s) exact, le-ltb most_bytes (length s) short)

        pub unknown_kind : size_of kind ≡ 0 → bad_chain ≡ sheet_number kind mode s lengths numbers figures
        unknown_kind h = rw (rest, eq-eqb (size_of kind) 0 h)

        module _ (known : size_of kind ≡ 0 → ⊥) where
          pub other-mode : from first_mode two_preambles mode ≡ false → bad_mode ≡ sheet_number kind mode s lengths numbers figures
          other-mode h = rw (rest, ne_eqb (size_of kind) 0 known, h)

          module _ (good : from first_mode two_preambles mode ≡ true) where
            pub few_numbers : numbers < length lengths → too_short ≡ sheet_number kind mode s lengths numbers figures
            few_numbers h = rw (rest, ne_eqb (size_of kind) 0 known, good, lt-ltb numbers (length lengths) h)

            pub few_figures : length lengths ≤ numbers → figures < figures_a_row * length lengths → too_short ≡ sheet_number kind mode s lengths numbers figures
            few_figures g h =
                rw (rest, ne_eqb (size_of kind) 0 known, good, le-ltb numbers (length lengths) g, lt-ltb figures (figures_a_row * length lengths) h)

            pub none_of_these : length lengths ≤ numbers → figures_a_row * length lengths ≤ figures → done ≡ sheet_number kind mode s lengths numbers figures
            none_of_these g h =
                rw (rest, ne_eqb (size_of kind) 0 known, good, le-ltb numbers (length lengths) g, le-ltb figures (figures_a_row * length lengths) h)

-- a kind by name is known
pub kind_known : (k : Kind) → size_of (kind_number k) ≡ 0 → ⊥
unfolding size_of
kind_known Teaching e = cc
kind_known At6002 e = cc
kind_known At6003 e = cc
kind_known At6005 e = cc
kind_known At6010 e = cc
