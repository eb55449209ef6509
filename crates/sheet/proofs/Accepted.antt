-- What a sheet answered 0 was lent: lengths, a slice, a kind and a mode that no number refuses, and room for its rows. Assumes nothing.
use Prim.Native.Nat.{ℕ, ◌*◌, ◌≤◌}
use mathlib.Core.Bool.{Bool, true, false, not}
use mathlib.Core.Logic.{◌≢◌}
use mathlib.Core.Path.{◌≡◌, refl, sym}
use mathlib.Core.List.{List}
use borrow.Author.Tests.{eqb-false}
use lib.ListN.{length}
use Rattle.chain.specs.Paper.{first_mode, two_preambles, most_streams, most_bytes, done}
use Rattle.chain.specs.Rules.{from}
use Rattle.chain.specs.Kinds.{size_of}
use Rattle.chain.proofs.FirstOf.{first-none}
use Rattle.chain.proofs.Means.{says, reads}
use Rattle.sheet.specs.Sheet.{sum, figures_a_row, sheet_rules, sheet_number}

pub record Accepted (kind mode : ℕ) (s lengths : List ℕ) (numbers figures : ℕ) : Type 0 where
  pub few : length lengths ≤ most_streams
  pub exact : sum lengths ≡ length s
  pub short : length s ≤ most_bytes
  pub known : size_of kind ≢ 0
  pub mode_known : from first_mode two_preambles mode ≡ true
  pub room_numbers : length lengths ≤ numbers
  pub room_figures : figures_a_row * length lengths ≤ figures

not_false : (b : Bool) → not b ≡ false → b ≡ true
not_false true e = refl
not_false false e = sym e

pub accepted : (kind mode : ℕ) (s lengths : List ℕ) (numbers figures : ℕ) → sheet_number kind mode s lengths numbers figures ≡ done
    → Accepted kind mode s lengths numbers figures
unfolding sheet_number
accepted kind mode s lengths numbers figures z =
    let n = first-none (sheet_rules kind mode s lengths numbers figures) done tt z in
    let l : ((length lengths ≤ most_streams) × (sum lengths ≡ length s)) × (length s ≤ most_bytes) = says (search reads) n.0 in
    let r : (length lengths ≤ numbers) × (figures_a_row * length lengths ≤ figures) = says (search reads) n.1.1.1.0 in
    record {
      few = l.0.0;
      exact = l.0.1;
      short = l.1;
      known = eqb-false (size_of kind) 0 n.1.0;
      mode_known = not_false (from first_mode two_preambles mode) n.1.1.0;
      room_numbers = r.0;
      room_figures = r.1;
    }
