-- The walk of an accepted stream is every reading of it. Assumes nothing.
use Prim.Native.Nat.{ℕ, ◌≤◌, ◌<◌}
use mathlib.Core.Path.{◌≡◌, ap, sym, ◌∙◌}
use mathlib.Core.List.{List}
use Rattle.chain.specs.declared.Chain.{Chain}
use Rattle.chain.specs.Paper.{writing}
use Rattle.chain.specs.Set.{with_place}
use Rattle.machine.specs.Calls.{opened_place}
use Rattle.chain.specs.Bytes.{Bytes}
use Rattle.grammar.specs.Fits.{Reading, meant}
use Rattle.grammar.specs.Stores.{walk_of, puts_in, puts_of}
use Rattle.grammar.proofs.Accepted.{Accepted}
use Rattle.grammar.proofs.Parse.{parse, parsed_bytes}
use Rattle.grammar.proofs.OneReading.{one_reading}

module _ (c : Chain) (mode check : ℕ) (bs : List ℕ) (n : 0 < c.count) (m : c.count ≤ 8) (u : Bytes bs)
    (h : Accepted (with_place c (opened_place mode check)) bs) where
  -- it has a reading
  pub reading : Reading c mode bs
  reading =
      let x = parse c mode check bs n m u h in
      record { first = x.first; others = x.others; fits = x.fits; bytes = parsed_bytes c mode check bs h x }

  -- and the machine puts each byte where any reading of it says
  pub walk_meant : (x : Reading c mode bs) → walk_of (with_place c (opened_place mode check)) bs ≡ meant x
  walk_meant x =
      let p = parse c mode check bs n m u h in
      p.sends ∙ one_reading c mode p.first p.others x.first x.others p.fits x.fits (parsed_bytes c mode check bs h p ∙ sym x.bytes)

-- so a write of it stores what any reading of it means for cells
pub puts_meant : (c : Chain) (mode : ℕ) (bs : List ℕ) → 0 < c.count → c.count ≤ 8 → Bytes bs
    → Accepted (with_place c (opened_place mode writing)) bs → (x : Reading c mode bs) → puts_of (with_place c (opened_place mode writing)) bs ≡ puts_in (meant x)
puts_meant c mode bs n m u h x = ap puts_in (walk_meant c mode writing bs n m u h x)
