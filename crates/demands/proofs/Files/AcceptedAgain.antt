-- The second demand, clause (c): what is accepted lists as its reading, where that has one section, and is written again as that.
-- Assumes nothing.
use Prim.Native.Nat.{ℕ}
use mathlib.Core.Path.{◌≡◌}
use mathlib.Core.List.{List, []}
use lib.ListN.{length, get_or}
use borrow.Author.Tests.{eqb-false}
use Rattle.chain.specs.declared.Chain.{Chain}
use Rattle.chain.specs.Kinds.{size_of, size_at}
use Rattle.chain.proofs.BadChain.{m_known}
use Rattle.chain.proofs.Sound.{state_usable}
use Rattle.demands.specs.Loader.{Idle}
use Rattle.demands.specs.Demand2.{ran}
use Rattle.demands.specs.Files.{Demand2c}
use Rattle.demands.specs.Ours.{ours}
use Rattle.grammar.proofs.StartOpens.{count_sound}
use Rattle.demands.proofs.Loads.AcceptedFits.{used_of, within}
use Rattle.demands.proofs.Files.ReadAgain.{relisted}

-- the first device of an idle chain is of a known kind
pub first_known : (c : Chain) (m : List ℕ) → Idle c m → size_at c 0 ≡ 0 → ⊥
first_known c m i =
    let first = get_or c.kinds 0 0 in
    eqb-false (size_of first) 0 ((m_known first).said ((state_usable c (length m) i.sound).fits.known 0 (count_sound c (length m) i.sound).0))

pub second_c : Demand2c ours
second_c c m check mode bs ts te to i o u z x one room =
    relisted c mode bs ts te to (ran ours check mode c m [] bs).fed.answer.taken o (first_known c m i)
    (within c m check mode bs i o u (used_of c m check mode bs i o u z)) x one room
