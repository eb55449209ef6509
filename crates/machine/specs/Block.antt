-- For the contracts of private helpers alone, no promise cites it: data bytes as one block, the five bytes before them, and a run that goes on or is over. Assumes nothing.
use Rattle.std.specs.Prelude.{◌≡◌, ◌≢◌, ℕ, suc, ◌+◌, ◌<◌, ◌≤◌, List, [], ◌∷◌, length, ◌==◌, slice_index}
use Rattle.std.proofs.lemmas.List.Edits.{sets}
use Rattle.std.specs.declared.ops.ControlFlow.{ControlFlow}
use Rattle.std.specs.declared.ops.ControlFlow.TheVariants.{Continue, Break}
use Rattle.cells.specs.Differ.{unlike_of}
use Rattle.chain.specs.declared.Chain.{Chain}
use Rattle.chain.specs.declared.Place.{Place}
use Rattle.chain.specs.Paper.{writing, checking, at_data, more}
use Rattle.chain.specs.Rules.{pick}
use Rattle.chain.specs.Set.{with_awaited, with_start, with_end, with_next, with_place, closed_place}
use Rattle.machine.specs.declared.Fed.{Fed}
use Rattle.machine.specs.declared.here.Here.{Here}
use Rattle.machine.specs.Run.{counted, ended, Run, run, run_of}
use Rattle.machine.specs.Calls.{answered, fed_of}

-- how many of the bytes differ from the cells from i on
unfoldable pub unlike_at : List ℕ → ℕ → List ℕ → ℕ
unlike_at m i [] = 0
unlike_at m i (b ∷ bs) = unlike_of (slice_index m i) b + unlike_at m (suc i) bs

unfoldable pub misses_of : ℕ → List ℕ → ℕ → List ℕ → ℕ
misses_of check m i bs = pick (check == checking) (unlike_at m i bs) 0

unfoldable pub laid_of : ℕ → List ℕ → ℕ → List ℕ → List ℕ
laid_of check m i bs = pick (check == writing) (sets m i bs) m

-- the place after null, start and end
abbrev pub headed_of : Place → ℕ → ℕ → Place
headed_of p start end = with_awaited (with_next (with_end (with_start (counted p 5 0) start) end) start) at_data

-- front bytes of s are taken: from d and m' on the run goes on with the bytes t
pub record Took (c : Chain) (m s : List ℕ) (d : Chain) (m' t : List ℕ) : Type 0 where
  pub same_run : run_of (run c m more) s ≡ run_of (run d m' more) t
  pub no_longer : length t ≤ length s

-- s begins with the null byte, start and end of a window that the device has, and then come the bytes t
pub record Headed (h : Here) (s : List ℕ) (k : Here) (t : List ℕ) : Type 0 where
  pub took : (m : List ℕ) → Took h.chain m s k.chain m t
  pub five : length s ≡ length t + 5
  pub awaited : k.chain.place.awaited ≡ at_data
  pub first : k.chain.place.next ≡ k.chain.place.start
  pub in_order : k.chain.place.start ≤ k.chain.place.end
  pub inside : k.chain.place.end < k.size
  pub same_base : k.base ≡ h.base
  pub same_size : k.size ≡ h.size

-- a run that is over at its last byte, which counts as taken, with the number n
abbrev pub over_of : Chain → ℕ → Fed
over_of c n = answered (with_place c closed_place) n (ended c).place.taken (ended c).place.mismatches

-- a run as the code has it: it goes on from a state, or is over with its answer
abbrev pub Comes : ControlFlow Fed Chain → List ℕ → Run → Type 0
Comes (Continue d) m r = r ≡ run d m more
Comes (Break f) m r = (r.number ≢ more) × (f ≡ fed_of r) × (m ≡ r.memory)
