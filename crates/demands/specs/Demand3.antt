-- The third demand, as a predicate over a loader: a stopped run, its closing bytes, and the same stream started afresh. Assumes nothing.
use Rattle.std.specs.Prelude.{ℕ, ◌+◌, ◌≤◌, ◌<◌, ◌≡◌, List, [], ◌∷◌, ◌++◌, length, take}
use Rattle.chain.specs.declared.Chain.{Chain}
use Rattle.chain.specs.Paper.{closed, writing, done, more}
use Rattle.chain.specs.Kinds.{size_at}
use Rattle.demands.specs.Loader.{Loader, AfterSlice, AfterWrite, offered, Idle, Mode}
use Rattle.demands.specs.Demand2.{Seen, slices, joined, ran, Kept}
use Rattle.grammar.specs.Fits.{Reading, meant, Clear}
use Rattle.chain.specs.Bytes.{Bytes}
use Rattle.grammar.specs.Sent.{Sent}

-- the bytes xs, fed to a write started afresh
abbrev pub load : Loader → ℕ → Chain → List ℕ → List ℕ → AfterSlice
load l mode c m xs = ran l writing mode c m [] xs

-- the stream loads whole as a write and ends at its postamble: accepted, all its bytes taken
pub record Whole (l : Loader) (mode : ℕ) (bs : List ℕ) (c : Chain) (m : List ℕ) : Type 0 where
  pub started : (l.start c m mode writing).number ≡ done
  pub number : (load l mode c m bs).fed.answer.number ≡ done
  pub taken : (load l mode c m bs).fed.answer.taken ≡ length bs

-- the run is over, and nothing is changed by what was sent since s; the same stream started afresh leaves what the unbroken load u left
pub record Shut (l : Loader) (mode : ℕ) (bs : List ℕ) (u s t : AfterSlice) : Type 0 where
  pub ends : t.fed.answer.number ≡ more → ⊥
  pub shut : t.fed.chain.place.running ≡ closed
  pub kept : Kept s.fed.chain s.memory t
  pub again : Whole l mode bs t.fed.chain t.memory
  pub again_cells : (load l mode t.fed.chain t.memory bs).memory ≡ u.memory
  pub again_registers : (load l mode t.fed.chain t.memory bs).fed.chain.registers ≡ u.fed.chain.registers

-- the closing bytes cs, sent after the stop s in slices cut in any way: the run ends at their last byte, and not before
pub record Closes (l : Loader) (mode : ℕ) (bs : List ℕ) (u s : AfterSlice) (cs : List ℕ) : Type 0 where
  pub some : 0 < length cs
  pub late : (j : ℕ) → j < length cs → (ps : List (List ℕ)) (last : List ℕ) → joined ps ++ last ≡ take j cs
      → (slices l s.fed.chain s.memory ps last).fed.answer.number ≡ more
  pub shuts : (ps : List (List ℕ)) (b : ℕ) (last : List ℕ) → joined ps ++ (b ∷ last) ≡ cs
      → Shut l mode bs u s (slices l s.fed.chain s.memory ps (b ∷ last))

-- the closing call after the stop s
abbrev pub closing_at : Loader → AfterSlice → List ℕ → AfterWrite
closing_at l s out = l.closing s.fed.chain s.memory out

-- a stop, where front was sent and s is what the last slice left: it is seen as any front part is; an output of size + 3 bytes has room
-- for the closing bytes
pub record Stopped (l : Loader) (mode : ℕ) (bs : List ℕ) (c : Chain) (m : List ℕ) (front : List Sent) (s : AfterSlice) : Type 0 where
  pub seen : Seen writing c m front more s
  pub room : (out : List ℕ) → size_at c s.fed.chain.place.device + 3 ≤ length out → (closing_at l s out).written.number ≡ done
  pub closes : (out : List ℕ) → (closing_at l s out).written.number ≡ done → Closes l mode bs (load l mode c m bs) s (offered (closing_at l s out))

-- every stream that loads whole has a reading, and for each reading with B4 clear every stop, 0 bytes included and however those bytes
-- were cut into slices, is as the paper says. In modes 3 and 4 the bytes are the hunted ones
pub record Held (l : Loader) (mode : ℕ) (bs : List ℕ) (c : Chain) (m : List ℕ) : Type 0 where
  pub reading : Reading c mode bs
  pub stops : (x : Reading c mode bs) → Clear x.first x.others → (k : ℕ) → k < length bs
      → (ps : List (List ℕ)) (last : List ℕ) → joined ps ++ last ≡ take k bs
      → Stopped l mode bs c m (take k (meant x)) (ran l writing mode c m ps last)

abbrev pub Demand3 : Loader → Type 0
Demand3 l = (c : Chain) (m : List ℕ) (mode : ℕ) (bs : List ℕ) → Idle c m → Mode mode → Bytes bs → Whole l mode bs c m → Held l mode bs c m
