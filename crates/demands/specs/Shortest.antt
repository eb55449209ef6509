-- Document 02, wish 8, as predicates over a loader: what it sends at 11 and in a check at 2; and that the closing bytes are a way out of an open
-- run, and none is shorter. Assumes nothing.
use Rattle.std.specs.Prelude.{ℕ, ◌+◌, ◌<◌, ◌≤◌, ◌≡◌, List, [], ◌∷◌, ◌++◌, length}
use Rattle.chain.specs.declared.Chain.{Chain}
use Rattle.chain.specs.Paper.{closed, checking, at_control, at_end_low, done, no_check, bad_end, more}
use Rattle.chain.specs.Kinds.{size_here}
use Rattle.chain.specs.Window.{high_byte, low_byte}
use Rattle.chain.specs.Bytes.{Bytes}
use Rattle.demands.specs.Loader.{Loader, AfterSlice, AfterWrite, offered, Open}
use Rattle.demands.specs.Demand2.{slices, joined}

-- one byte is offered wherever there is room for it, and sent it ends the run with the number n
pub record OneByte (l : Loader) (c : Chain) (m : List ℕ) (b n : ℕ) : Type 0 where
  pub offers : (out : List ℕ) → 0 < length out → ((l.closing c m out).written.number ≡ done) × (offered (l.closing c m out) ≡ b ∷ [])
  pub ends_with : (l.slice c m (b ∷ [])).fed.answer.number ≡ n

-- at 11, with end high byte h: 00 when h equals the start's high byte and the start's low byte is not zero; the end is then below start, which is 12.
-- In a check at 2: 08 alone, and 7 ends it
pub record Amended (l : Loader) : Type 0 where
  pub at_11 : (c : Chain) (m : List ℕ) → Open c m → c.place.awaited ≡ at_end_low → high_byte c.place.end ≡ high_byte c.place.start
      → (low_byte c.place.start ≡ 0 → ⊥) → OneByte l c m 0x00 bad_end
  pub at_2 : (c : Chain) (m : List ℕ) → Open c m → c.place.awaited ≡ at_control → c.place.check ≡ checking → OneByte l c m 0x08 no_check

-- a is what was left by bytes sent to an open run: it has ended, with any number but 16, and every cell and every register is as it was
pub record WayOut (c : Chain) (m : List ℕ) (a : AfterSlice) : Type 0 where
  pub ends : a.fed.answer.number ≡ more → ⊥
  pub cells : a.memory ≡ m
  pub registers : a.fed.chain.registers ≡ c.registers

-- w is what the closing call wrote: it is not empty; sent in slices cut in any way it is a way out, and no run is open then; and every way out, in
-- any cut, is at least as long
pub record ShortestWayOut (l : Loader) (c : Chain) (m : List ℕ) (w : AfterWrite) : Type 0 where
  pub some : 0 < length (offered w)
  pub leads : (ps : List (List ℕ)) (b : ℕ) (last : List ℕ) → joined ps ++ (b ∷ last) ≡ offered w → WayOut c m (slices l c m ps (b ∷ last))
  pub shuts : (ps : List (List ℕ)) (b : ℕ) (last : List ℕ) → joined ps ++ (b ∷ last) ≡ offered w
      → (slices l c m ps (b ∷ last)).fed.chain.place.running ≡ closed
  pub none_shorter : (ps : List (List ℕ)) (last : List ℕ) → Bytes (joined ps ++ last) → WayOut c m (slices l c m ps last)
      → length (offered w) ≤ length (joined ps ++ last)

-- from every open place that no call refuses, in a write or a check, and every memory; an output of size + 3 bytes has room
pub record Shortest (l : Loader) : Type 0 where
  pub room : (c : Chain) (m out : List ℕ) → Open c m → size_here c + 3 ≤ length out → (l.closing c m out).written.number ≡ done
  pub shortest : (c : Chain) (m out : List ℕ) → Open c m → (l.closing c m out).written.number ≡ done → ShortestWayOut l c m (l.closing c m out)
