-- The second demand, the clauses about feeding bytes: (a) a stream that fits loads as its windows, later over earlier, or is checked
-- against them; (d) the byte that ends a run changes nothing; (e) what is accepted fits; (f) a check changes no cell, and as far as it goes on
-- leaves the registers that a write leaves. Assumes nothing.
use Rattle.std.specs.Prelude.{ℕ, suc, ◌+◌, ◌%◌, ◌^◌, ◌<◌, false, ◌≡◌, List, [], ◌∷◌, ◌++◌, eqb, length, get_or, take}
use Rattle.chain.specs.declared.Chain.{Chain}
use Rattle.chain.specs.Paper.{closed, opened, writing, done, more}
use Rattle.chain.specs.Rules.{pick}
use Rattle.chain.specs.Set.{with_place}
use Rattle.grammar.specs.Sent.{memory, registers, Sent, last_to, bytes_of, unlikes}
use Rattle.demands.specs.Loader.{Loader, AfterSlice, Idle, Mode}
use Rattle.chain.specs.Bytes.{Bytes}
use Rattle.grammar.specs.Stream.{Section, stream_sent}
use Rattle.grammar.specs.Fits.{AllLet, Fitting, Reading}
use Rattle.grammar.specs.Stores.{walk_of}
use Rattle.machine.specs.Calls.{opened_place}

-- what is seen once the front part xs of a stream was fed: each control byte was loaded; a write stored each data byte where it was meant
-- for; a check changed no cell and counted the data bytes unlike theirs
pub record Seen (check : ℕ) (c : Chain) (m : List ℕ) (xs : List Sent) (n : ℕ) (a : AfterSlice) : Type 0 where
  pub number : a.fed.answer.number ≡ n
  pub taken : a.fed.answer.taken ≡ length xs
  pub mismatches : a.fed.answer.mismatches ≡ pick (eqb check writing) 0 (unlikes m xs)
  pub cells : (i : ℕ) → i < length m → get_or a.memory i 0 ≡ pick (eqb check writing) (last_to memory xs i (get_or m i 0)) (get_or m i 0)
  pub cells_many : length a.memory ≡ length m
  pub regs : (d : ℕ) → d < length c.registers
      → get_or a.fed.chain.registers d 0 ≡ last_to registers xs d (get_or c.registers d 0)
  pub regs_many : length a.fed.chain.registers ≡ length c.registers
  pub count : a.fed.chain.count ≡ c.count
  pub kinds : a.fed.chain.kinds ≡ c.kinds
  pub running : a.fed.chain.place.running ≡ pick (eqb n more) opened closed

-- slices fed one after another into a chain and its memory, and one slice more
abbrev pub slices : Loader → Chain → List ℕ → List (List ℕ) → List ℕ → AfterSlice
slices l c m [] last = l.slice c m last
slices l c m (p ∷ ps) last = slices l (l.slice c m p).fed.chain (l.slice c m p).memory ps last

abbrev pub joined : List (List ℕ) → List ℕ
joined [] = []
joined (p ∷ ps) = p ++ joined ps

-- a run started afresh, and fed slice after slice
abbrev pub ran : Loader → ℕ → ℕ → Chain → List ℕ → List (List ℕ) → List ℕ → AfterSlice
ran l check mode c m ps last = slices l (l.start c m mode check).chain m ps last

-- the bytes bs, and each front part of them, are seen as xs, cut into slices in any way; the last slice of them all has their last
-- byte, and whatever follows that is not looked at
pub record Loads (l : Loader) (check mode : ℕ) (c : Chain) (m bs : List ℕ) (xs : List Sent) : Type 0 where
  pub started : (l.start c m mode check).number ≡ done
  pub whole : (ps : List (List ℕ)) (b : ℕ) (last rest : List ℕ) → joined ps ++ (b ∷ last) ≡ bs
      → Seen check c m xs done (ran l check mode c m ps ((b ∷ last) ++ rest))
  pub part : (k : ℕ) → k < length xs → (ps : List (List ℕ)) (last : List ℕ) → joined ps ++ last ≡ take k bs
      → Seen check c m (take k xs) more (ran l check mode c m ps last)

abbrev pub Demand2a : Loader → Type 0
Demand2a l = (c : Chain) (m : List ℕ) (check mode : ℕ) (s : Section) (ss : List Section) → Idle c m → Mode mode → Fitting c check mode s ss
    → Loads l check mode c m (bytes_of (stream_sent c mode s ss)) (stream_sent c mode s ss)

-- no cell, no register, count or kind has changed
pub record Kept (c : Chain) (m : List ℕ) (a : AfterSlice) : Type 0 where
  pub cells : a.memory ≡ m
  pub registers : a.fed.chain.registers ≡ c.registers
  pub count : a.fed.chain.count ≡ c.count
  pub kinds : a.fed.chain.kinds ≡ c.kinds

-- a is what bytes left that did not end the run, b what they and one that ends it left, whatever followed: that byte is taken, closes the
-- run and changes nothing, so that what earlier bytes stored stays. Both counts are kept modulo 2^32
pub record EndedBy (a b : AfterSlice) : Type 0 where
  pub taken : b.fed.answer.taken ≡ (a.fed.answer.taken + 1) % 2 ^ 32
  pub mismatches : b.fed.answer.mismatches ≡ a.fed.answer.mismatches % 2 ^ 32
  pub kept : Kept a.fed.chain a.memory b
  pub shut : b.fed.chain.place.running ≡ closed

abbrev pub Demand2d : Loader → Type 0
Demand2d l = (c : Chain) (m s : List ℕ) (k : ℕ) → k < length s → (l.slice c m (take k s)).fed.answer.number ≡ more
    → ((l.slice c m (take (suc k) s)).fed.answer.number ≡ more → ⊥) → EndedBy (l.slice c m (take k s)) (l.slice c m s)

-- bs has a reading, and whatever its reading, each device met lets the run in
pub record LetIn (check mode : ℕ) (c : Chain) (bs : List ℕ) : Type 0 where
  pub reading : Reading c mode bs
  pub lets : (x : Reading c mode bs) → AllLet check c.registers 0 x.first x.others

-- what is accepted, of bytes cut in any way and as far as they were taken
abbrev pub Demand2e : Loader → Type 0
Demand2e l = (c : Chain) (m : List ℕ) (check mode : ℕ) (ps : List (List ℕ)) (last : List ℕ) → Idle c m → Mode mode → Bytes (joined ps ++ last)
    → (ran l check mode c m ps last).fed.answer.number ≡ done
    → LetIn check mode c (take (ran l check mode c m ps last).fed.answer.taken (joined ps ++ last))

-- a is what a check of the bytes bs left, b what a write of them leaves, cut alike. The check changed no cell; each register holds the last control
-- byte that the machine takes for it, or its old value, also where the run has ended. As long as the check goes on, so does the write, and leaves
-- the same registers
pub record Checked (check mode : ℕ) (c : Chain) (m bs : List ℕ) (a b : AfterSlice) : Type 0 where
  pub cells : a.memory ≡ m
  pub count : a.fed.chain.count ≡ c.count
  pub kinds : a.fed.chain.kinds ≡ c.kinds
  pub regs : (d : ℕ) → d < length c.registers
      → get_or a.fed.chain.registers d 0 ≡ last_to registers (walk_of (with_place c (opened_place mode check)) bs) d (get_or c.registers d 0)
  pub regs_many : length a.fed.chain.registers ≡ length c.registers
  pub keeps_going : a.fed.answer.number ≡ more → b.fed.answer.number ≡ more
  pub as_written : a.fed.answer.number ≡ more → a.fed.chain.registers ≡ b.fed.chain.registers

-- a check, whatever it is fed and whatever it answers
abbrev pub Demand2f : Loader → Type 0
Demand2f l = (c : Chain) (m : List ℕ) (check mode : ℕ) (ps : List (List ℕ)) (last : List ℕ) → Idle c m → Mode mode → Bytes (joined ps ++ last)
    → eqb check writing ≡ false → Checked check mode c m (joined ps ++ last) (ran l check mode c m ps last) (ran l writing mode c m ps last)
