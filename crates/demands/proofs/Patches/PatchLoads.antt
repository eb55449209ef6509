-- A section that fits one device, sent in any cut by any loader that meets clause (a): it loads whole, its windows are what the memory has then, and
-- where B4 is clear in its control byte the device takes the next one. Assumes nothing.
use Prim.Native.Nat.{ℕ, ◌≤◌, ◌<◌}
use mathlib.Core.Bool.{Bool, true, false, true≢false}
use mathlib.Core.Logic.{inl}
use mathlib.Core.Path.{◌≡◌, refl, ap, sym, subst, ◌∙◌}
use mathlib.Core.List.{List, [], ◌∷◌, ◌++◌}
use native.Mathlib.Omega.{arith}
use lib.Dec.{eqb, ltb}
use lib.ListN.{length, get_or, get_or-eq_default}
use borrow.Author.Tests.{ne_eqb, ltb-true, ltb-false}
use Rattle.chain.specs.declared.Chain.{Chain}
use Rattle.chain.specs.Paper.{preamble, closed, writing, two_preambles, done, B4}
use Rattle.chain.specs.Rules.{pick}
use Rattle.chain.specs.Kinds.{size_of, size_at}
use Rattle.chain.specs.Bytes.{Bytes}
use Rattle.chain.specs.State.{state_rules, state_number}
use Rattle.chain.specs.WellFormed.{UnusedZero}
use Rattle.chain.proofs.ByCases.{by_test}
use Rattle.chain.proofs.Bytes.{bytes_by, bytes-at}
use Rattle.chain.proofs.FirstOf.{none_first}
use Rattle.chain.proofs.BadChain.{Fits, m_fits}
use Rattle.chain.proofs.WellFormed.{m-not_ill}
use Rattle.chain.proofs.Sound.{Usable, state_usable}
use Rattle.grammar.specs.Sent.{Sent, memory, registers, last_to, frame, bytes_of}
use Rattle.grammar.specs.Stream.{Section, windows_sent, sections_sent, stream_sent}
use Rattle.grammar.specs.Fits.{SectionFits, Clear, Fitting, Reading}
use Rattle.grammar.proofs.StreamShort.{bytes_long}
use Rattle.grammar.proofs.WindowCells.{last_small, stream-cells, stream_register}
use Rattle.demands.specs.Loader.{Loader, Idle, Mode}
use Rattle.demands.specs.Demand2.{Seen, ran, Loads, Demand2a}
use Rattle.demands.specs.Patches.{Device, Sending, left_by, LoadsWhole}
use Rattle.demands.proofs.Files.ReadAgain.{alone, first_fits}
use Rattle.demands.proofs.Files.WrittenLoads.{any-chain}

-- a state that no number refuses, with no run open
closed-taken : (c : Chain) (len : ℕ) → Usable c len → c.place.running ≡ closed → state_number c len ≡ done
unfolding state_number
closed-taken c len u z =
    none_first (state_rules c len []) done
    ((m_fits c.count c.kinds len).said u.fits, ((m-not_ill c).said ((u.kinds, u.registers), inl z), tt))

some : (c : Chain) → c.count ≡ 1 → 0 < c.count
some c one = omega arith

-- ---- a section sent

-- x, which sends a section of these windows and this control byte, loads whole, and what it leaves
pub record SentWhole (l : Loader) (c : Chain) (m : List ℕ) {mode : ℕ} {s : List ℕ} (u : Section) (x : Sending mode s) : Type 0 where
  pub loads : LoadsWhole l c m x
  pub cells : (i : ℕ) → i < length m → get_or (left_by l c m x).memory i 0 ≡ last_to memory (windows_sent 0 u.windows) i (get_or m i 0)
  pub cells_many : length (left_by l c m x).memory ≡ length m
  pub kinds : (left_by l c m x).fed.chain.kinds ≡ c.kinds
  pub register : get_or (left_by l c m x).fed.chain.registers 0 0 ≡ u.control
  pub registers : (i : ℕ) → i < length c.registers
      → get_or (left_by l c m x).fed.chain.registers i 0 ≡ pick (eqb i 0) u.control (get_or c.registers i 0)
  pub registers_many : length (left_by l c m x).fed.chain.registers ≡ length c.registers
  pub device : B4 u.control ≡ false → Device (left_by l c m x).fed.chain (left_by l c m x).memory

module _ (l : Loader) (meets : Demand2a l) (c : Chain) (m : List ℕ) (mode : ℕ) (u : Section) (d : Device c m) (o : Mode mode)
    (f : SectionFits (size_at c 0) u) (small : Bytes (bytes_of (stream_sent c mode u []))) where
  abbrev xs : List Sent
  xs = stream_sent c mode u []

  fitting : Fitting c writing mode u []
  fitting =
      record {
        fits = (some c d.one, f);
        lets = record { b4 = d.clear; b3 = λ e. absurd (true≢false e); sent_b3 = λ e. absurd (true≢false e) };
        bytes = small;
      }

  as_sent : Loads l writing mode c m (bytes_of xs) xs
  as_sent = meets c m writing mode u [] d.idle o fitting

  module _ (s : List ℕ) (e : bytes_of xs ≡ s) (x : Sending mode s) where
    abbrev c' : Chain
    c' = (left_by l c m x).fed.chain

    abbrev m' : List ℕ
    m' = (left_by l c m x).memory

    seen : Seen writing c m xs done (left_by l c m x)
    seen = as_sent.whole x.before x.byte x.last x.rest (x.all ∙ sym e)

    -- the register of the device, and those of none
    register_left : (i : ℕ) → i < length c.registers → get_or c'.registers i 0 ≡ pick (eqb i 0) u.control (get_or c.registers i 0)
    register_left i h = seen.regs i h ∙ stream_register c mode u i (get_or c.registers i 0)

    unused : UnusedZero c'.registers c'.count
    unused i h =
        by_test (ltb i (length c'.registers))
        (λ g.
        let n : 1 ≤ i = omega (arith, h, seen.count, d.one) in
        let k : i < length c.registers = omega (arith, ltb-true i (length c'.registers) g, seen.regs_many) in
        let z : get_or c.registers i 0 ≡ 0 = (state_usable c (length m) d.idle.sound).registers i (omega (arith, n, d.one)) in
        register_left i k ∙ rw (ne_eqb i 0 (λ q. omega arith)) z)
        (λ g. get_or-eq_default c'.registers 0 {n = i} (ltb-false i (length c'.registers) g))

    usable : Usable c' (length m')
    usable =
        let v = state_usable c (length m) d.idle.sound in
        record {
          fits = subst (λ (n : ℕ). Fits c'.count c'.kinds n) (sym seen.cells_many) (rw (seen.count, seen.kinds) v.fits);
          kinds = rw (seen.count, seen.kinds) v.kinds;
          registers = unused;
        }

    idle_again : Idle c' m'
    idle_again =
        record {
          kinds = ap length seen.kinds ∙ d.idle.kinds;
          registers = seen.regs_many ∙ d.idle.registers;
          register_bytes =
              bytes_by c'.registers
              (λ i h.
              subst (λ (v : ℕ). v < 256) (sym (seen.regs i (omega (arith, h, seen.regs_many))))
              (last_small registers xs i (get_or c.registers i 0) small (bytes-at c.registers d.idle.register_bytes i)));
          memory_bytes =
              bytes_by m'
              (λ i h.
              subst (λ (v : ℕ). v < 256) (sym (seen.cells i (omega (arith, h, seen.cells_many))))
              (last_small memory xs i (get_or m i 0) small (bytes-at m d.idle.memory_bytes i)));
          sound = closed-taken c' (length m') usable seen.running;
          is_closed = seen.running;
        }

    pub sent-whole : SentWhole l c m u x
    sent-whole =
        record {
          loads =
              record {
                started = as_sent.started;
                number = seen.number;
                taken = seen.taken ∙ sym (bytes_long xs) ∙ ap length e;
              };
          cells = λ i h. seen.cells i h ∙ stream-cells c mode u i (get_or m i 0);
          cells_many = seen.cells_many;
          kinds = seen.kinds;
          register = register_left 0 (omega (arith, d.idle.registers));
          registers = register_left;
          registers_many = seen.regs_many;
          device = λ b. record { one = seen.count ∙ d.one; idle = idle_again; clear = ap B4 (register_left 0 (omega (arith, d.idle.registers))) ∙ b };
        }

-- ---- a stream sent that has a reading, to its own device or to one of the same kind

module _ (c : Chain) (one : c.count ≡ 1) (mode : ℕ) (s : List ℕ) (r : Reading c mode s) where
  pub alone_read : r.others ≡ []
  alone_read = alone c r.first r.others one r.fits

  pub read_fits : SectionFits (size_at c 0) r.first
  read_fits = first_fits c r.first r.others r.fits

  pub read-stream : (d : Chain) → bytes_of (stream_sent d mode r.first []) ≡ s
  read-stream d =
      any-chain d c mode r.first
      ∙ ap (λ (ss : List Section). bytes_of (stream_sent c mode r.first ss)) (sym alone_read)
      ∙ r.bytes

  pub read_clear : Clear r.first r.others → B4 r.first.control ≡ false
  read_clear h = subst (λ (ss : List Section). Clear r.first ss) alone_read h

  pub clear_read : B4 r.first.control ≡ false → Clear r.first r.others
  clear_read h = subst (λ (ss : List Section). Clear r.first ss) (sym alone_read) h

  pub read-sent : (l : Loader) → Demand2a l → Mode mode → Bytes s → (d : Chain) (m : List ℕ) → Device d m → d.kinds ≡ c.kinds
      → (x : Sending mode s) → SentWhole l d m r.first x
  read-sent l meets o u d m v e x =
      sent-whole l meets d m mode r.first v o (subst (λ (ks : List ℕ). SectionFits (size_of (get_or ks 0 0)) r.first) (sym e) read_fits)
      (subst Bytes (sym (read-stream d)) u) s (read-stream d) x

-- ---- the same in one slice, as a file has it, whatever follows it there

no_stream : (c : Chain) (mode : ℕ) (s : Section) (ss : List Section) → bytes_of (stream_sent c mode s ss) ≡ [] → ⊥
no_stream c mode s ss e = none (eqb mode two_preambles) (sections_sent c 0 s ss) (ap length e)
  where
    none : (k : Bool) (ys : List Sent) → length (bytes_of (pick k (frame preamble ∷ frame preamble ∷ []) (frame preamble ∷ []) ++ ys)) ≡ 0 → ⊥
    none true ys e = omega arith
    none false ys e = omega arith

pub record FileTaken (l : Loader) (c : Chain) (m : List ℕ) (mode : ℕ) (s rest : List ℕ) (u : Section) : Type 0 where
  pub started : (l.start c m mode writing).number ≡ done
  pub number : (ran l writing mode c m [] (s ++ rest)).fed.answer.number ≡ done
  pub taken : (ran l writing mode c m [] (s ++ rest)).fed.answer.taken ≡ length s
  pub register : get_or (ran l writing mode c m [] (s ++ rest)).fed.chain.registers 0 0 ≡ u.control

pub file-taken : (l : Loader) → Demand2a l → (c : Chain) (m : List ℕ) (mode : ℕ) (s rest : List ℕ) → Device c m → Mode mode → Bytes s → (r : Reading c mode s)
    → FileTaken l c m mode s rest r.first
file-taken l meets c m mode [] rest d o u r = absurd (no_stream c mode r.first r.others r.bytes)
file-taken l meets c m mode (b ∷ bs) rest d o u r =
    let a = read-sent c d.one mode (b ∷ bs) r l meets o u c m d refl (record { before = []; byte = b; last = bs; rest = rest; all = refl }) in
    record { started = a.loads.started; number = a.loads.number; taken = a.loads.taken; register = a.register }
