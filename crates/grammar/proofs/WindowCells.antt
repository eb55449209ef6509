-- What the bytes of one section leave in a cell and in a register: only its windows reach a cell, only its control byte the register; null bytes make
-- no difference, windows put together are taken one after another, and a cell that no data byte is meant for keeps its value. The machine is not
-- mentioned. Assumes nothing.
use Prim.Native.Nat.{ℕ, suc, ◌+◌, ◌≤◌, ◌<◌}
use mathlib.Core.Bool.{Bool, true, false}
use mathlib.Core.Path.{◌≡◌, refl, ap, sym, ◌∙◌}
use mathlib.Core.List.{List, [], ◌∷◌, ◌++◌, append_assoc}
use native.Mathlib.Omega.{arith}
use lib.Dec.{eqb}
use lib.ListN.{length}
use borrow.Author.Tests.{ne_eqb}
use Rattle.chain.specs.declared.Chain.{Chain}
use Rattle.chain.specs.Paper.{preamble, postamble, two_preambles}
use Rattle.chain.specs.Rules.{pick}
use Rattle.chain.specs.Kinds.{base_of}
use Rattle.chain.specs.Bytes.{Bytes}
use Rattle.chain.proofs.ByCases.{either_way}
use Rattle.grammar.specs.Sent.{Sent, Store, Slot, no_slot, index, memory, registers, slot, after, last_to, bytes_of, frame}
use Rattle.grammar.specs.Stream.{Window, Section, data_sent, window_sent, windows_sent, sections_sent, stream_sent}
use Rattle.grammar.specs.Tables.{nulled}

-- ---- bytes one after another

pub last_append : (k : Store) (xs ys : List Sent) (i old : ℕ) → last_to k (xs ++ ys) i old ≡ last_to k ys i (last_to k xs i old)
last_append k [] ys i old = refl
last_append k (x ∷ xs) ys i old = last_append k xs ys i (after (slot k x.to) x.byte i old)

after_small : (k : Slot) (b i old : ℕ) → b < 256 → old < 256 → after k b i old < 256
after_small no_slot b i old h g = g
after_small (index j) b i old h g = either_way (λ (x : ℕ). x < 256) (eqb i j) b old h g

-- what bytes leave is a byte
pub last_small : (k : Store) (xs : List Sent) (i old : ℕ) → Bytes (bytes_of xs) → old < 256 → last_to k xs i old < 256
last_small k [] i old u h = h
last_small k (x ∷ xs) i old u h =
    last_small k xs i (after (slot k x.to) x.byte i old) u.1 (after_small (slot k x.to) x.byte i old u.0 h)

-- ---- the stream of one section: only its windows reach a cell, only its control byte the register

lead_skipped : (k : Store) (b : Bool) (xs : List Sent) (i old : ℕ)
    → last_to k (pick b (frame preamble ∷ frame preamble ∷ []) (frame preamble ∷ []) ++ xs) i old ≡ last_to k xs i old
lead_skipped memory true xs i old = refl
lead_skipped memory false xs i old = refl
lead_skipped registers true xs i old = refl
lead_skipped registers false xs i old = refl

pub stream-cells : (c : Chain) (mode : ℕ) (s : Section) (i old : ℕ)
    → last_to memory (stream_sent c mode s []) i old ≡ last_to memory (windows_sent 0 s.windows) i old
unfolding base_of
stream-cells c mode s i old =
    lead_skipped memory (eqb mode two_preambles) (sections_sent c 0 s []) i old
    ∙ last_append memory (windows_sent 0 s.windows) (frame postamble ∷ []) i old

data_no_register : (a : ℕ) (bs : List ℕ) (d old : ℕ) → last_to registers (data_sent a bs) d old ≡ old
data_no_register a [] d old = refl
data_no_register a (b ∷ bs) d old = data_no_register (suc a) bs d old

pub windows_no_register : (base : ℕ) (ws : List Window) (d old : ℕ) → last_to registers (windows_sent base ws) d old ≡ old
windows_no_register base [] d old = refl
windows_no_register base (w ∷ ws) d old =
    last_append registers (data_sent (base + w.start) w.bytes) (windows_sent base ws) d old
    ∙ windows_no_register base ws d (last_to registers (data_sent (base + w.start) w.bytes) d old)
    ∙ data_no_register (base + w.start) w.bytes d old

pub stream_register : (c : Chain) (mode : ℕ) (s : Section) (d old : ℕ)
    → last_to registers (stream_sent c mode s []) d old ≡ pick (eqb d 0) s.control old
unfolding base_of
stream_register c mode s d old =
    lead_skipped registers (eqb mode two_preambles) (sections_sent c 0 s []) d old
    ∙ last_append registers (windows_sent 0 s.windows) (frame postamble ∷ []) d (pick (eqb d 0) s.control old)
    ∙ windows_no_register 0 s.windows d (pick (eqb d 0) s.control old)

-- ---- windows: null bytes, and one after another

pub null_bytes : (base : ℕ) (ws : List Window) (i old : ℕ) → last_to memory (windows_sent base (nulled ws)) i old ≡ last_to memory (windows_sent base ws) i old
null_bytes base [] i old = refl
null_bytes base (w ∷ ws) i old =
    let data_of : List Sent = data_sent (base + w.start) w.bytes in
    last_append memory data_of (windows_sent base (nulled ws)) i old
    ∙ null_bytes base ws i (last_to memory data_of i old)
    ∙ sym (last_append memory data_of (windows_sent base ws) i old)

pub windows-append : (base : ℕ) (vs ws : List Window) → windows_sent base (vs ++ ws) ≡ windows_sent base vs ++ windows_sent base ws
windows-append base [] ws = refl
windows-append base (v ∷ vs) ws =
    ap (λ (l : List Sent). window_sent base v ++ l) (windows-append base vs ws)
    ∙ sym (append_assoc (window_sent base v) (windows_sent base vs) (windows_sent base ws))

-- the windows of both, one after the other
pub in_order : (base : ℕ) (vs ws : List Window) (i old : ℕ)
    → last_to memory (windows_sent base (vs ++ ws)) i old ≡ last_to memory (windows_sent base ws) i (last_to memory (windows_sent base vs) i old)
in_order base vs ws i old =
    ap (λ (l : List Sent). last_to memory l i old) (windows-append base vs ws)
    ∙ last_append memory (windows_sent base vs) (windows_sent base ws) i old

-- ---- a cell in no window

pub data_keeps : (a : ℕ) (bs : List ℕ) (i old : ℕ) → (a ≤ i → i < a + length bs → ⊥) → last_to memory (data_sent a bs) i old ≡ old
data_keeps a [] i old h = refl
data_keeps a (b ∷ bs) i old h =
    ap (λ (k : Bool). last_to memory (data_sent (suc a) bs) i (pick k b old)) (ne_eqb i a (λ e. h (omega arith) (omega arith)))
    ∙ data_keeps (suc a) bs i old (λ p q. h (omega arith) (omega arith))
