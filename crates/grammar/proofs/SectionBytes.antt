-- A section and its stream as plain bytes, whatever follows them. Assumes nothing.
use Prim.Native.Nat.{ℕ, suc, ◌+◌, ◌-◌, ◌/◌, ◌%◌}
use mathlib.Core.Bool.{Bool, true, false, ◌||◌}
use mathlib.Core.Path.{◌≡◌, refl, ap, ◌∙◌}
use mathlib.Core.List.{List, [], ◌∷◌, ◌++◌, append_assoc}
use lib.Dec.{eqb}
use native.Mathlib.Omega.{arith}
use lib.ListN.{length, length-append}
use borrow.Author.Tests.{eqb-true}
use Rattle.chain.specs.declared.Chain.{Chain}
use Rattle.chain.specs.Paper.{preamble, postamble, no_windows, serial_external, serial_internal, two_preambles}
use Rattle.chain.specs.Rules.{pick}
use Rattle.chain.proofs.ByCases.{by_test}
use Rattle.grammar.specs.Stream.{base_at, Window, Section, window_sent, windows_sent, sections_sent, stream_sent}
use Rattle.grammar.specs.Sent.{frame, bytes_of}
use Rattle.grammar.specs.Tables.{starts, ends, offsets, nulled}
use Rattle.grammar.proofs.OneReading.{bytes-append, data_bytes}

abbrev pub window_bytes : Window → List ℕ
window_bytes w = w.null ∷ (w.start / 256) ∷ (w.start % 256) ∷ (w.end / 256) ∷ (w.end % 256) ∷ w.bytes

abbrev pub windows_bytes : List Window → List ℕ
windows_bytes [] = []
windows_bytes (w ∷ ws) = window_bytes w ++ windows_bytes ws

-- up to its postamble, and a rest
abbrev pub section_bytes : Section → List ℕ → List ℕ
section_bytes s rest =
    s.control ∷ s.address0 ∷ s.address1 ∷ s.address2 ∷ (no_windows - length s.windows) ∷ (windows_bytes s.windows ++ (postamble ∷ rest))

-- two preambles, or one
abbrev pub lead_bytes : Bool → List ℕ
lead_bytes k = pick k (preamble ∷ preamble ∷ []) (preamble ∷ [])

pub windows_bytes_lem : (base : ℕ) (ws : List Window) → bytes_of (windows_sent base ws) ≡ windows_bytes ws
windows_bytes_lem base [] = refl
windows_bytes_lem base (w ∷ ws) =
    bytes-append (window_sent base w) (windows_sent base ws) ∙ rw (data_bytes (base + w.start) w.bytes, windows_bytes_lem base ws)

pub section_bytes_lem : (c : Chain) (s : Section) (rest : List ℕ) → bytes_of (sections_sent c 0 s []) ++ rest ≡ section_bytes s rest
section_bytes_lem c s rest =
    rw (
      bytes-append (windows_sent (base_at c 0) s.windows) (frame postamble ∷ []),
      windows_bytes_lem (base_at c 0) s.windows,
      append_assoc (windows_bytes s.windows) (postamble ∷ []) rest,
    )

pub stream-bytes : (c : Chain) (mode : ℕ) (s : Section) (rest : List ℕ)
    → bytes_of (stream_sent c mode s []) ++ rest ≡ lead_bytes (eqb mode two_preambles) ++ section_bytes s rest
stream-bytes c mode s rest = either (eqb mode two_preambles)
  where
    either : (k : Bool) → bytes_of (pick k (frame preamble ∷ frame preamble ∷ []) (frame preamble ∷ []) ++ sections_sent c 0 s []) ++ rest ≡ lead_bytes k ++ section_bytes s rest
    either true = ap (λ (l : List ℕ). preamble ∷ preamble ∷ l) (section_bytes_lem c s rest)
    either false = ap (λ (l : List ℕ). preamble ∷ l) (section_bytes_lem c s rest)

-- modes 3 and 4 have one preamble
pub serial-one : (mode : ℕ) → eqb mode serial_external || eqb mode serial_internal ≡ true → eqb mode two_preambles ≡ false
serial-one mode e =
    by_test (eqb mode serial_external) (λ q. rw (eqb-true mode serial_external q))
    (λ q. rw (eqb-true mode serial_internal (rw q at e)))

-- a null byte put out is a byte still
pub nulled_long : (ws : List Window) → length (windows_bytes (nulled ws)) ≡ length (windows_bytes ws)
nulled_long [] = refl
nulled_long (w ∷ ws) =
    let e = nulled_long ws in
    omega (arith, length-append w.bytes (windows_bytes ws), length-append w.bytes (windows_bytes (nulled ws)))

-- ---- as many entries as windows

pub starts_many : (ws : List Window) → length (starts ws) ≡ length ws
starts_many [] = refl
starts_many (w ∷ ws) = ap suc (starts_many ws)

pub ends_many : (ws : List Window) → length (ends ws) ≡ length ws
ends_many [] = refl
ends_many (w ∷ ws) = ap suc (ends_many ws)

pub offsets_many : (o : ℕ) (ws : List Window) → length (offsets o ws) ≡ length ws
offsets_many o [] = refl
offsets_many o (w ∷ ws) = ap suc (offsets_many (o + 5 + length w.bytes) ws)
