-- What the machine gives leaves a salvager one change list: two that say so of one stream agree in windows kept and announced, offset and end, whatever was
-- written; and with it one stream to write. Assumes nothing.
use Prim.Native.Nat.{ℕ, ◌<◌, ◌≤◌}
use mathlib.Core.Bool.{Bool, true, false}
use mathlib.Core.Path.{◌≡◌, ap, sym, ◌∙◌}
use mathlib.Core.List.{List, []}
use native.Mathlib.Omega.{arith}
use borrow.Author.Tests.{ltb-true, ltb-false}
use lib.Dec.{eqb, ltb}
use lib.ListN.{get_or}
use Rattle.chain.specs.Paper.{at_null, at_start, at_data, at_check, first_mode}
use Rattle.chain.specs.Rules.{pick}
use Rattle.chain.proofs.ByCases.{by_test}
use Rattle.grammar.specs.Sent.{bytes_of}
use Rattle.grammar.specs.Stream.{Section, stream_sent}
use Rattle.grammar.specs.Tables.{nulls_off}
use Rattle.grammar.proofs.OneReading.{same_sections}
use Rattle.salvage.specs.declared.Salvaged.{Salvaged}
use Rattle.demands.specs.Loader.{Loader}
use Rattle.demands.specs.OldDisks.{mended, place_after, AsMachine, OneList, OneStream}

-- a null byte or a check byte is none of a window's other bytes
apart : (k : Bool) → at_start ≤ pick k at_check at_null → pick k at_check at_null ≤ at_data → ⊥
apart true h g = omega arith
apart false h g = omega arith

module _ (l : Loader) (kind : ℕ) (s : List ℕ) where
  never_later : (r q : Salvaged) → AsMachine l kind s r → AsMachine l kind s q → r.offset < q.offset → ⊥
  never_later r q a b h =
      let in_window = a.later q.offset h b.inside b.still_open in
      let place = place_after l kind s q.offset in
      apart (eqb place.left 0) (rw b.between at in_window.0) (rw b.between at in_window.1)

pub one_list : (l : Loader) → OneList l
one_list l kind s r q a b =
    let e : r.offset ≡ q.offset =
    by_test (ltb r.offset q.offset) (λ h. absurd (never_later l kind s r q a b (ltb-true r.offset q.offset h)))
    (λ h. by_test (ltb q.offset r.offset) (λ g. absurd (never_later l kind s q r b a (ltb-true q.offset r.offset g)))
    (λ g. omega (arith, ltb-false r.offset q.offset h, ltb-false q.offset r.offset g))) in
    let same : (place_after l kind s r.offset).left ≡ (place_after l kind s q.offset).left = ap (λ (n : ℕ). (place_after l kind s n).left) e in
    let many : r.announced ≡ q.announced = a.announced ∙ sym b.announced in
    (omega (arith, same, many, a.left, b.left), many, sym a.end ∙ b.end, e)

-- the stream mended by it is one, and has one reading
pub one_stream : (l : Loader) → OneStream l
one_stream l c s w v a b p q =
    let k = one_list l (get_or c.kinds 0 0) s w.salvaged v.salvaged a b in
    let x = p.accepted.reading in
    let y = q.accepted.reading in
    let same : mended s w.salvaged ≡ mended s v.salvaged = rw (k.0, k.3) in
    let one = (same_sections c first_mode x.first x.others y.first y.others x.fits y.fits (x.bytes ∙ same ∙ sym y.bytes)).0 in
    p.bytes ∙ ap (λ (z : Section). bytes_of (stream_sent c first_mode (nulls_off z) [])) one ∙ sym q.bytes
