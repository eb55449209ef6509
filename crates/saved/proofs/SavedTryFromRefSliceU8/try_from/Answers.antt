use Rattle.std.proofs.Common.{◌≡◌, ◌∙◌, sym, ap, refl, rules, length, ℕ, List, Fits, w16, w32}
use borrow.Author.Tests.{eq-eqb}
use Rattle.std.specs.Int.{from_be_bytes}
use Rattle.saved.specs.Layout.{rows, place_of, registers_of}
use Rattle.saved.proofs.Regroup.{elems}
use Rattle.saved.proofs.Pieces.{read_is, marks_are}
use Rattle.saved.proofs.SavedTryFromRefSliceU8.try_from.Goals as goal

pub returns-then-not-marked : goal.returns-then-not-marked
returns-then-not-marked c =
    let s = c.args.s.now in
    let e : c.in_ok-s.s.now ≡ s = search rules in
    let l : length s ≡ 27 = search rules in
    let h = c.from_be_bytes-head.result in
    let f : Fits w32 h = search rules in
    let is : h ≡ from_be_bytes w32 (elems 0 4 s) = c.from_be_bytes-head.ensures ∙ ap (λ (x : List ℕ). from_be_bytes w32 (elems 0 4 x)) e in
    (rw (eq-eqb (length s) 27 l, marks_are s (λ i. (c.type_inv.s i).fits) l h f.fits is) c.if-not-marked.true, refl)

pub returns : goal.returns
returns c =
    let s = c.args.s.now in
    let e : c.in_ok-s.s.now ≡ s = search rules in
    let l : length s ≡ 27 = search rules in
    let h = c.from_be_bytes-head.result in
    let f : Fits w32 h = search rules in
    let is : h ≡ from_be_bytes w32 (elems 0 4 s) = c.from_be_bytes-head.ensures ∙ ap (λ (x : List ℕ). from_be_bytes w32 (elems 0 4 x)) e in
    let held = read_is s (λ i. (c.type_inv.s i).fits) l h _ _ _ _ _ is
    (c.from_be_bytes.ensures ∙ ap (λ (x : List ℕ). from_be_bytes w16 (elems 4 2 x)) e)
    (c.from_be_bytes-2.ensures ∙ ap (λ (x : List ℕ). from_be_bytes w16 (elems 6 2 x)) e)
    (c.from_be_bytes-3.ensures ∙ ap (λ (x : List ℕ). from_be_bytes w16 (elems 8 2 x)) e)
    (c.from_be_bytes-4.ensures ∙ ap (λ (x : List ℕ). from_be_bytes w32 (elems 10 4 x)) e)
    (c.from_be_bytes-5.ensures ∙ ap (λ (x : List ℕ). from_be_bytes w32 (elems 14 4 x)) e) in (
      rw (eq-eqb (length s) 27 l, marks_are s (λ i. (c.type_inv.s i).fits) l h f.fits is) c.if-not-marked.false,
      ap (elems 18 8) e ∙ ap (registers_of rows) (sym held),
      rw e (ap (place_of rows) (sym held)),
    )
