use Rattle.std.proofs.Common.{◌≡◌, ℕ, refl, sym, ap, ◌∙◌, ◌*◌, ◌-◌, inr, length, take, drop, min, ◌%◌, rules, arith}
use Rattle.std.proofs.lemmas.List.{take_rest}
use Rattle.std.proofs.lemmas.List.Edits.{sets}
use Rattle.hunt.specs.Bits.{bytes_from, whole_from, index_of}
use Rattle.hunt.proofs.Bytes.{bytes_part, bytes-drop, whole_is, lesser_of}
use Rattle.hunt.proofs.piece.Goals as goal

pub returns-then-s-at : goal.returns-then-s-at
unfolding bytes_from whole_from
returns-then-s-at c = record { upper_bound = (omega arith, omega arith, inr (omega arith)); out_after = refl }

pub returns-then-k-eq0-clause-upper_bound : goal.returns-then-k-eq0-clause-upper_bound
returns-then-k-eq0-clause-upper_bound c =
    let a = c.args in
    let s = a.s.now in
    let e : c.min-n.result ≡ min (length s - a.at.byte) (length a.out.now) = search rules in
    lesser_of _ _ _ (whole_from s (index_of a.at)) e (sym (whole_is s (index_of a.at)) ∙ omega arith)

pub returns-then-k-eq0-clause-out_after : goal.returns-then-k-eq0-clause-out_after
returns-then-k-eq0-clause-out_after c =
    let a = c.args in
    let s = a.s.now in
    let n = c.min-n.result in
    let e : n ≡ min (length s - a.at.byte) (length a.out.now) = search rules in
    let at : 8 * a.at.byte ≡ index_of a.at = omega arith in
    let front : take n (take (length s - a.at.byte) (drop a.at.byte s)) ≡ bytes_from s (index_of a.at) n =
    rw take_rest (sym (bytes_part s (λ i. (c.type_inv.s i).fits) n a.at.byte (omega arith)) ∙ ap (λ (p : ℕ). bytes_from s p n) at) in
    c.copy.ensures ∙ ap (sets a.out.now 0) front

pub returns-clause-upper_bound : goal.returns-clause-upper_bound
returns-clause-upper_bound c =
    let a = c.args in
    let s = a.s.now in
    let e : c.min-n-2.result ≡ min (length s - a.at.byte - 1) (length a.out.now) = search rules in
    lesser_of _ _ _ (whole_from s (index_of a.at)) e (sym (whole_is s (index_of a.at)) ∙ omega arith)

pub returns-clause-out_after : goal.returns-clause-out_after
returns-clause-out_after c =
    let a = c.args in
    let s = a.s.now in
    rw take_rest at c.shift.ensures ∙ ap (sets a.out.now 0) (bytes-drop s a.at.byte c.min-n-2.result (a.at.bit % 8))
