use Rattle.std.proofs.Common.{rules, ◌≡◌, ◌≤◌, ◌-◌, refl, length, arith, take, add-one, false, nat_eq}
use mathlib.Core.Path.{◌∙◌, ap, sym}
use borrow.Author.Tests.{eq-eqb, ne_eqb, le-leb}
use Rattle.std.proofs.lemmas.List.{length-take-le}
use lib.ListN.{get_or}
use Rattle.chain.specs.Kinds.{size_of, base_of, known_of}
use Rattle.chain.specs.State.{is_bad_chain}
use Rattle.chain.proofs.Base.{base_suc, base_take}
use Rattle.chain.proofs.Means.{says, reads}
use Rattle.chain.proofs.Turns.{known_take, known_front, known_end}
use Rattle.chain.proofs.state.bad_chain.Goals as goal

pub returns-then-not-count : goal.returns-then-not-count
unfolding is_bad_chain
returns-then-not-count c = simp c.if-not-count.true

pub loop-kind-init : goal.loop-kind-init
loop-kind-init c =
    let a = c.args in
    let none : a.count - 0 ≡ a.count = omega arith in
    let same : c.from.result ≡ a.count = cc in
    record { few = omega arith; sum = unfold base_of in refl; known = rw (none, same) (sym (known_take a.kinds a.count)) }

pub overflow_add-total : goal.overflow_add-total
overflow_add-total c =
    let few : (1 ≤ c.args.count) × (c.args.count ≤ 8) = says (search reads) c.if-not-count.false in
    let eight : length c.args.kinds ≡ 8 = search rules in
    let long = length-take-le c.from.result c.args.kinds (omega (arith, c.from.ensures, few.1, eight)) in
    omega (arith, c.loop-kind.invariant.few, c.loop-kind-test.true, long, c.from.ensures, few.1, c.size.ensures.bounds.1, c.from-total.ensures)

pub returns-in-Err : goal.returns-in-Err
unfolding is_bad_chain
returns-in-Err c =
    let a = c.args in
    let few : (1 ≤ a.count) × (a.count ≤ 8) = says (search reads) c.if-not-count.false in
    let eight : length a.kinds ≡ 8 = search rules in
    let same : c.from.result ≡ a.count = cc in
    let below = rw same at c.loop-kind-test.true in
    let turn = known_front a.kinds a.count c.loop-kind.kind-index below (length-take-le a.count a.kinds (omega (arith, few.1, eight))) (rw same at c.loop-kind.invariant.known) in
    let size : size_of (get_or (take a.count a.kinds) c.loop-kind.kind-index 0) ≡ 0 = rw same at c.in-Err.ensures.1 in
    let unknown : known_of a.kinds a.count ≡ false = turn ∙ simp (eq-eqb _ _ size) in
    simp (le-leb 1 a.count few.0, le-leb a.count 8 few.1, unknown)

pub loop-kind-preserved : goal.loop-kind-preserved
loop-kind-preserved c =
    let a = c.args in
    let l = c.loop-kind in
    let ks = take c.from.result a.kinds in
    let few : (1 ≤ a.count) × (a.count ≤ 8) = says (search reads) c.if-not-count.false in
    let eight : length a.kinds ≡ 8 = search rules in
    let same : c.from.result ≡ a.count = cc in
    let below = rw same at c.loop-kind-test.true in
    let turn = known_front a.kinds a.count l.kind-index below (length-take-le a.count a.kinds (omega (arith, few.1, eight))) (rw same at l.invariant.known) in
    let size : size_of (get_or ks l.kind-index 0) ≡ c.size.result = ap size_of (sym c.in-Ok.ensures) ∙ sym c.size.ensures.value in
    let known : nat_eq (size_of (get_or ks l.kind-index 0)) 0 ≡ false = ne_eqb _ _ (λ none. absurd (omega (arith, size, none, c.size.ensures.bounds.0))) in
    record {
      few = omega (arith, l.invariant.few, c.from-total.ensures, c.size.ensures.bounds.1);
      sum = rw (add-one, base_suc ks l.kind-index c.loop-kind-test.true) (omega (arith, l.invariant.sum, c.from-total.ensures, size));
      known = rw same (turn ∙ simp (rw same at known));
    }

pub returns : goal.returns
unfolding is_bad_chain
returns c =
    let a = c.args in
    let few : (1 ≤ a.count) × (a.count ≤ 8) = says (search reads) c.if-not-count.false in
    let eight : length a.kinds ≡ 8 = search rules in
    let same : c.from.result ≡ a.count = cc in
    let long = length-take-le c.from.result a.kinds (omega (arith, same, few.1, eight)) in
    let i = c.loop-kind.kind-index in
    let all : i ≡ a.count = omega (arith, long, same, c.loop-kind-test.false, c.loop-kind.auto.kind-index-end) in
    let sum : base_of a.kinds a.count ≡ c.loop-kind.total = sym (base_take a.kinds a.count) ∙ sym (rw (all, same) at c.loop-kind.invariant.sum) in
    simp (le-leb 1 a.count few.0, le-leb a.count 8 few.1, c.loop-kind.invariant.known ∙ known_end _ a.count i (omega (arith, all)), sum)
