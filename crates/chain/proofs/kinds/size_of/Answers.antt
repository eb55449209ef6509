use Rattle.std.proofs.Common.{rules, ◌≡◌, ◌+◌, ◌-◌, true, false, eqb, get_or, sym, ◌∙◌, arith, eq-eqb, ne_eqb}
use Rattle.chain.specs.Kinds.{size_of, kinds, sizes}
use Rattle.chain.proofs.Lookup.{lookup-cons}
use Rattle.chain.proofs.kinds.size_of.Goals as goal

pub loop-i-init : goal.loop-i-init
loop-i-init c = search rules

pub loop-i-preserved-then-i-kind : goal.loop-i-preserved-then-i-kind
loop-i-preserved-then-i-kind c =
    let i = c.loop-i.i in
    let kind = c.args.kind in
    let found : eqb (get_or kinds (i - 1) 0) kind ≡ true = eq-eqb (get_or kinds (i - 1) 0) kind c.if-i-kind.true in
    sym (simp found at (lookup-cons kinds sizes kind (i - 1) (omega arith) (omega arith)))

pub loop-i-preserved : goal.loop-i-preserved
loop-i-preserved c =
    let l = c.loop-i in
    let i = l.i in
    let kind = c.args.kind in
    let other : eqb (get_or kinds (i - 1) 0) kind ≡ false = ne_eqb (get_or kinds (i - 1) 0) kind c.if-i-kind.false in
    let up : i - 1 + 1 ≡ i = omega arith in
    l.invariant ∙ sym (simp (other, up) at (lookup-cons kinds sizes kind (i - 1) (omega arith) (omega arith)))

pub returns : goal.returns
unfolding size_of
returns c = let none : c.loop-i.i ≡ 0 = omega arith in rw none at c.loop-i.invariant
