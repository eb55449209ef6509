use Rattle.std.proofs.Common.{rules, ◌≡◌, ◌≤◌, ◌+◌, ◌-◌, ℕ, length, arith}
use mathlib.Core.Path.{◌∙◌, sym, ap}
use lib.ListN.{drop}
use Rattle.chain.specs.State.{unused_zero, zeros}
use Rattle.chain.proofs.Tests.{tests}
use Rattle.chain.proofs.Turns.{zeros_turn, zeros-end, from_n}
use Rattle.chain.proofs.eight.unused_zero.Goals as goal

pub loop-i-init : goal.loop-i-init
loop-i-init c = ap (λ (k : ℕ). zeros (drop k c.args.xs)) {x = c.args.n} {y = c.args.n + (0 - c.args.n)} (omega arith)

pub loop-i-preserved-then-i-first : goal.loop-i-preserved-then-i-first
loop-i-preserved-then-i-first c =
    let a = c.args in
    let i = c.loop-i.i in
    c.loop-i.invariant ∙ ap (λ (k : ℕ). zeros (drop k a.xs)) {x = a.n + (i - a.n)} {y = a.n + (i + 1 - a.n)} (omega (arith, c.if-i-first.true, c.from-first.ensures))

pub returns-then-x-ne0 : goal.returns-then-x-ne0
unfolding unused_zero
returns-then-x-ne0 c =
    let a = c.args in
    let eight : length a.xs ≡ 8 = search rules in
    let i = c.loop-i.i in
    let past : a.n ≤ i = omega (arith, c.if-i-first.false, c.from-first.ensures) in
    sym (c.loop-i.invariant ∙ from_n a.xs a.n i past ∙ zeros_turn a.xs i (omega (arith, eight, c.loop-i-test.true)) ∙ search tests)

pub loop-i-preserved : goal.loop-i-preserved
loop-i-preserved c =
    let a = c.args in
    let eight : length a.xs ≡ 8 = search rules in
    let i = c.loop-i.i in
    c.loop-i.invariant ∙ from_n a.xs a.n i (omega (arith, c.if-i-first.false, c.from-first.ensures))
    ∙ zeros_turn a.xs i (omega (arith, eight, c.loop-i-test.true)) ∙ search tests
    ∙ sym (from_n a.xs a.n (i + 1) (omega (arith, c.if-i-first.false, c.from-first.ensures)))

pub returns : goal.returns
unfolding unused_zero
returns c =
    let a = c.args in
    let eight : length a.xs ≡ 8 = search rules in
    sym (c.loop-i.invariant ∙ zeros-end a.xs (a.n + (c.loop-i.i - a.n)) (omega (arith, eight, c.loop-i-test.false)))
