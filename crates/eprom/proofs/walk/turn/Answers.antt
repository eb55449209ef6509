use Rattle.std.proofs.Common.{ℕ, ◌+◌, List, drop, take, set, sym, ap, ◌∙◌, inr, arith, rules}
use lib.Seq.{sets}
use Rattle.cells.proofs.Count.{copy_turn, copy_end}
use Rattle.cells.proofs.Over.{front_is}
use Rattle.eprom.specs.Steps.{down_from}
use Rattle.eprom.proofs.ReadBytes.{down-length, down-at}
use Rattle.eprom.proofs.walk.turn.Goals as goal

pub loop-i-preserved : goal.loop-i-preserved
loop-i-preserved c =
    let a = c.args in
    let s = down_from a.e.now a.at a.n in
    let i = c.loop-i.i in
    let d = c.loop-i.room in
    (search rules, c.loop-i.invariant.1 ∙ copy_turn d s i (omega (arith, down-length a.e.now a.at a.n)) ∙ ap (λ (x : ℕ). sets (set d i x) (i + 1) (drop (i + 1) s)) (down-at a.e.now a.at a.n i (search rules)))

pub returns : goal.returns
returns c =
    let a = c.args in
    let s = down_from a.e.now a.at a.n in
    ap (λ (x : List ℕ). take a.n x) (sym (c.loop-i.invariant.1 ∙ copy_end c.loop-i.room s c.loop-i.i (inr (omega (arith, down-length a.e.now a.at a.n))))) ∙ front_is s a.room.now a.n (down-length a.e.now a.at a.n) c.requires.2
