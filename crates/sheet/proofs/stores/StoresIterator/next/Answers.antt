use Rattle.std.proofs.Common.{arith, sym, refl, ◌∙◌, ◌+◌, ◌-◌, ◌/◌, ℕ, length, bit_and}
use Rattle.chain.specs.declared.Made.{Made}
use Rattle.chain.specs.Paper.{more}
use Rattle.sheet.proofs.Stored.{writing_past}
use Rattle.sheet.proofs.Frames.{one_framing, one-over, window_framing}
use Rattle.sheet.proofs.WalkTurns.{none_left, data_part, part_after}
use Rattle.sheet.proofs.stores.StoresIterator.next.Goals as goal

pub invariant_of-self : goal.invariant_of-self
invariant_of-self c =
    let s = c.loop-self.self in
    let m = c.min-have.result in
    record {
      writing = rw c.past_data-self.ensures (writing_past s.chain s.size m s.writing c.if-self-eq-AT_DATA.true (omega (arith, c.width.ensures.value)) (omega (arith, c.width.ensures.value)));
      within = omega arith;
    }

pub returns-then-self-eq-AT_DATA-clause-steps : goal.returns-then-self-eq-AT_DATA-clause-steps
returns-then-self-eq-AT_DATA-clause-steps c =
    let s = c.loop-self.self in
    let v = c.loop-self.invariant in
    let p = s.bytes.p in
    let n : ℕ = length s.bytes.stream.now - (p + 7) / 8 in
    let m = c.min-have.result in
    let d =
    data_part s.chain s.size s.bytes.stream.now (p / 8) (bit_and p 7) n s.at m s.writing (omega arith) (omega (arith, c.width.ensures.value)) (omega (arith, c.width.ensures.value))
    c.if-self-eq-AT_DATA.true in
    (v.size, v.bytes, rw c.past_data-self.ensures (part_after v.left v.size v.further d))

pub invariant_of-self-in-Some : goal.invariant_of-self-in-Some
invariant_of-self-in-Some c =
    let s = c.loop-self.self in
    let x = c.in-Some.ensures in
    let f = window_framing s.chain s.size s.bytes.stream.now s.bytes.p s.at _ _ _ s.writing x c.past_header-self.ensures in
    record { writing = f.write; within = x.there }

pub loop-self-preserved-in-Some : goal.loop-self-preserved-in-Some
loop-self-preserved-in-Some c =
    let s = c.loop-self.self in
    let v = c.loop-self.invariant in
    let x = c.in-Some.ensures in
    let f = window_framing s.chain s.size s.bytes.stream.now s.bytes.p s.at _ _ _ s.writing x c.past_header-self.ensures in
    record { size = v.size; bytes = v.bytes; further = omega (arith, v.further); left = v.left ∙ f.on }

pub returns-in_default-ahead-clause-steps : goal.returns-in_default-ahead-clause-steps
returns-in_default-ahead-clause-steps c =
    let s = c.loop-self.self in
    let v = c.loop-self.invariant in
    let p = s.bytes.p in
    let n : ℕ = length s.bytes.stream.now - (p + 7) / 8 in
    let z =
    one-over s.chain s.size s.writing s.bytes.stream.now (p / 8) (bit_and p 7) n s.at (omega arith) c.byte.result c.byte.ensures _ refl c.in_default-ahead.ensures.1 in
    (v.size, v.bytes, v.left ∙ z)

pub invariant_of-self-in_default : goal.invariant_of-self-in_default
invariant_of-self-in_default c =
    let s = c.loop-self.self in
    let p = s.bytes.p in
    let n : ℕ = length s.bytes.stream.now - (p + 7) / 8 in
    let a : Made = record { chain = c.in-Continue.next; number = more } in
    let f =
    one_framing s.chain s.size s.writing s.bytes.stream.now (p / 8) (bit_and p 7) n s.at (omega arith) c.byte.result c.byte.type_inv c.byte.ensures
    c.if-self-eq-AT_DATA.false a (sym c.in-Continue.ensures) refl in
    record { writing = f.write; within = omega arith }

pub loop-self-preserved : goal.loop-self-preserved
loop-self-preserved c =
    let s = c.loop-self.self in
    let v = c.loop-self.invariant in
    let p = s.bytes.p in
    let n : ℕ = length s.bytes.stream.now - (p + 7) / 8 in
    let a : Made = record { chain = c.in-Continue.next; number = more } in
    let f =
    one_framing s.chain s.size s.writing s.bytes.stream.now (p / 8) (bit_and p 7) n s.at (omega arith) c.byte.result c.byte.type_inv c.byte.ensures
    c.if-self-eq-AT_DATA.false a (sym c.in-Continue.ensures) refl in
    record { size = v.size; bytes = v.bytes; further = omega (arith, v.further); left = v.left ∙ f.on }

pub returns-clause-steps : goal.returns-clause-steps
returns-clause-steps c =
    let s = c.loop-self.self in
    let v = c.loop-self.invariant in
    let p = s.bytes.p in
    let n : ℕ = length s.bytes.stream.now - (p + 7) / 8 in
    (v.size, v.bytes, v.left ∙ none_left s.chain s.bytes.stream.now (p / 8) (bit_and p 7) n s.at (omega arith))
