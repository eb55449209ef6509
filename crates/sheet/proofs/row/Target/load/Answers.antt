use Rattle.std.proofs.Common.{arith, refl, ◌≡◌, ◌∙◌, sym, ap, ◌≤◌, List, ℕ, length}
use Rattle.chain.specs.declared.Place.{Place}
use Rattle.chain.specs.Mode.{mode_number}
use Rattle.chain.specs.Set.{with_place}
use Rattle.hunt.specs.Hunt.{nowhere}
use Rattle.grammar.specs.Stores.{put_into}
use Rattle.sheet.specs.Stream.{Device, device, shift_of}
use Rattle.sheet.specs.Steps.{puts_left, row_from}
use Rattle.sheet.proofs.Loading.{begins-inside, ready_size, opened, unfound_row_lem, unfound-left}
use Rattle.sheet.proofs.row.Target.load.Goals as goal

-- `sheet::row::Target::load` meets its contract. Assumes nothing.
pub returns-in_default : goal.returns-in_default
returns-in_default c =
    let t = c.args.self.now in
    let s = c.args.s.now in
    let k = mode_number c.args.mode in
    let d : Device = device t.chain t.memory.now in
    let h : nowhere ≤ shift_of k s = omega (arith, c.in_default.ensures) in
    let l = unfound-left d k s _ refl h in
    record {
      row_value = c.unfound.ensures ∙ unfound_row_lem d k s _ refl h;
      chain_value = ap (λ (x : Device). x.chain) l;
      memory_after = ap (λ (x : Device). x.memory) l;
      before_after = c.requires.2 ∙ ap (λ (x : Device). x.memory) l;
      marks_after = refl;
    }

pub invariant_of-bytes : goal.invariant_of-bytes
invariant_of-bytes c =
    let e = c.in-Some.ensures in
    record { near = e.1; inside = begins-inside (mode_number c.args.mode) c.args.s.now c.in-Some.p e.0 e.1; few = c.requires.1 }

pub load-fed-requires : goal.load-fed-requires
load-fed-requires c =
    let t = c.args.self.now in
    omega (arith, c.requires.3, (ready_size t.chain (length t.memory.now) c.requires.0).0)

pub invariant_of-stores : goal.invariant_of-stores
invariant_of-stores c =
    let t = c.args.self.now in
    let r = c.requires in
    let f = c.load-fed.ensures in
    let o =
    opened (device t.chain t.memory.now) c.args.mode c.args.s.now c.in-Some.p _ c.start.result _ _ r.0 r.4 (λ i. (c.type_inv.s i).fits) r.1 c.in-Some.ensures c.number.ensures
    c.start.ensures.made f.value f.mem_after in
    record { writing = o.writes; within = omega arith }

pub row-row-requires : goal.row-row-requires
row-row-requires c =
    let t = c.args.self.now in
    let s = c.args.s.now in
    let r = c.requires in
    let f = c.load-fed.ensures in
    let o =
    opened (device t.chain t.memory.now) c.args.mode s c.in-Some.p _ c.start.result _ _ r.0 r.4 (λ i. (c.type_inv.s i).fits) r.1 c.in-Some.ensures c.number.ensures
    c.start.ensures.made f.value f.mem_after in
    let l : length t.before.now ≡ length t.memory.now = ap (λ (m : List ℕ). length m) r.2 in (
      omega (arith, l, c.load-fed.auto.mem),
      omega (arith, l, c.load-fed.auto.room, r.3),
      o.few,
      o.memory ∙ ap (put_into (puts_left c.start.result.chain s c.in-Some.p 0)) (sym r.2),
    )

pub returns : goal.returns
returns c =
    let t = c.args.self.now in
    let s = c.args.s.now in
    let p = c.in-Some.p in
    let r = c.requires in
    let f = c.load-fed.ensures in
    let o =
    opened (device t.chain t.memory.now) c.args.mode s p _ c.start.result _ _ r.0 r.4 (λ i. (c.type_inv.s i).fits) r.1 c.in-Some.ensures c.number.ensures
    c.start.ensures.made f.value f.mem_after in
    record {
      row_value = o.row _
          (c.row-row.ensures.value
          ∙ ap (λ (m : List ℕ). row_from (mode_number c.args.mode) p c.load-fed.result.answer (puts_left c.start.result.chain s p 0) m c.load-fed.new.mem) r.2);
      chain_value = ap (λ (x : Place). with_place c.load-fed.result.chain x) c.closed_place.ensures ∙ o.chain;
      memory_after = o.left;
      before_after = c.row-row.ensures.after ∙ o.left;
      marks_after = omega (arith, c.load-fed.auto.room, c.row-row.auto.marks);
    }
