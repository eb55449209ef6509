use Prim.Native.Nat.{ℕ, ◌+◌}
use mathlib.Core.Path.{sym, ap, ◌∙◌}
use mathlib.Core.List.{List, [], ◌∷◌, ◌++◌}
use native.Mathlib.Omega.{arith}
use lib.ListN.{length, set}
use Rattle.chain.specs.Paper.{postamble}
use Rattle.writer.specs.Stream.{head_bytes, windows_bytes}
use Rattle.chain.proofs.Over.{then_over, then_byte, over_is}
use Rattle.writer.proofs.Parts.{head_length, stream_parts, parts_length, stream-length}
use Rattle.chain.specs.Mode.{mode_number}
use Rattle.writer.proofs.put.stream.Goals as goal

pub returns-clause-value : goal.returns-clause-value
returns-clause-value c =
    let a = c.args in
    omega (arith, stream-length (mode_number a.mode) a.control a.address a.tables.starts.now a.tables.ends.now a.cells.now a.tables.same c.requires.0)

pub returns-clause-out_after : goal.returns-clause-out_after
returns-clause-out_after c =
    let a = c.args in
    let m : ℕ = mode_number a.mode in
    let hd : List ℕ = head_bytes m a.control a.address (length a.tables.starts.now) in
    let ws : List ℕ = windows_bytes a.tables.starts.now a.tables.ends.now a.cells.now in
    let n = parts_length m a.control a.address a.tables.starts.now a.tables.ends.now a.cells.now a.tables.same c.requires.0 in
    let at : ℕ = c.head-at.result + c.windows.result in
    let u = then_over c.head-at.result hd ws a.out.now _ _ (c.head-at.ensures.value ∙ sym (head_length m a.control a.address (length a.tables.starts.now))) c.head-at.ensures.out_after c.windows.ensures.out_after in
    ap (λ (o : List ℕ). set o at postamble) u
    ∙ then_byte (hd ++ ws) a.out.now at postamble (omega arith) (omega arith)
    ∙ over_is ((hd ++ ws) ++ (postamble ∷ [])) _ a.out.now (sym (stream_parts m a.control a.address a.tables.starts.now a.tables.ends.now a.cells.now a.tables.same))
