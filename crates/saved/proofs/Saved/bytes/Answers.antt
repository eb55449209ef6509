use Rattle.std.proofs.Common.{◌≡◌, ◌∙◌, ap, length, rules}
use Rattle.std.specs.Int.{w32, to_be_bytes}
use Rattle.saved.proofs.Pieces.{laid_out}
use Rattle.saved.proofs.Saved.bytes.Goals as goal

pub returns : goal.returns
returns c =
    let g = c.args.self.registers in
    let p = c.args.self.place in
    let eight : length g ≡ 8 = search rules in
    laid_out g p _ _ _ _ _ _ c.requires eight (c.to_be_bytes.ensures ∙ ap (to_be_bytes w32) c.head.ensures)
    c.to_be_bytes-2.ensures c.to_be_bytes-3.ensures c.to_be_bytes-4.ensures c.to_be_bytes-5.ensures c.to_be_bytes-6.ensures
