use mathlib.Core.List.{[]}
use lib.Bits.{or_zero_l, or_zero_r}
use lib.Dec.{lit≤}
use Rattle.saved.specs.Layout.{head_rows, widths, values}
use Rattle.saved.proofs.Packing.{ored-packed}
use Rattle.saved.proofs.head.Goals as goal

pub returns : goal.returns
returns c =
    rw (c.from.ensures, c.from-2.ensures, c.from-3.ensures, c.from-4.ensures, c.from-5.ensures)
    (simp (or_zero_l, or_zero_r) at (ored-packed 32 (widths head_rows) (values 1 head_rows [] c.args.p) c.requires (lit≤ tt)))
