use Rattle.std.proofs.Common.{◌∙◌}
use Rattle.machine.proofs.Took.{took_both, took_front}
use Rattle.machine.proofs.here.Here.windows.Goals as goal

pub loop-at_data-preserved : goal.loop-at_data-preserved
loop-at_data-preserved c =
    let p = c.split_at.ensures in
    let h = c.in-Some.ensures in
    let l = c.loop-at_data.invariant in
    let b = c.block-here.ensures in record {
      took = took_both l.took (took_both (h.took _) (rw p.back (took_front _ _ _ _ _ c.width-n.result (rw p.front at b.whole_run))));
      size = b.same_device.1 ∙ h.same_size ∙ l.size;
      base = b.same_device.0 ∙ h.same_base ∙ l.base;
    }
