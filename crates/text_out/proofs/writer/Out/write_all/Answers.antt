use Rattle.text_out.proofs.Progress.{fails, starts, takes}
use Rattle.text_out.proofs.writer.Out.write_all.Goals as goal

pub loop-rest-init : goal.loop-rest-init
loop-rest-init g c = starts _ _

pub loop-rest-preserved : goal.loop-rest-preserved
loop-rest-preserved g c =
    takes _ _ _ _ _ _ c.in-Ok.count c.loop-rest.invariant c.split_at.ensures.back c.in-Ok.ensures.taken

pub returns-in-Err : goal.returns-in-Err
returns-in-Err g c = record { written = fails _ _ _ _ _ c.loop-rest.invariant c.in-Err.ensures.failed }
