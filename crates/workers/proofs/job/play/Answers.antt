use Rattle.std.proofs.Common.{sym, subst}
use Rattle.workers.specs.Reports.{CameOf}
use Rattle.workers.proofs.HearingLemmas.{heard_stop, heard_go}
use Rattle.workers.proofs.job.play.Goals.{in-None, in-Some}
use Rattle.workers.proofs.job.play.Goals as goal

pub returns : goal.returns
returns g c =
    let done = g.T.Deed.done in
    let after = c.wait.new.self in
    let heard = c.wait.ensures.heard in
    record {
      table = c.wait.ensures.same.0;
      at = c.wait.ensures.same.1;
      came = elim c.match-wait.branch [
        | in-None w ↦ subst (CameOf done after) (sym w.played-is) (heard_stop after c.wait.result heard w.in-None.is)
        | in-Some w ↦ subst (CameOf done after) (sym w.played-is)
            (w.in-Some.task, heard_go after c.wait.result w.in-Some.task heard w.in-Some.is, w.work_off.ensures)
      ];
    }
