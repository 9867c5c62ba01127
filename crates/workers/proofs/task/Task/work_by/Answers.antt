use Rattle.std.proofs.Common.{subst}
use Rattle.workers.specs.Tasks.{HasPlayed}
use Rattle.workers.proofs.task.Task.work_by.Goals as goal

pub returns : goal.returns
returns g c =
    subst (λ x. HasPlayed g.M.AddressMap.shape x c.work.result.0 c.work.result.1) c.self.view_is
    (record {
      owner = c.work.ensures.owner;
      over = c.work.ensures.over;
      reserve = c.work.ensures.reserve;
      kept = c.work.ensures.kept;
      worked = c.work.ensures.worked;
    })
