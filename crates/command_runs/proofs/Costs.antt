-- The costs of a run, put together from what `cost_of` says of each number.
use Rattle.std.proofs.Common.{◌≡◌, ℕ, List, ◌+◌, ◌/◌, ap, subst, ◌∙◌}
use Rattle.costs.specs.Cost as cost
use Rattle.costs.specs.declared.cost.Cost.{Cost}
use Rattle.costs.specs.declared.time_step.TimeStep.{TimeStep}
use Rattle.command_runs.specs.Runs.{IsCost}

pub costs_are : (ss : List TimeStep) (p q : ℕ) (c : Cost) → p ≡ q → c.time ≡ cost.time ss → c.work ≡ cost.work ss →
    c.width ≡ cost.most_processors ss → c.reads ≡ cost.reads ss → c.writes ≡ cost.writes ss → c.rounds ≡ cost.rounds p ss →
    c.most_rounds ≡ c.work / p + c.time → c.lines.items ≡ cost.line_costs ss → IsCost ss q c
costs_are ss p q c same t w m r s x y l =
    subst (λ q. IsCost ss q c) same (record {
      time = t;
      work = w;
      width = m;
      reads = r;
      writes = s;
      rounds = x;
      most_rounds = y ∙ ap (λ w. w / p + c.time) w ∙ ap (λ t. cost.work ss / p + t) t;
      lines = l;
    })
