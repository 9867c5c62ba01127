use Rattle.std.proofs.Common.{◌≡◌, ◌∙◌, ap, subst, sym, ℕ}
use Rattle.costs.specs.Cost.{time, work}
use Rattle.costs.specs.Steps.{run_steps}
use Rattle.scopes.specs.Runs.{verdict_on}
use Rattle.comparing.specs.Differences.{first_difference, run_on}
use Rattle.comparing.proofs.Runs.{as_itself}
use Rattle.comparing.proofs.Bounds.{no_limit}
use Rattle.comparing.proofs.comparison_laws.a_program_is_as_itself.Goals as goal

pub returns : goal.returns
returns c = λ p k n input same no_time no_work.
    ap (λ (m : ℕ). first_difference k (verdict_on p n input) (run_on p m input)) (no_limit k.limits n no_time)
    ∙ as_itself k (verdict_on p n input) (time (run_steps p input n)) (work (run_steps p input n)) same no_time no_work
