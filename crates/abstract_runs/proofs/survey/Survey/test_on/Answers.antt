use Rattle.std.proofs.Common.{refl}
use Rattle.abstract_runs.specs.Inner.{IsStill}
use Rattle.abstract_runs.specs.Standing.{StandsWith}
use Rattle.abstract_runs.proofs.Leading.{kept_same, leads_on}
use Rattle.abstract_runs.proofs.Members.{stands_still, seen_known}
use Rattle.abstract_runs.proofs.Sets.{IsFound}
use Rattle.abstract_runs.proofs.survey.Survey.test_on.Goals as goal

pub returns-clause-leads : goal.returns-clause-leads
returns-clause-leads c = λ m vs stands inner active.
    leads_on (λ xs s. IsFound c.args.self.now.program.now c.in_ok-rows.rows vs xs × IsStill c.attempt_on.new.known m s)
    (λ xs s. IsFound c.args.self.now.program.now c.in_ok-rows.rows vs xs × StandsWith c.attempt_on.new.known c.args.team.now.items s)
    c.attempt_on.new.told c.attempt_on.new.told _
    (c.in_ok-rows.ensures.leads m vs
    (record {
      known_as = stands.known_as;
      members = seen_known c.args.team.now.items c.args.inner _ c.unwrap_or-seen.result
          c.unwrap_or-seen.ensures refl m vs stands.members inner;
    }) active)
    (kept_same c.attempt_on.new.told)
    (λ xs s g. (g.0, stands_still c.attempt_on.new.known c.args.team.now.items m s g.1 stands.members))
