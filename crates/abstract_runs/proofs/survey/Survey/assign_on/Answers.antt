use Rattle.std.proofs.Common.{refl}
use Rattle.abstract_runs.specs.Inner.{IsStill}
use Rattle.abstract_runs.proofs.Leading.{kept_same}
use Rattle.abstract_runs.proofs.Members.{stands_still, seen_known}
use Rattle.abstract_runs.proofs.Sets.{attempted_as, not_attempted, found_then}
use Rattle.abstract_runs.proofs.TeamLists.{team_like_same}
use Rattle.abstract_runs.proofs.survey.Survey.assign_on.Goals as goal

pub returns-in_default-clause-leads : goal.returns-in_default-clause-leads
returns-in_default-clause-leads c = λ m vs stands inner active.
    found_then c.args.self.now.program.now c.in_ok-rows.field-0 vs (λ xs. IsStill c.attempt_on.new.known m) c.attempt_on.new.told
    c.attempt_on.new.told _ _ _
    (c.in_ok-rows.ensures.leads m vs
    (record {
      known_as = stands.known_as;
      members = seen_known c.args.team.now.items c.args.inner _ c.unwrap_or-seen.result
          c.unwrap_or-seen.ensures refl m vs stands.members inner;
    }) active)
    (kept_same c.attempt_on.new.told)
    (λ xs s found here. absurd (not_attempted c.args.self.now.program.now c.in_ok-rows.field-0 vs xs c.in_default.is found))

pub returns-in_default-clause-like : goal.returns-in_default-clause-like
returns-in_default-clause-like c = team_like_same c.args.team.now.items

pub returns-clause-leads : goal.returns-clause-leads
returns-clause-leads c = λ m vs stands inner active.
    found_then c.args.self.now.program.now c.in_ok-rows.field-0 vs (λ xs. IsStill c.attempt_on.new.known m) c.attempt_on.new.told
    c.attempt_on.new.told _ _ _
    (c.in_ok-rows.ensures.leads m vs
    (record {
      known_as = stands.known_as;
      members = seen_known c.args.team.now.items c.args.inner _ c.unwrap_or-seen.result
          c.unwrap_or-seen.ensures refl m vs stands.members inner;
    }) active)
    (kept_same c.attempt_on.new.told)
    (λ xs s found here. (
      refl,
      c.in_ok-write_rows.ensures.stands s vs xs (stands_still c.attempt_on.new.known c.args.team.now.items m s here stands.members)
          (attempted_as c.args.self.now.program.now c.in_ok-rows.field-0 c.in-Some.rows vs xs c.in-Some.is found),
    ))
