use Rattle.std.proofs.Common.{sym, subst}
use Rattle.pram_meaning.specs.Together.{assigned_by}
use Rattle.abstract_runs.specs.Rows.{ArePartsBy}
use Rattle.abstract_runs.specs.Standing.{StandsWith}
use Rattle.abstract_runs.proofs.Faultless.{all_given}
use Rattle.abstract_runs.proofs.TeamLists.{team_like_same}
use Rattle.abstract_runs.proofs.survey.Survey.write_rows.Goals as goal

pub returns-in-Local-clause-stands : goal.returns-in-Local-clause-stands
returns-in-Local-clause-stands c = λ m vs xs stands attempted.
    subst (λ t. StandsWith c.args.known.now c.write_locals.new.team.items (assigned_by c.args.self.now.program.now t xs m))
    (sym c.in-Local.is)
    (record {
      known_as = record {
        least = stands.known_as.least;
        most = stands.known_as.most;
        uniforms = stands.known_as.uniforms;
        cells = stands.known_as.cells;
        near = stands.known_as.near;
      };
      members = c.write_locals.ensures.covers attempted.faults xs m.team
          (subst (λ rows. ArePartsBy attempted.faults rows xs) (sym c.deref.ensures.value) attempted.parts)
          (all_given c.args.self.now.program.now.rule xs attempted.faultless) stands.members;
    })

pub returns-in_ok-write_cells-in-Cell-clause-like : goal.returns-in_ok-write_cells-in-Cell-clause-like
returns-in_ok-write_cells-in-Cell-clause-like c = team_like_same c.args.team.now.items
