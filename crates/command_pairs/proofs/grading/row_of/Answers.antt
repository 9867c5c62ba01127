use Rattle.std.proofs.Common.{refl}
use Rattle.command_pairs.proofs.GradeRows.{graded_by}
use Rattle.command_pairs.proofs.grading.row_of.Goals as goal

pub returns-clause-row : goal.returns-clause-row
returns-clause-row g c = (
  refl,
  graded_by (g.S.Sources.holds c.args.sources.now) c.args.words.now c.find_pair-graded.result c.find_pair-graded.ensures.found
      c.find_pair-graded.ensures.refused,
)
