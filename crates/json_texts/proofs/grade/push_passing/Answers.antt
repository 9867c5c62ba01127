use Rattle.std.proofs.Common.{subst, sym}
use Rattle.json_texts.specs.Small.{IsReadable}
use Rattle.json_texts.proofs.GradeReadable.{readable_passing}
use Rattle.json_texts.proofs.grade.push_passing.Goals as goal

pub push_line-requires : goal.push_line-requires
push_line-requires c = record { readable = subst IsReadable (sym c.in_ok-facts.ensures) (readable_passing c.args.passing c.args.programs) }
