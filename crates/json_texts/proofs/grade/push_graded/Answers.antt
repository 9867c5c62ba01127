use Rattle.std.proofs.Common.{subst, sym}
use Rattle.json_texts.specs.Small.{IsReadable}
use Rattle.comparing.specs.Found.{found_is}
use Rattle.json_texts.proofs.GradeReadable.{readable_graded}
use Rattle.json_texts.proofs.grade.push_graded.Goals as goal

pub push_line-requires : goal.push_line-requires
push_line-requires c = record { readable = subst IsReadable (sym c.in_ok-facts.ensures) (readable_graded c.args.file.now c.args.marks c.args.first.now c.args.second.now (found_is c.args.comparison.now)) }
