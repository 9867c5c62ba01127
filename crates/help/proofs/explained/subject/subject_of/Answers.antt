use Rattle.std.proofs.Common.{arith}
use Rattle.help.proofs.Subjects.{none_of_all}
use Rattle.help.proofs.explained.subject.subject_of.Goals as goal

-- all have been looked at
pub returns-clause-none : goal.returns-clause-none
returns-clause-none c is =
    let over = c.subjects-test.false in
    none_of_all c.args.word.now (λ k below. c.subjects.invariant.none k (omega (arith, below, over)))
