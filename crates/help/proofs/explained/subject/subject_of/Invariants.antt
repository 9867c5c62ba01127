use Rattle.help.proofs.Subjects.{NoneBelow}
use Rattle.help.proofs.explained.subject.subject_of.Given as goal

abbrev pub invariant-subjects : goal.invariant-subjects
invariant-subjects l = record { none : NoneBelow l.word l.i }
