use Rattle.std.proofs.Common.{sym}
use Rattle.combining.proofs.Marks.{length_both, marks_of}
use Rattle.combining.proofs.states.AskStates.marks.Goals as goal

pub returns-clause-length : goal.returns-clause-length
returns-clause-length c =
    rw (c.as_slice.ensures.value, ← c.self.view_is) (sym (length_both c.self.inside.marks.items c.self.inside.came.items))

pub returns-clause-each : goal.returns-clause-each
returns-clause-each c i = rw (c.as_slice.ensures.value, ← c.self.view_is) (marks_of c.self.inside.marks.items c.self.inside.came.items i)
