use Rattle.std.proofs.Common.{take}
use Rattle.abstract_runs.specs.Finding.{AreKept}
use Rattle.abstract_runs.proofs.RowLists.{AreRowsFor}
use Rattle.abstract_runs.proofs.survey.Survey.rows_of.Given as goal

-- a row for each that was gone over
abbrev pub invariant-loop-k : goal.invariant-loop-k
invariant-loop-k l =
    AreRowsFor l.fn.self.program.now l.fn.known l.fn.team.items l.fn.target l.fn.e l.faults (take l.k l.fn.active) l.rows.items
    × AreKept l.fn.faults l.faults
