use Rattle.std.proofs.Common.{List, take}
use Rattle.pram_meaning.specs.Conflict.{Part}
use Rattle.pram_meaning.specs.Store as store
use Rattle.pram_meaning.specs.Together.{with_locals}
use Rattle.abstract_runs.specs.declared.findings.Findings.{Findings}
use Rattle.abstract_runs.specs.Given.{AreGiven}
use Rattle.abstract_runs.specs.Likeness.{AreLike}
use Rattle.abstract_runs.specs.Rows.{ArePartsBy}
use Rattle.abstract_runs.specs.Standing.{AreMembersOf}
use Rattle.abstract_runs.proofs.writing.write_locals.Given as goal

-- what the rows that were gone over have written
abbrev pub invariant-loop-k : goal.invariant-loop-k
invariant-loop-k l = record {
  covers : (faults : Findings) (xs : List Part) (gs : List store.Member) → ArePartsBy faults (take l.k l.fn.rows) xs → AreGiven xs →
      AreMembersOf gs l.fn.team.items → AreMembersOf (with_locals l.fn.place xs gs) l.team.items;
  like : AreLike l.fn.team.items l.team.items;
}
