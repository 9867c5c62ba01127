use Rattle.std.proofs.Common.{◌≡◌, List, ℤ, length, take}
use Rattle.pram_model.specs.declared.rule.Rule.{Rule}
use Rattle.pram_meaning.specs.Conflict.{Part}
use Rattle.pram_meaning.specs.Together.{overwritten}
use Rattle.abstract_runs.specs.declared.findings.Findings.{Findings}
use Rattle.all_inputs.specs.Overall.{Cover}
use Rattle.abstract_runs.specs.Given.{AreGiven}
use Rattle.abstract_runs.specs.Rows.{ArePartsBy}
use Rattle.abstract_runs.proofs.writing.write_apart.Given as goal

-- what the rows that were gone over have written
abbrev pub invariant-loop-k : goal.invariant-loop-k
invariant-loop-k l = record {
  covers : (rule : Rule) (faults : Findings) (xs : List Part) (zs : List ℤ) → ArePartsBy faults (take l.k l.fn.rows) xs → AreGiven xs →
      Cover l.fn.cells.items zs → Cover l.cells.items (overwritten rule xs 0 zs);
  length_is : length l.cells.items ≡ length l.fn.cells.items;
}
