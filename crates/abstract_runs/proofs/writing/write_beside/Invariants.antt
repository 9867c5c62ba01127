use Rattle.std.proofs.Common.{◌≡◌, ℕ, List, ℤ, length, take}
use Rattle.std.specs.Prelude.{slice_set}
use Rattle.std.specs.List.{Contains}
use Rattle.write_rules.specs.declared.write.Write.{Write}
use Rattle.pram_meaning.specs.Conflict.{Part, writes_to}
use Rattle.abstract_runs.specs.declared.findings.Findings.{Findings}
use Rattle.all_inputs.specs.Overall.{Cover}
use Rattle.abstract_runs.specs.Given.{AreGiven}
use Rattle.abstract_runs.specs.Rows.{ArePartsBy}
use Rattle.abstract_runs.specs.Writing.{MayLeave}
use Rattle.abstract_runs.proofs.writing.write_beside.Given as goal

-- a cell stays, or comes to what one of the rows that were gone over may leave
abbrev pub invariant-loop-k : goal.invariant-loop-k
invariant-loop-k l = record {
  stays : (zs : List ℤ) → Cover l.fn.cells.items zs → Cover l.cells.items zs;
  set : (faults : Findings) (xs : List Part) (zs : List ℤ) (c : ℕ) (w : Write) (v : ℤ) → ArePartsBy faults (take l.k l.fn.rows) xs →
      AreGiven xs →
      Contains (writes_to c xs) w → MayLeave l.fn.rule l.fn.sums w.value v → Cover l.fn.cells.items zs →
      Cover l.cells.items (slice_set zs c v);
  length_is : length l.cells.items ≡ length l.fn.cells.items;
}
