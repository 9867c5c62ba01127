use Rattle.std.proofs.Common.{◌≡◌, ◌≤◌, drop, map, max}
use Rattle.journal.specs.Entries.{entry_is}
use Rattle.pictures.specs.Steps.ProgramLines.{longest}
use Rattle.pictures.proofs.steps.program_lines.longest.Given as goal

abbrev pub invariant-loop-entry : goal.invariant-loop-entry
invariant-loop-entry l = record {
  so_far : max l.most (longest l.text (map entry_is (drop l.entry-index l.entries))) ≡ longest l.text (map entry_is l.entries);
  short : l.most ≤ 36;
}
