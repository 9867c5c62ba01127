use Rattle.std.proofs.Common.{◌≡◌, ◌+◌, map, take}
use Rattle.journal.specs.Entries.{entry_is}
use Rattle.json_texts.specs.StepFacts.{steps_from}
use Rattle.pages.specs.Gathered.{AddsLines}
use Rattle.pages.proofs.last_lines.add_lines.Given as goal

abbrev pub invariant-loop-entry : goal.invariant-loop-entry
invariant-loop-entry l = record {
  counted : l.number ≡ l.before + l.entry-index;
  added : AddsLines l.fn.lines l.lines (steps_from l.asked.layout.now l.asked.tree.now l.asked.source.now l.asked.first l.asked.last
      (l.before + 1) (map entry_is (take l.entry-index l.entries)));
}
