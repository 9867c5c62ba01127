use Rattle.std.proofs.Common.{subst, sym}
use Rattle.json_texts.specs.Small.{IsReadable}
use Rattle.journal.specs.Entries.{entry_is}
use Rattle.json_texts.proofs.Readable.{readable_step}
use Rattle.json_texts.proofs.steps.json_step.Goals as goal

pub line_of-requires : goal.line_of-requires
line_of-requires c = record {
  readable = subst IsReadable (sym c.in_ok-facts.ensures)
      (readable_step c.args.layout.now c.args.tree.now c.args.source.now c.args.number (entry_is c.args.entry.now));
}
