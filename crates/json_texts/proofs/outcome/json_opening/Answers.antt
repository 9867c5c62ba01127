use Rattle.std.proofs.Common.{subst, sym}
use Rattle.json_texts.specs.Small.{IsReadable}
use Rattle.json_texts.proofs.Readable.{readable_opening}
use Rattle.json_texts.proofs.outcome.json_opening.Goals as goal

pub line_of-requires : goal.line_of-requires
line_of-requires c = record {
  readable = subst IsReadable (sym c.in_ok-facts.ensures)
      (readable_opening c.args.layout.now c.args.memory.now);
}
