use Rattle.std.proofs.Common.{subst, sym}
use Rattle.json_texts.specs.Small.{IsReadable}
use Rattle.pages.proofs.Readable.{readable_opening}
use Rattle.pages.proofs.opening.opening_line.Goals as goal

pub line_of-requires : goal.line_of-requires
line_of-requires c = record {
  readable = subst IsReadable (sym c.in_ok-facts.ensures)
      (readable_opening c.args.file.now c.args.text.now c.args.tree.now c.args.input.now c.args.statements);
}
