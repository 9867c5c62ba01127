use Rattle.std.proofs.Common.{subst, sym}
use Rattle.json_texts.specs.Small.{IsReadable}
use Rattle.pages.proofs.Readable.{readable_state}
use Rattle.pages.proofs.state.state_line.Goals as goal

pub line_of-requires : goal.line_of-requires
line_of-requires c = record {
  readable = subst IsReadable (sym c.in_ok-facts.ensures) (readable_state c.args.state.now.cells.items c.args.state.now.variables.items
      c.args.state.now.printed c.args.behind);
}
