use Rattle.std.proofs.Common.{subst, sym}
use Rattle.json_texts.specs.Small.{IsReadable}
use Rattle.scopes.specs.Found.{found_is}
use Rattle.json_texts.proofs.ExplorationReadable.{readable_exploration}
use Rattle.json_texts.proofs.exploration.json_exploration.Goals as goal

pub line_of-requires : goal.line_of-requires
line_of-requires c = record {
  readable = subst IsReadable (sym c.in_ok-facts.ensures)
      (readable_exploration c.args.layout.now c.args.specification.now c.args.cells (found_is c.args.findings.now));
}
