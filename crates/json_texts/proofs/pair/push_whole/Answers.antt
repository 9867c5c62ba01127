use Rattle.std.proofs.Common.{subst, sym}
use Rattle.json_texts.specs.Small.{IsReadable}
use Rattle.comparing.specs.Found.{found_is}
use Rattle.json_texts.proofs.PairReadable.{readable_whole}
use Rattle.json_texts.proofs.pair.push_whole.Goals as goal

pub push_line-requires : goal.push_line-requires
push_line-requires c = record {
  readable = subst IsReadable (sym c.in_ok-facts.ensures)
      (readable_whole c.args.first.now c.args.second.now c.args.precondition.now c.args.cells (found_is c.args.comparison.now));
}
