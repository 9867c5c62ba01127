use Rattle.std.proofs.Common.{subst, sym}
use Rattle.json_texts.specs.Small.{IsReadable}
use Rattle.comparing.specs.Found.{differing_is}
use Rattle.json_texts.proofs.PairReadable.{readable_differing}
use Rattle.json_texts.proofs.pair.push_differing.Goals as goal

pub push_line-requires : goal.push_line-requires
push_line-requires c = record {
  readable = subst IsReadable (sym c.in_ok-facts.ensures)
      (readable_differing c.args.first.now c.args.second.now (differing_is c.args.found.now));
}
