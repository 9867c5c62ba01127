use Rattle.std.proofs.Common.{subst, sym}
use Rattle.json_texts.specs.Small.{IsReadable}
use Rattle.json_texts.proofs.SweepReadable.{readable_growths}
use Rattle.json_texts.proofs.sweep.push_told.Goals as goal

pub push_line-requires : goal.push_line-requires
push_line-requires c = record {
  readable = subst IsReadable (sym c.in_ok-facts.ensures) (readable_growths c.args.name.now c.args.growths.now);
}
