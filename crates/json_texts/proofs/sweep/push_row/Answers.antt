use Rattle.std.proofs.Common.{subst, sym}
use Rattle.json_texts.specs.Small.{IsReadable}
use Rattle.json_texts.proofs.SweepReadable.{readable_row}
use Rattle.json_texts.proofs.sweep.push_row.Goals as goal

pub push_line-requires : goal.push_line-requires
push_line-requires c = record { readable = subst IsReadable (sym c.in_ok-facts.ensures) (readable_row c.args.name.now c.args.row.now) }
