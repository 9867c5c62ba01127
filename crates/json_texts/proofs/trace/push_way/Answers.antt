use Rattle.std.proofs.Common.{subst, sym}
use Rattle.json_texts.specs.Small.{IsReadable}
use Rattle.json_texts.proofs.WayReadable.{readable_way}
use Rattle.json_texts.proofs.trace.push_way.Goals as goal

pub push_line-requires : goal.push_line-requires
push_line-requires c = record { readable = subst IsReadable (sym c.in_ok-facts.ensures) (readable_way _ _ _ _) }
