use Rattle.std.proofs.Common.{subst, sym}
use Rattle.json_texts.specs.Small.{IsReadable}
use Rattle.json_texts.proofs.Readable.{readable_comparison}
use Rattle.json_texts.proofs.rules.json_comparison.Goals as goal

pub line_of-requires : goal.line_of-requires
line_of-requires c = record { readable = subst IsReadable (sym c.in_ok-facts.ensures) (readable_comparison _) }
