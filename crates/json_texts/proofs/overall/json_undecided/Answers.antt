use Rattle.std.proofs.Common.{subst, sym}
use Rattle.json_texts.specs.Small.{IsReadable}
use Rattle.json_texts.proofs.OverallReadable.{readable_undecided}
use Rattle.json_texts.proofs.overall.json_undecided.Goals as goal

pub line_of-requires : goal.line_of-requires
line_of-requires c = record { readable = subst IsReadable (sym c.in_ok-facts.ensures) (readable_undecided c.args.scope c.args.undecided) }
