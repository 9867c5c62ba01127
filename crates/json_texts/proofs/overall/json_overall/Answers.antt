use Rattle.std.proofs.Common.{subst, sym}
use Rattle.json_texts.specs.Small.{IsReadable}
use Rattle.json_texts.proofs.OverallReadable.{readable_overall}
use Rattle.json_texts.proofs.overall.json_overall.Goals as goal

pub line_of-requires : goal.line_of-requires
line_of-requires c =
    let readable = readable_overall c.args.layout.now c.args.scope c.args.overall.now in
    record { readable = subst IsReadable (sym c.in_ok-facts.ensures) readable }
