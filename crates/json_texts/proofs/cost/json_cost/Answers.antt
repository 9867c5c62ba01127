use Rattle.std.proofs.Common.{subst, sym}
use Rattle.json_texts.specs.Small.{IsReadable}
use Rattle.write_rules.specs.Verdict.{verdict_of}
use Rattle.json_texts.proofs.Readable.{readable_cost}
use Rattle.json_texts.proofs.cost.json_cost.Goals as goal

pub line_of-requires : goal.line_of-requires
line_of-requires c =
    let v = verdict_of c.args.outcome.now in
    let readable = readable_cost c.args.layout.now v c.args.cost.now c.args.schedule c.args.lines in
    record { readable = subst IsReadable (sym c.in_ok-facts.ensures) readable }
