use Rattle.std.proofs.Common.{arith, sym}
use Rattle.std.proofs.lemmas.List.{take_all}
use Rattle.pictures.proofs.flows.rows.drawn_rows.Goals as goal

pub returns-else-found-gt-MOST_ROWS : goal.returns-else-found-gt-MOST_ROWS
returns-else-found-gt-MOST_ROWS c =
    let few = c.if-found-gt-MOST_ROWS.false in
    sym (take_all 64 c.args.found.now (omega (arith, few)))
