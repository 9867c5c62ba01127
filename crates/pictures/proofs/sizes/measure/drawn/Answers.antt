use Rattle.std.proofs.Common.{arith, sym}
use Rattle.std.proofs.lemmas.List.{take_all}
use Rattle.pictures.proofs.sizes.measure.drawn.Goals as goal

pub returns-else-rows-gt-MOST_ROWS : goal.returns-else-rows-gt-MOST_ROWS
returns-else-rows-gt-MOST_ROWS c =
    let few = c.if-rows-gt-MOST_ROWS.false in
    sym (take_all 64 c.args.rows.now (omega (arith, few)))
