use Rattle.std.proofs.Common.{arith, sym}
use Rattle.std.proofs.lemmas.List.{take_all}
use Rattle.pictures.proofs.flows.letters.front.Goals as goal

pub returns-else-source-gt-MOST : goal.returns-else-source-gt-MOST
returns-else-source-gt-MOST c =
    let few = c.if-source-gt-MOST.false in
    sym (take_all 24 c.args.source.now (omega (arith, few)))
