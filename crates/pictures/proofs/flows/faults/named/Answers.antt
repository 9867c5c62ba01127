use Rattle.std.proofs.Common.{arith, sym}
use Rattle.std.proofs.lemmas.List.{take_all}
use Rattle.pictures.proofs.flows.faults.named.Goals as goal

pub returns-else-met-gt-MOST_NAMED : goal.returns-else-met-gt-MOST_NAMED
returns-else-met-gt-MOST_NAMED c =
    let few = c.if-met-gt-MOST_NAMED.false in
    sym (take_all 12 c.args.met.now (omega (arith, few)))
