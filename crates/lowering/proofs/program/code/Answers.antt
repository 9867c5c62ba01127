use Rattle.std.proofs.Common.{true, length, ap, arith}
use Rattle.plain_form.proofs.TextWords.{code_fits}
use Rattle.lowering.proofs.program.code.Goals as goal

pub of-requires-clause-few : goal.of-requires-clause-few
of-requires-clause-few c =
    let same = ap length c.requires.instructions in
    let few = code_fits true c.args.program.now c.requires.resolved c.requires.bounded.few_tokens in
    omega (arith, same, few)
