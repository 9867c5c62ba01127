use Rattle.std.proofs.Common.{◌∙◌, ap, arith}
use Rattle.instruction_steps.specs.Views.{registers_of}
use Rattle.instruction_steps.proofs.RegisterLemmas.{resized_is}
use Rattle.instruction_steps.proofs.registers.grow.Goals as goal

pub returns-clause-same : goal.returns-clause-same
returns-clause-same c =
    ap registers_of c.in_ok-resize.ensures.items ∙ resized_is c.args.values.now.items c.args.count _
    (let more = c.requires in omega (arith, more, c.args.values.now.ok))
