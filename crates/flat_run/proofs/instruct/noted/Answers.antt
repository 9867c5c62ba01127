use Rattle.std.proofs.Common.{◌∙◌, None, ap}
use Rattle.std.specs.List.{range_with_len}
use Rattle.pram_values.specs.Total.{total}
use Rattle.superstep_machine.specs.Keys.{least}
use Rattle.superstep_machine.specs.Steps.{uniform_key, own_key}
use Rattle.instruction_steps.specs.Views.{uniform_of}
use Rattle.flat_run.specs.Views.{own_of}
use Rattle.flat_run.proofs.instruct.noted.Goals as goal

pub returns : goal.returns
returns c =
    let code = c.args.code.now in
    let i = c.args.instr in
    let u = uniform_of c.args.machine.now.uniform in
    c.least.ensures
    ∙ ap (λ a. least a c.own_keys.result) c.uniform_key.ensures
    ∙ ap (least (uniform_key code i u)) (c.own_keys.ensures
    ∙ ap (λ ps. total None least (λ v. own_key code i u v (own_of ps v)) (range_with_len 0 u.width)) c.deref.ensures.value)
