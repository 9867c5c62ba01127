use Rattle.std.proofs.Common.{◌-◌, ◌∙◌, None, ap, arith}
use Rattle.superstep_machine.specs.Keys.{least}
use Rattle.superstep_machine.specs.Steps.{own_key}
use Rattle.instruction_steps.specs.Views.{uniform_of}
use Rattle.flat_run.specs.Views.{own_of}
use Rattle.flat_run.proofs.PartLemmas.{own_is}
use Rattle.flat_run.proofs.SumLemmas.{sum_starts, sum_goes, sum_ends}
use Rattle.flat_run.proofs.instruct.own_keys.Goals as goal

pub processors-init : goal.processors-init
processors-init c = sum_starts None least (λ v. own_key c.args.code.now c.args.instr (uniform_of c.args.u.now) v
    (own_of c.args.processors.now v)) c.args.u.now.width

pub own_key-requires : goal.own_key-requires
own_key-requires c = let h = c.processors.invariant.bound in omega (arith, h, c.processors-test.true)

pub processors-preserved : goal.processors-preserved
processors-preserved c =
    let h = c.processors.invariant.bound in
    let u = uniform_of c.args.u.now in
    let v = c.processors.v - 1 in
    sum_goes None least (λ k. own_key c.args.code.now c.args.instr u k
    (own_of c.args.processors.now k)) c.args.u.now.width c.processors.v v c.processors.noted _
    c.processors.invariant (omega (arith, c.processors-test.true))
    (c.least-noted.ensures
    ∙ ap (λ a. least a c.processors.noted) (c.own_key.ensures
    ∙ ap (own_key c.args.code.now c.args.instr u v) (own_is c.args.processors.now v c.index-processors-v.result
    (omega (arith, h, c.processors-test.true, c.requires)) c.index-processors-v.is)))

pub returns : goal.returns
returns c =
    sum_ends None least (λ v. own_key c.args.code.now c.args.instr (uniform_of c.args.u.now) v
    (own_of c.args.processors.now v)) c.args.u.now.width c.processors.v c.processors.noted
    c.processors.invariant (omega (arith, c.processors-test.false))
