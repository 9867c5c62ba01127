use Rattle.std.proofs.Common.{◌-◌, ◌∙◌, None, ap, arith, w64}
use Rattle.std.proofs.lemmas.Int.{to_z-of_z}
use Rattle.superstep_machine.specs.Sending.{join}
use Rattle.superstep_machine.specs.Steps.{index_of, own_write}
use Rattle.flat_machine.specs.Flat.{single_to}
use Rattle.instruction_steps.specs.Views.{uniform_of}
use Rattle.flat_run.specs.Views.{own_of, held_of}
use Rattle.flat_run.proofs.PartLemmas.{own_is}
use Rattle.flat_run.proofs.SumLemmas.{sum_goes}
use Rattle.flat_run.proofs.instruct.own_writes.Goals as goal

pub processors-preserved : goal.processors-preserved
processors-preserved g c =
    let old = c.processors.invariant in
    let h = old.2 in
    let v = c.processors.v - 1 in
    let u = uniform_of c.args.u.now in
    let code = c.args.code.now in
    let rule = g.R.WriteRule.rule c.args.rule.now in
    let ps = c.args.processors.now in (
      c.add_write.ensures.cells ∙ old.0,
      (λ cell l. sum_goes None (join rule) (λ k. single_to rule cell (index_of u k)
          (own_write code c.args.instr (own_of ps k))) c.args.u.now.width c.processors.v v _ _
          (old.1 cell l) (omega (arith, c.processors-test.true))
          (c.add_write.ensures.written cell (omega (arith, l, old.0))
          ∙ ap (λ i. join rule (single_to rule cell i c.own_write-write.result) (held_of c.processors.held.items cell))
          (to_z-of_z w64 c.index_of.result c.index_of.ensures.fits)
          ∙ ap (λ i. join rule (single_to rule cell i c.own_write-write.result) (held_of c.processors.held.items cell))
          c.index_of.ensures.value
          ∙ ap (λ w. join rule (single_to rule cell (index_of u v) w) (held_of c.processors.held.items cell))
          (c.own_write-write.ensures ∙ ap (own_write code c.args.instr)
          (own_is ps v c.index-processors-v.result (omega (arith, h, c.processors-test.true, c.requires.room)) c.index-processors-v.is)))),
      omega (arith, h),
    )
