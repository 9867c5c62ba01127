use Rattle.std.proofs.Common.{◌∙◌, None, ap, arith, pos}
use Rattle.std.specs.List.{range_with_len}
use Rattle.pram_values.specs.Total.{total}
use Rattle.superstep_machine.specs.Sending.{join}
use Rattle.superstep_machine.specs.Steps.{index_of, own_write, uniform_write}
use Rattle.flat_machine.specs.Flat.{single_to}
use Rattle.instruction_steps.specs.Views.{uniform_of}
use Rattle.flat_run.specs.Views.{own_of, held_of}
use Rattle.flat_run.proofs.instruct.WritesRuleBody.run.Goals as goal

pub returns : goal.returns
returns g c =
    let code = c.args.self.code.now in
    let i = c.args.self.instr in
    let m = c.args.self.machine.now in
    let rule = g.R.WriteRule.rule c.args.rule.now in
    let cells = c.own_writes.ensures.cells in (
      c.add_write.ensures.cells ∙ cells,
      (λ k l. c.add_write.ensures.written k (omega (arith, l, cells))
          ∙ ap (λ w. join rule (single_to rule k (pos 0) w) (held_of c.own_writes.new.held.items k)) c.uniform_write-write.ensures
          ∙ ap (join rule (single_to rule k (pos 0) (uniform_write code i (uniform_of m.uniform)))) (c.own_writes.ensures.written k l
          ∙ ap (λ ps. total None (join rule) (λ v. single_to rule k (index_of (uniform_of m.uniform) v) (own_write code i (own_of ps v)))
          (range_with_len 0 m.uniform.width)) c.deref.ensures.value)
          ∙ ap (λ r. join r (single_to r k (pos 0) (uniform_write code i (uniform_of m.uniform)))
          (total None (join r) (λ v. single_to r k (index_of (uniform_of m.uniform) v) (own_write code i (own_of m.processors.items v)))
          (range_with_len 0 m.uniform.width))) c.requires.0),
    )
