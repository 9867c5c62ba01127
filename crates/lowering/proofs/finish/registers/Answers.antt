use Rattle.std.proofs.Common.{◌≡◌, ◌+◌, ◌≤◌, max, ap, ◌∙◌, arith, drop, get_or}
use Rattle.std.proofs.lemmas.List.{drop_more}
use Rattle.superstep_instructions.specs.Limits.{most_registers}
use Rattle.superstep_instructions.specs.declared.instr.Instr.TheVariants.{Mark}
use Rattle.plain_form.specs.Registers as spec
use Rattle.lowering.proofs.finish.registers.Goals as goal

pub loop-instr-preserved : goal.loop-instr-preserved
loop-instr-preserved c =
    let i = c.loop-instr.instr-index in
    let xs = c.args.instructions.now in
    let rest = spec.registers c.args.side (drop (i + 1) xs) in
    let all = c.loop-instr.invariant.all ∙ ap (λ l. max c.loop-instr.most (spec.registers c.args.side l))
    (drop_more xs i (Mark 0) c.loop-instr-test.true) in
    let here = spec.behind_all (spec.named c.args.side (get_or xs i (Mark 0))) in
    let same : c.registers_of.result ≡ here = c.registers_of.ensures.count in
    let greater : c.greater-most.result ≡ max c.loop-instr.most c.registers_of.result = c.greater-most.ensures in
    let few : c.loop-instr.most ≤ most_registers = c.loop-instr.invariant.few in
    let one : c.registers_of.result ≤ most_registers = c.registers_of.ensures.few in
    let regroup : max c.loop-instr.most (max here rest) ≡ max c.greater-most.result rest = omega (arith, same, greater) in
    record { all = all ∙ regroup; few = omega (arith, greater, few, one) }
