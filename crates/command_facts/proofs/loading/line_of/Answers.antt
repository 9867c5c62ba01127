use Rattle.std.proofs.Common.{◌≡◌, ◌∙◌, ap, arith, length}
use Rattle.command_facts.proofs.Layouts.{few_in}
use Rattle.command_facts.proofs.loading.line_of.Goals as goal

pub overflow_add-result : goal.overflow_add-result
overflow_add-result c =
    let few = few_in c.args.code.now c.requires in
    let n : c.len.result ≡ length c.args.code.now.layout = c.len.ensures ∙ ap length c.layout.ensures.value in
    omega (arith, few, n)

pub overflow_add-result-2 : goal.overflow_add-result-2
overflow_add-result-2 c =
    let few = few_in c.args.code.now c.requires in
    let n : c.len.result ≡ length c.args.code.now.layout = c.len.ensures ∙ ap length c.layout.ensures.value in
    omega (arith, few, n)
