use Rattle.pictures.proofs.OfFlows.Chains.{on_ok}
use Rattle.pictures.proofs.OfFlows.ReadRows.{step_if, step_while}
use Rattle.pictures.proofs.flows.inside.+inside.Goals as goal

pub add_step-returns-in_ok-add_steps-in-If : goal.add_step-returns-in_ok-add_steps-in-If
add_step-returns-in_ok-add_steps-in-If t c =
    on_ok c.add_steps-in-If.result (λ h. step_if c.args.offset c.in-If.location c.args.s.now c.in-If.test c.in-If.then_part
    c.in-If.else_part
    c.args.all.now.items c.add_here.new.all.items c.add_steps.new.all.items c.add_steps-in-If.new.all.items c.in-If.is
    c.in_ok-add_here-in-If.ensures c.in_ok-add_steps-in-If.ensures h) c.add_steps-in-If.ensures

pub add_step-returns-in_ok-add_here-in-While : goal.add_step-returns-in_ok-add_here-in-While
add_step-returns-in_ok-add_here-in-While t c =
    on_ok c.add_steps-in-While.result (λ h. step_while c.args.offset c.in-While.location c.args.s.now c.in-While.test c.in-While.body
    c.args.all.now.items c.add_here-in-While.new.all.items c.add_steps-in-While.new.all.items c.in-While.is
    c.in_ok-add_here-in-While.ensures h) c.add_steps-in-While.ensures
