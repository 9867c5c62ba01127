use Rattle.pictures.proofs.OfFlows.Chains.{on_ok}
use Rattle.pictures.proofs.OfFlows.ReadRows.{statement_for, statement_if, statement_while}
use Rattle.pictures.proofs.flows.outside.+outside.Goals as goal

pub add_statement-returns-in_ok-add_here-in-While : goal.add_statement-returns-in_ok-add_here-in-While
add_statement-returns-in_ok-add_here-in-While t c =
    on_ok c.add_statements.result (λ h. statement_while c.args.offset c.in-While.location c.args.s.now c.in-While.test c.in-While.body
    c.args.all.now.items c.add_here-in-While.new.all.items c.add_statements.new.all.items c.in-While.is
    c.in_ok-add_here-in-While.ensures h) c.add_statements.ensures

pub add_statement-returns-in_ok-add_statements-in-If : goal.add_statement-returns-in_ok-add_statements-in-If
add_statement-returns-in_ok-add_statements-in-If t c =
    on_ok c.add_statements-in-If-2.result (λ h. statement_if c.args.offset c.in-If.location c.args.s.now c.in-If.test c.in-If.then_part
    c.in-If.else_part c.args.all.now.items c.add_here-in-If.new.all.items c.add_statements-in-If.new.all.items
    c.add_statements-in-If-2.new.all.items c.in-If.is c.in_ok-add_here-in-If.ensures c.in_ok-add_statements-in-If.ensures h)
    c.add_statements-in-If-2.ensures

pub add_statement-returns-in_ok-add_bounds_here-in-For : goal.add_statement-returns-in_ok-add_bounds_here-in-For
add_statement-returns-in_ok-add_bounds_here-in-For t c =
    on_ok c.add_statements-in-For.result (λ h. statement_for c.args.offset c.in-For.location c.args.s.now c.in-For.variable c.in-For.low
    c.in-For.high c.in-For.body c.args.all.now.items c.add_bounds_here.new.all.items c.add_statements-in-For.new.all.items c.in-For.is
    c.in_ok-add_bounds_here-in-For.ensures h) c.add_statements-in-For.ensures
