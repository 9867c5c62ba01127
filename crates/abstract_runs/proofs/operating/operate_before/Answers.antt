use Rattle.std.proofs.Common.{sym, subst}
use Rattle.pram_meaning.specs.Attempt.{operation}
use Rattle.pram_meaning.specs.Operation as spec
use Rattle.abstract_runs.specs.Covers.{IsAmong}
use Rattle.abstract_runs.specs.Tried.{IsTried}
use Rattle.abstract_runs.proofs.Operated.{few_before, settled}
use Rattle.abstract_runs.proofs.operating.operate_before.Goals as goal

pub returns-clause-tried : goal.returns-clause-tried
returns-clause-tried c = λ x t p h.
    subst (λ v. IsTried (IsAmong v) c.settle.new.trail.items c.settle.new.faults (operation (spec.operate_before c.args.operator x) t))
    (sym c.in_ok-value.ensures.value)
    (settled (λ x y. spec.operate_before c.args.operator x) c.args.operand c.args.operand c.operate_before-found.result
    c.args.trail.now.items c.settle.new.trail.items
    c.settle.new.faults x x t c.operate_before-found.ensures.told (few_before c.args.operator x) c.in_ok-value.ensures.overflow
    c.in_ok-value.ensures.zero
    c.in_ok-value.ensures.trail p p h)
