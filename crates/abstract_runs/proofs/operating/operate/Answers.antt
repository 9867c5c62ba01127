use Rattle.std.proofs.Common.{sym, subst}
use Rattle.pram_meaning.specs.Attempt.{operation}
use Rattle.pram_meaning.specs.Operation as spec
use Rattle.abstract_runs.specs.Covers.{IsAmong}
use Rattle.abstract_runs.specs.Tried.{IsTried}
use Rattle.abstract_runs.proofs.Operated.{few_operate, settled}
use Rattle.abstract_runs.proofs.operating.operate.Goals as goal

pub returns-clause-tried : goal.returns-clause-tried
returns-clause-tried c = λ x y t p q h.
    subst (λ v. IsTried (IsAmong v) c.settle.new.trail.items c.settle.new.faults (operation (spec.operate c.args.operator x y) t))
    (sym c.in_ok-value.ensures.value)
    (settled (spec.operate c.args.operator) c.args.left c.args.right c.operate-found.result c.args.trail.now.items c.settle.new.trail.items
    c.settle.new.faults x y t c.operate-found.ensures.told (few_operate c.args.operator x y) c.in_ok-value.ensures.overflow c.in_ok-value.ensures.zero
    c.in_ok-value.ensures.trail p q h)
