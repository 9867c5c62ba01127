use Rattle.std.proofs.Common.{refl}
use Rattle.pram_names.specs.Breaches.{outside_of}
use Rattle.pram_names.specs.Resolved as says
use Rattle.pram_names.proofs.Judging.{exit}
use Rattle.pram_names.proofs.Judging.{to_front, to_back, none_in}
use Rattle.pram_check.proofs.Parts.{assign_parts}
use Rattle.pram_check.proofs.statement.assign.Goals as goal

pub returns-in_err-cell : goal.returns-in_err-cell
returns-in_err-cell c =
    exit _ _ _ c.from_residual.result _ c.from_residual.ensures.1 c.in_err-cell.ensures
    (to_front _ _ _ (assign_parts (outside_of c.args.scope.now c.args.loops.now) _ c.args.x.now c.args.e.now refl))

pub returns-in_err-value : goal.returns-in_err-value
returns-in_err-value c =
    exit _ _ _ c.from_residual-in_err-value.result _ c.from_residual-in_err-value.ensures.1 c.in_err-value.ensures
    (to_back _ _ _ (assign_parts (outside_of c.args.scope.now c.args.loops.now) _ c.args.x.now c.args.e.now refl) c.in_ok-cell.ensures.0)

pub returns : goal.returns
returns c =
    let one = c.in_ok-cell.ensures in
    let two = c.in_ok-value.ensures in (
      none_in _ _ _ (assign_parts (outside_of c.args.scope.now c.args.loops.now) _ c.args.x.now c.args.e.now refl) one.0 two.0,
      says.assign c.args.x.now c.args.e.now _ _ one.1 two.1,
    )
