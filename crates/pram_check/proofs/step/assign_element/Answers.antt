use Rattle.std.proofs.Common.{refl}
use Rattle.pram_names.specs.Breaches.{inside_of}
use Rattle.pram_names.specs.Resolved as says
use Rattle.pram_names.proofs.Judging.{exit}
use Rattle.pram_names.proofs.Judging.{to_front, to_back, none_in}
use Rattle.pram_check.proofs.Parts.{element_parts}
use Rattle.pram_check.proofs.step.assign_element.Goals as goal

pub returns-in_err-array : goal.returns-in_err-array
returns-in_err-array c =
    exit _ _ _ c.from_residual.result _ c.from_residual.ensures.1 c.in_err-array.ensures
    (to_front _ _ _ (element_parts (inside_of c.args.scope.now) _ c.args.target.now c.args.subscript.now c.args.e.now refl))

pub returns-in_err-subscript : goal.returns-in_err-subscript
returns-in_err-subscript c =
    exit _ _ _ c.from_residual-in_err-subscript.result _ c.from_residual-in_err-subscript.ensures.1 c.in_err-subscript.ensures
    (to_back _ _ _ (element_parts (inside_of c.args.scope.now) _ c.args.target.now c.args.subscript.now c.args.e.now refl)
    c.in_ok-array.ensures.0)

pub returns : goal.returns
returns c =
    let one = c.in_ok-array.ensures in
    let two = c.in_ok-subscript.ensures in (
      none_in _ _ _ (element_parts (inside_of c.args.scope.now) _ c.args.target.now c.args.subscript.now c.args.e.now refl) one.0 two.0,
      says.assign_element c.args.target.now c.args.subscript.now c.args.e.now _ _ _ one.1 two.1.0 two.1.1,
    )
