use Rattle.std.proofs.Common.{◌∙◌, ap, w64}
use Rattle.std.proofs.lemmas.Int.{to_z-of_z}
use Rattle.pictures.specs.Steps.Drawn.{place_of}
use Rattle.pictures.proofs.OfSteps.RowTexts.{beside_those}
use Rattle.pictures.proofs.steps.rows.offer_beside.Goals as goal

pub returns-then-place_of-those-clause-offered : goal.returns-then-place_of-those-clause-offered
returns-then-place_of-those-clause-offered c =
    let at = c.place_of.ensures.value ∙ ap (place_of c.args.those.now) (to_z-of_z w64 c.args.index c.ranges.index) in
    beside_those c.args.those.now c.args.rows.now.items c.args.index c.place_of.result at c.if-place_of-those.true
