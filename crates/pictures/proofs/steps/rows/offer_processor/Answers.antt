use Rattle.std.proofs.Common.{◌∙◌, ap, rules, sym, w64, FitsSigned}
use Rattle.std.proofs.lemmas.Int.{to_z-of_z}
use Rattle.pictures.specs.Steps.Drawn.{index_of, offered_beside, with_others}
use Rattle.pictures.proofs.steps.rows.offer_processor.Goals as goal

pub returns-in-Some-clause-offered : goal.returns-in-Some-clause-offered
returns-in-Some-clause-offered c =
    let fits : FitsSigned w64 c.in-Some.index = search rules in
    c.offer_beside.ensures.offered
    ∙ ap (offered_beside c.args.those.now c.args.rows.now.items) (to_z-of_z w64 c.in-Some.index fits)
    ∙ ap (λ p. with_others c.args.those.now c.args.rows.now.items (index_of p)) (sym c.in-Some.is)
