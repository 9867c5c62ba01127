use Rattle.std.proofs.Common.{◌∙◌, ap, length, nat_eq, rules, sym, w64, FitsSigned}
use Rattle.std.proofs.lemmas.Int.{to_z-of_z}
use Rattle.pictures.specs.Steps.Drawn.{is_missing, place_of}
use Rattle.pictures.proofs.steps.rows.is_missing.Goals as goal

pub returns-in-Some : goal.returns-in-Some
returns-in-Some c =
    let fits : FitsSigned w64 c.in-Some.index = search rules in
    let at = c.place_of.ensures.value ∙ ap (place_of c.args.rows.now) (to_z-of_z w64 c.in-Some.index fits) in
    ap (λ n. nat_eq n (length c.args.rows.now)) at ∙ ap (is_missing c.args.rows.now) (sym c.in-Some.is)
