use Rattle.std.proofs.Common.{◌∙◌, ap, map}
use Rattle.help.specs.InScope.{known_is}
use Rattle.diagnoses.proofs.Remarked.{if_ok, of_unknown}
use Rattle.diagnoses.proofs.remark.remark_at.Goals as goal

pub returns-in-UnknownName : goal.returns-in-UnknownName
returns-in-UnknownName c =
    if_ok c.unknown.result _ _
    (λ r said. of_unknown c.args.text.now c.args.tree.now c.args.at c.args.cause _ _ _ c.token_at-word.result.now c.in-UnknownName.is
    c.token_at-word.ensures c.bound_in.ensures (ap (map known_is) c.deref.ensures.value ∙ c.in_ok-names.ensures) said)
    c.unknown.ensures
