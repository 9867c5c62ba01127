use Rattle.std.proofs.Common.{◌≡◌, ◌∙◌, ap, of_z, rules, sym, to_z, w64}
use Rattle.pram_values.specs.Truth.{is_nonzero}
use Rattle.scopes.proofs.Affirmed.{by_last}
use Rattle.scopes.proofs.affirming.ends_nonzero.Goals as goal

pub returns-in-Some : goal.returns-in-Some
returns-in-Some c =
    let v = c.in-Some.value.now in
    let same : to_z w64 (of_z w64 v) ≡ v = search rules in
    c.is_true.ensures ∙ ap is_nonzero same ∙ sym (by_last c.args.output.now v (sym c.in-Some.ensures.value))
