use Rattle.std.proofs.Common.{◌≡◌, ◌∙◌, Global, List, Vec, ap, map, refl, subst, sym, ℤ}
use Rattle.std.specs.Prelude.{ℕ, Err, Some}
use Rattle.comparing.specs.Found.{longest, too_long, values_of}
use Rattle.comparing.specs.declared.refusal.ComparisonRefusal.{ComparisonRefusal}
use Rattle.command_pairs.specs.Pairs.{IsFoundBy}
use Rattle.command_pairs.proofs.Fitting.{none_told}
use Rattle.command_pairs.proofs.trying.on_files.Goals as goal

pub halted-requires : goal.halted-requires
halted-requires g c =
    let same = c.deref-in-Err.ensures.value ∙ sym c.deref.ensures.value in
    let most = c.longest.ensures ∙ ap (λ (xs : List (Vec ℤ Global)). longest (map values_of xs)) same in
    record {
      too_long = λ side is. subst (λ (n : ℕ). too_long c.args.precondition.now c.args.first.now c.args.second.now n ≡ Some side) (sym most)
          ((c.in-Err.ensures.too_long side).0 (ap (λ (why : ComparisonRefusal). Err why) is));
    }

pub returns-in-Ok-clause-found : goal.returns-in-Ok-clause-found
returns-in-Ok-clause-found g c =
    let p = c.args.first.now in
    let q = c.args.second.now in
    let inputs = map values_of c.in_ok-inputs.inputs.items in (
      inputs,
      c.in_ok-inputs.ensures.held,
      subst (λ (xs : List (Vec ℤ Global)). IsFoundBy c.args.precondition.now p q c.args.compared.now c.args.bound
          (longest (map values_of xs)) (map values_of xs) c.in-Ok.comparison) c.deref.ensures.value
          (record {
            fit = none_told _ c.in-Ok.comparison _ refl (λ side. c.in-Ok.ensures.too_long side);
            found = c.in-Ok.ensures.found;
          }),
    )
