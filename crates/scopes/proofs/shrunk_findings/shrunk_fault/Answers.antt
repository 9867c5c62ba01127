use Rattle.std.proofs.Common.{◌∙◌, ℤ, List, Option, Some, ap, subst, sym}
use Rattle.std.proofs.lemmas.List.{with_items_is}
use Rattle.std.specs.Option.{unwrap_or}
use Rattle.write_rules.specs.declared.fault.Fault.{Fault}
use Rattle.scopes.specs.Runs.{fault_of, verdict_on}
use Rattle.scopes.specs.Shrunk.{ShrinksTo}
use Rattle.scopes.specs.Wrong.{goes_wrong}
use Rattle.scopes.specs.declared.wrong.Wrong.TheVariants.{Faults}
use Rattle.scopes.proofs.InScope.{wrong_there}
use Rattle.scopes.proofs.Shrinkings.{as_many, keeps_wanted}
use Rattle.scopes.proofs.ToldSmaller.{some_like}
use Rattle.scopes.proofs.shrunk_findings.shrunk_fault.Goals as goal

pub returns : goal.returns
returns c =
    let s = c.args.scope in
    let t = c.args.specification.now in
    let p = c.args.program.now in
    let n = c.args.bound in
    let f = c.args.found.now.fault in
    let xs = c.args.found.now.input.items in
    let zs = c.shrink.new.input in
    let wanted = goes_wrong s t p n (Faults f) in
    let from = c.as_mut_slice.ensures.value ∙ c.in_ok-input.ensures.items ∙ c.as_slice.ensures.value in
    let shrunk : ShrinksTo wanted xs zs = subst (λ (ys : List ℤ). ShrinksTo wanted ys zs) from c.in_ok-shrink.ensures in
    let is = with_items_is c.in_ok-input.input zs (as_many wanted c.as_mut_slice.result.now zs c.in_ok-shrink.ensures ∙ c.as_mut_slice.ensures.len) in
    let like = (wrong_there s t p n (Faults f) zs (keeps_wanted wanted xs zs shrunk c.requires.told)).1 in
    let g = some_like f (fault_of (verdict_on p n zs)) like in
    let at : List ℤ → Option Fault = λ ys. fault_of (verdict_on p n ys) in
    let met = c.in_ok-met.ensures ∙ ap at (c.as_slice-2.ensures.value ∙ is) ∙ g.1 in
    let told = c.unwrap_or.ensures ∙ ap (λ (o : Option Fault). unwrap_or o f) met in
    record {
      input = subst (ShrinksTo wanted xs) (sym is) shrunk;
      fault = ap at is ∙ g.1 ∙ ap Some (sym told);
    }
