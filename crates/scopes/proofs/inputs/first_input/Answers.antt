use Rattle.std.proofs.Common.{rules, ◌≡◌, ◌∙◌, ◌++◌, ap, drop, length, not, replicate, take}
use Rattle.std.proofs.lemmas.List.{take_at}
use Rattle.std.proofs.lemmas.Int.{to_z-of_z}
use mir.Syntax.{w64}
use mir.Val.{SFits}
use Rattle.scopes.specs.Scopes.{inputs_left}
use Rattle.scopes.proofs.Begun.{all_from, begun}
use Rattle.scopes.proofs.inputs.first_input.Goals as goal

pub returns-clause-all : goal.returns-clause-all
returns-clause-all c =
    let s = c.args.scope in
    let old = c.in_ok-input.input.items in
    let new = c.begin-more.new.input in
    let more = c.begin-more.result in
    let fits : SFits w64 s.low = search rules in
    let is : old ≡ replicate s.count s.low =
    c.in_ok-input.ensures.items_if_clones_equal (λ y same. same) ∙ ap (replicate s.count) (to_z-of_z w64 s.low fits) in
    let given = c.as_mut_slice.ensures.value in
    let long : length new ≡ c.in_ok-input.input.len = search rules in
    let back : take c.in_ok-input.input.len (new ++ drop (length new) old) ≡ new = take_at new
    (drop (length new) old) c.in_ok-input.input.len long in
    ap (inputs_left s (not more)) back
    ∙ begun s more c.as_mut_slice.result.now new (all_from s c.as_mut_slice.result.now (given ∙ is)) c.begin-more.ensures.first
    c.begin-more.ensures.none
