use Rattle.std.proofs.Common.{rules, ◌≡◌, ◌<◌, ℤ, FitsSigned, w64, to_z, of_z, length, get_or, pos, ap, ◌∙◌, arith}
use Rattle.std.proofs.lemmas.Int.{to_z-of_z}
use Rattle.combining.specs.Places.{place_of}
use Rattle.combining.specs.Asked.{value_by}
use Rattle.combining.proofs.ColumnValues.{come_more}
use Rattle.combining.proofs.near.value_sought.Goals as goal

pub returns-then-place-came-clause-each : goal.returns-then-place-came-clause-each
returns-then-place-came-clause-each c known =
    let ks = c.args.index.now.keys in
    let xs = c.args.came.now in
    let cell = c.in-Some.cell in
    let fits : FitsSigned w64 c.value_of.result = search rules in
    let v : ℤ = to_z w64 (of_z w64 c.value_of.result) in
    let here : v ≡ value_by ks xs c.args.ordinal cell =
    to_z-of_z w64 c.value_of.result fits ∙ c.value_of.ensures
    ∙ ap (λ p. get_or xs p (pos 0)) (c.find-place.ensures.place ∙ ap (λ k. place_of k ks) c.ask_key.ensures) in
    let room : c.args.at < length c.args.values.now = (let a = c.requires.at in let r = c.requires.values in omega (arith, a, r)) in
    come_more (λ d. value_by ks xs c.args.ordinal d) c.args.cells.now c.args.values.now c.args.at known cell v c.in-Some.is
    here room

pub returns-else-place-came-clause-each : goal.returns-else-place-came-clause-each
returns-else-place-came-clause-each c known =
    let ks = c.args.index.now.keys in
    let xs = c.args.came.now in
    let cell = c.in-Some.cell in
    let fits : FitsSigned w64 c.value_of.result = search rules in
    let v : ℤ = to_z w64 (of_z w64 c.value_of.result) in
    let here : v ≡ value_by ks xs c.args.ordinal cell =
    to_z-of_z w64 c.value_of.result fits ∙ c.value_of.ensures
    ∙ ap (λ p. get_or xs p (pos 0)) (c.find-place.ensures.place ∙ ap (λ k. place_of k ks) c.ask_key.ensures) in
    let room : c.args.at < length c.args.values.now = (let a = c.requires.at in let r = c.requires.values in omega (arith, a, r)) in
    come_more (λ d. value_by ks xs c.args.ordinal d) c.args.cells.now c.args.values.now c.args.at known cell v c.in-Some.is
    here room
