use Rattle.std.proofs.Common.{rules, ◌≡◌, ◌<◌, ◌+◌, ℕ, ℤ, FitsSigned, w64, to_z, of_z, Some, None, get_or, pos, length, length-set, ap, ◌∙◌}
use Rattle.std.proofs.Common.{arith}
use Rattle.std.proofs.lemmas.Int.{to_z-of_z}
use Rattle.combining.specs.Asked.{ask_key, value_by}
use Rattle.combining.proofs.Chains.{place_found}
use Rattle.combining.proofs.ColumnValues.{come_set}
use Rattle.combining.proofs.near.values_in_run.Goals as goal

pub run-preserved : goal.run-preserved
run-preserved c =
    let inv = c.run.invariant in
    let values = c.run.values in
    let k = c.run.k in
    let at = c.args.from + k in
    let place = c.args.likely + k in
    let cells = c.args.cells.now in
    let ks = c.args.keys.now in
    let xs = c.args.came.now in
    let value : ℕ → ℤ = λ cell. value_by ks xs c.args.ordinal cell in
    let fits : FitsSigned w64 c.value_here.result = search rules in
    let v : ℤ = to_z w64 (of_z w64 c.value_here.result) in
    let lk : place < length ks = omega arith in
    let here : (cell : ℕ) → get_or cells at None ≡ Some cell → v ≡ value cell =
    (λ cell e.
    to_z-of_z w64 c.value_here.result fits ∙ c.value_here.ensures
    ∙ ap (λ p. get_or xs p (pos 0)) (place_found (ask_key c.args.ordinal cell) ks place lk
    (c.are_asked.ensures c.if-not-are_asked.false k cell c.run-test.true e) c.requires.apart)) in
    let room : at < length values = omega arith in
    record {
      each = λ first j cell l e. come_set value cells values at (inv.each first) v here room j cell (omega (arith, l)) e;
      count = length-set values at _ ∙ inv.count;
    }
