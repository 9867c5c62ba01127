use Rattle.std.proofs.Common.{rules, ◌≡◌, ◌<◌, ℕ, ℤ, FitsSigned, w64, to_z, of_z, length, length-set, get_or, pos, ap, ◌∙◌, arith}
use Rattle.std.proofs.lemmas.Int.{to_z-of_z}
use Rattle.combining.specs.Places.{place_of}
use Rattle.combining.specs.Asked.{value_by}
use Rattle.combining.proofs.ColumnValues.{come_more, come_none}
use Rattle.combining.proofs.near.values_in_order.Goals as goal
use Rattle.combining.proofs.near.values_in_order.Goals.{in-Some+in-Some-place_near, in_default}

pub processors-preserved : goal.processors-preserved
processors-preserved c =
    let inv = c.processors.invariant in
    let values = c.processors.values in
    let j = c.processors.j in
    let cells = c.args.cells.now in
    let ks = c.args.keys.now in
    let xs = c.args.came.now in
    let value : ℕ → ℤ = λ cell. value_by ks xs c.args.ordinal cell in
    elim c.match-cells-j.branch [
      | in-Some+in-Some-place_near w ↦ (
          let cell = w.in-Some.cell in
          let fits : FitsSigned w64 w.value_of.result = search rules in
          let v : ℤ = to_z w64 (of_z w64 w.value_of.result) in
          let here : v ≡ value cell =
          to_z-of_z w64 w.value_of.result fits ∙ w.value_of.ensures
          ∙ ap (λ p. get_or xs p (pos 0)) (w.in-Some-place_near.ensures.place ∙ ap (λ k. place_of k ks) w.ask_key.ensures) in
          let room : j < length values = (let t = c.processors-test.true in let r = c.requires.values in let n = inv.count in
          let u = c.requires.to in
          omega (arith, t, r, n, u)) in
          rw (w.values-is) record {
            each = λ first. come_more value cells values j (inv.each first) cell v w.in-Some.is here room;
            count = length-set values j _ ∙ inv.count;
          })
      | in_default w ↦
          rw (w.values-is) record {
            each = λ first. come_none value cells values j (inv.each first) w.in_default.not-Some;
            count = inv.count;
          }
    ]
