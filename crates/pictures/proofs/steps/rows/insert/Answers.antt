use Rattle.std.proofs.Common.{◌≡◌, ◌∙◌, ◌<◌, ℤ, ap, arith, false, get_or, length, pos, rules, sym, w64, FitsSigned}
use Rattle.std.specs.Prelude.{insert}
use Rattle.std.specs.Ordering.{int_eq}
use Rattle.std.proofs.lemmas.Int.{to_z-of_z}
use Rattle.pictures.specs.Steps.Drawn.{ahead}
use Rattle.pictures.proofs.OfSteps.RowTexts.{goes_in, there_at}
use Rattle.pictures.proofs.steps.rows.insert.Goals as goal
use Rattle.pictures.proofs.steps.rows.insert.Goals.{else-at-len-via-then-at-len+else-is_same, else-at-len-via-else-at-len}

pub returns-then-is_same-clause-inserted : goal.returns-then-is_same-clause-inserted
returns-then-is_same-clause-inserted c =
    let n = c.ahead-at.result in
    let index = to_z-of_z w64 c.args.index c.ranges.index in
    let at = c.ahead-at.ensures.value ∙ (λ k. ahead (c.as_slice.ensures.value k) (index k)) in
    let x : ℤ = get_or c.as_slice-then-at-len.result.now n (pos 0) in
    let fits : FitsSigned w64 x = search rules in
    let same = c.is_same.ensures ∙ (λ k. int_eq (to_z-of_z w64 x fits k) (index k))
    ∙ ap (λ xs. int_eq (get_or xs n (pos 0)) c.args.index) c.as_slice-then-at-len.ensures.value in
    let test = c.if-at-len.true in
    let long = c.len.ensures.value in
    there_at c.args.rows.now.items c.args.index n c.is_same.result at (omega (arith, test, long)) same c.if-is_same.true

pub returns-clause-inserted : goal.returns-clause-inserted
returns-clause-inserted c =
    let n = c.ahead-at.result in
    let index = to_z-of_z w64 c.args.index c.ranges.index in
    let at = c.ahead-at.ensures.value ∙ (λ k. ahead (c.as_slice.ensures.value k) (index k)) in
    let done = c.insert.ensures.items ∙ ap (insert c.args.rows.now.items n) index in
    let other : n < length c.args.rows.now.items → int_eq (get_or c.args.rows.now.items n (pos 0)) c.args.index ≡ false =
    elim c.else-at-len.branch [
      | else-at-len-via-then-at-len+else-is_same w ↦ (
          let x : ℤ = get_or w.as_slice-then-at-len.result.now n (pos 0) in
          let fits : FitsSigned w64 x = search rules in
          let same = w.is_same.ensures ∙ (λ k. int_eq (to_z-of_z w64 x fits k) (index k))
          ∙ ap (λ xs. int_eq (get_or xs n (pos 0)) c.args.index) w.as_slice-then-at-len.ensures.value in
          λ within. sym same ∙ w.if-is_same.false)
      | else-at-len-via-else-at-len w ↦ (
          let test = w.if-at-len.false in let long = c.len.ensures.value in λ within. absurd (omega (arith, test, long, within)))
    ] in
    done ∙ goes_in c.args.rows.now.items c.args.index n at other
