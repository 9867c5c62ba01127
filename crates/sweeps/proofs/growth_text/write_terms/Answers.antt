use Rattle.std.proofs.Common.{◌≡◌, ◌∙◌, refl, rules, FitsSigned, to_z, of_z}
use Rattle.std.specs.Int.{w128}
use Rattle.std.proofs.lemmas.Int.{to_z-of_z}
use Rattle.text_out.proofs.Writing.{writes_stopped}
use Rattle.text_out.proofs.Progress.{closes, goes_on, stops}
use Rattle.sweeps.specs.GrowthText.{is_still_first}
use Rattle.sweeps.proofs.Terms.{behind_terms, terms_at}
use Rattle.sweeps.proofs.growth_text.write_terms.Goals as goal

pub returns-in_err-write_term : goal.returns-in_err-write_term
returns-in_err-write_term g c =
    let z = c.coefficient-coefficient.result in
    let fits : FitsSigned w128 z = search rules in
    let back : to_z w128 (of_z w128 z) ≡ z = to_z-of_z w128 z fits in
    let shown = to_z w128 (of_z w128 z) in
    let at = terms_at c.args.variable.now c.args.formula.now c.loop-term.first (is_still_first c.loop-term.first shown)
    c.loop-term.term-index
    shown _ c.loop-term-test.true refl (back ∙ c.coefficient-coefficient.ensures) refl in
    record {
      written = writes_stopped _ _ _ c.from_residual.result _ c.from_residual.ensures.1
          (stops _ _ _ _ _ _ _ c.loop-term.invariant at c.in_err-write_term.ensures.written);
    }

pub loop-term-preserved : goal.loop-term-preserved
loop-term-preserved g c =
    let z = c.coefficient-coefficient.result in
    let fits : FitsSigned w128 z = search rules in
    let back : to_z w128 (of_z w128 z) ≡ z = to_z-of_z w128 z fits in
    let shown = to_z w128 (of_z w128 z) in
    let at = terms_at c.args.variable.now c.args.formula.now c.loop-term.first c.is_still_first-first.result c.loop-term.term-index shown _
    c.loop-term-test.true refl (back ∙ c.coefficient-coefficient.ensures) c.is_still_first-first.ensures in
    goes_on _ _ _ _ _ _ _ c.loop-term.invariant at c.in_ok-write_term.ensures.written

pub returns : goal.returns
returns g c =
    let behind = behind_terms _ _ _ c.args.variable.now c.args.formula.now c.loop-term.first c.loop-term.term-index c.loop-term-test.false
    c.loop-term.invariant in
    record { written = closes _ _ _ _ _ c.write_rest.result behind c.write_rest.ensures.written }
