use Rattle.std.proofs.Common.{refl, true, None, rules, ◌≡◌, ◌∙◌, ap, to_z, of_z, w64}
use Rattle.std.specs.Int.{int_min, int_max}
use Rattle.intervals.proofs.Ends.{least_passed, greatest_passed}
use Rattle.abstract_runs.proofs.Places.{no_cell, placed}
use Rattle.abstract_runs.proofs.placing.cells_at.Goals as goal

pub returns-then-len-entry : goal.returns-then-len-entry
returns-then-len-entry c = λ z h.
    no_cell c.args.layout.now c.args.entry z (record { reach = None; may_be_outside = true }) (search rules) refl

pub returns : goal.returns
returns c = λ z h.
    let low : to_z w64 (of_z w64 c.max-least.result) ≡ int_max c.args.subscript.least c.range-range.result.low =
    greatest_passed c.least.result c.range-range.result.low c.max-least.result (search rules) (search rules) (search rules)
    c.max-least.ensures.value
    ∙ ap (λ x. int_max x c.range-range.result.low) c.least.ensures in
    let high : to_z w64 (of_z w64 c.min-most.result) ≡ int_min c.args.subscript.greatest c.range-range.result.high =
    least_passed c.greatest.result c.range-range.result.high c.min-most.result (search rules) (search rules) (search rules)
    c.min-most.ensures.value
    ∙ ap (λ x. int_min x c.range-range.result.high) c.greatest.ensures in
    placed c.range-range.result.first c.range-range.result.low c.range-range.result.high c.args.subscript _ _
    (record { reach = c.reach_of.result; may_be_outside = c.is_outside.result }) _ z low high c.reach_of.ensures c.is_outside.ensures h
    (c.range-range.ensures.cells z)
