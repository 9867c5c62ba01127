use Rattle.std.proofs.Common.{◌≡◌, ◌∙◌, ◌+◌, Option, ap, drop, false, sym, true}
use Rattle.std.specs.Option.{option_or}
use Rattle.std.specs.Prelude.{is_some, slice_get}
use Rattle.comparing.specs.declared.compared.CommonRange.{CommonRange}
use Rattle.comparing.specs.declared.difference.Difference.{Difference}
use Rattle.comparing.specs.Ends.{cell_differences, range_differences}
use Rattle.scopes.proofs.Lists.{at_get, first_from, or_none, or_some}
use Rattle.comparing.proofs.ends.cell_difference.Goals as goal

pub returns-then-is_some : goal.returns-then-is_some
returns-then-is_some c =
    let rs = c.args.ranges.now in
    let m = c.args.first.now in
    let q = c.args.second.now in
    let i = c.loop-range.range-index in
    let r : CommonRange = record { first_start = 0; second_start = 0; length = 0 } in
    let here = c.range_difference-found.result in
    let rest = slice_get (cell_differences (drop (i + 1) rs) m q) 0 in
    let some : is_some here ≡ true = sym c.is_some.ensures ∙ c.if-is_some.true in
    sym (or_some here rest some) ∙ ap (λ (o : Option Difference). option_or o rest) c.range_difference-found.ensures
    ∙ sym (first_from (range_differences m q) rs i _ (at_get rs i r c.loop-range-test.true)) ∙ c.loop-range.invariant

pub loop-range-preserved : goal.loop-range-preserved
loop-range-preserved c =
    let rs = c.args.ranges.now in
    let m = c.args.first.now in
    let q = c.args.second.now in
    let i = c.loop-range.range-index in
    let r : CommonRange = record { first_start = 0; second_start = 0; length = 0 } in
    let here = c.range_difference-found.result in
    let rest = slice_get (cell_differences (drop (i + 1) rs) m q) 0 in
    let none : is_some here ≡ false = sym c.is_some.ensures ∙ c.if-is_some.false in
    sym (or_none here rest none) ∙ ap (λ (o : Option Difference). option_or o rest) c.range_difference-found.ensures
    ∙ sym (first_from (range_differences m q) rs i _ (at_get rs i r c.loop-range-test.true)) ∙ c.loop-range.invariant
