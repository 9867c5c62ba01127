use Rattle.std.proofs.Common.{◌≡◌, ◌∙◌, ◌+◌, ◌<◌, ◌≤◌, List, Option, ap, arith, drop, false, length, sym, true}
use Rattle.std.specs.List.{filter_map, find}
use Rattle.std.specs.Option.{option_map, option_or}
use Rattle.std.specs.Prelude.{is_some}
use Rattle.comparing.specs.declared.compared.CommonRange.{CommonRange}
use Rattle.comparing.specs.Common.{is_named, range_of, shared_with}
use Rattle.scopes.specs.Handed.{Placed, placed}
use Rattle.comparing.proofs.Commons.{named_from}
use Rattle.scopes.proofs.Lists.{drop_over, or_none, or_some, there}
use Rattle.scopes.proofs.Places.{placed_length}
use Rattle.comparing.proofs.common.named_range.Goals as goal

pub returns-then-is_some : goal.returns-then-is_some
returns-then-is_some c =
    let m = c.args.second.now in
    let name = c.args.name.now in
    let ps = placed 0 c.args.first.now in
    let i = c.loop-i.i in
    let within : i < length ps = omega (arith, placed_length 0 c.args.first.now) in
    let p = (there ps i within).0 in
    let at = (there ps i within).1 in
    let here = c.named_with-range.result in
    let rest = option_map range_of (find (is_named name) (filter_map (shared_with m) (drop (i + 1) ps))) in
    let some : is_some here ≡ true = sym c.is_some.ensures ∙ c.if-is_some.true in
    sym (or_some here rest some) ∙ ap (λ (o : Option CommonRange). option_or o rest) (c.named_with-range.ensures p at)
    ∙ sym (named_from name m ps i p at) ∙ c.loop-i.invariant

pub loop-i-preserved : goal.loop-i-preserved
loop-i-preserved c =
    let m = c.args.second.now in
    let name = c.args.name.now in
    let ps = placed 0 c.args.first.now in
    let i = c.loop-i.i in
    let within : i < length ps = omega (arith, placed_length 0 c.args.first.now) in
    let p = (there ps i within).0 in
    let at = (there ps i within).1 in
    let here = c.named_with-range.result in
    let rest = option_map range_of (find (is_named name) (filter_map (shared_with m) (drop (i + 1) ps))) in
    let none : is_some here ≡ false = sym c.is_some.ensures ∙ c.if-is_some.false in
    sym (or_none here rest none) ∙ ap (λ (o : Option CommonRange). option_or o rest) (c.named_with-range.ensures p at)
    ∙ sym (named_from name m ps i p at) ∙ c.loop-i.invariant

pub returns : goal.returns
returns c =
    let m = c.args.second.now in
    let name = c.args.name.now in
    let ps = placed 0 c.args.first.now in
    let over : length ps ≤ c.loop-i.i = omega (arith, placed_length 0 c.args.first.now) in
    ap (λ (qs : List Placed). option_map range_of (find (is_named name) (filter_map (shared_with m) qs)))
    (sym (drop_over ps c.loop-i.i over))
    ∙ c.loop-i.invariant
