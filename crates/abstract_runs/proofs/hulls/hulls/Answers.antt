use Rattle.std.proofs.Common.{rules, arith, ◌+◌, ◌<◌, length, take, drop, subst, sym, ◌∙◌, ap}
use Rattle.std.specs.List.{AllByRecursion}
use Rattle.intervals.specs.Intervals.{IsIn}
use Rattle.all_inputs.specs.Overall.{Hold}
use Rattle.abstract_runs.proofs.DeclaredCells.{hold_next, size_next, size_part}
use Rattle.abstract_runs.proofs.hulls.hulls.Goals as goal

pub hull-requires : goal.hull-requires
hull-requires c =
    let below : c.loop-entry.entry < length c.args.layout.now = search rules in
    let next = size_next c.args.layout.now c.loop-entry.entry c.size-size.result below c.size-size.ensures in
    let part = size_part c.args.layout.now (c.loop-entry.entry + 1) in
    let at = c.loop-entry.invariant.0 in
    let total = c.cells-all.ensures.total in
    let most = c.cells-all.ensures.most in
    omega (arith, next, part, at, total, most)

pub overflow_add-first : goal.overflow_add-first
overflow_add-first c =
    let below : c.loop-entry.entry < length c.args.layout.now = search rules in
    let next = size_next c.args.layout.now c.loop-entry.entry c.size-size.result below c.size-size.ensures in
    let part = size_part c.args.layout.now (c.loop-entry.entry + 1) in
    let at = c.loop-entry.invariant.0 in
    let total = c.cells-all.ensures.total in
    let most = c.cells-all.ensures.most in
    omega (arith, next, part, at, total, most)

pub loop-entry-preserved : goal.loop-entry-preserved
loop-entry-preserved c =
    let below : c.loop-entry.entry < length c.args.layout.now = search rules in
    let next = size_next c.args.layout.now c.loop-entry.entry c.size-size.result below c.size-size.ensures in
    let at = c.loop-entry.invariant.0 in (
      ap (λ n. n + c.size-size.result) at ∙ sym next,
      λ memory cover.
          subst (λ is. Hold (take (c.loop-entry.entry + 1) c.args.layout.now) is memory) (sym c.in_ok-push.ensures.items)
          (hold_next c.args.layout.now c.loop-entry.entry c.loop-entry.found.items c.hull.result c.size-size.result memory below
          c.size-size.ensures (c.loop-entry.invariant.1 memory cover)
          (subst (λ n. AllByRecursion (λ z. IsIn z c.hull.result) (take c.size-size.result (drop n memory))) at (c.hull.ensures memory cover))),
    )
