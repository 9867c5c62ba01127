use Rattle.std.proofs.Common.{◌∙◌, ap, sym, refl, ℕ, List}
use Rattle.tidying.specs.Shown.{shown, item_of}
use Rattle.tidying.proofs.Checked.{one_right, all_right}
use Rattle.tidying.proofs.certified.is_certified.Goals as goal

pub loop-at-preserved : goal.loop-at-preserved
loop-at-preserved c =
    one_right (shown c.args.c.now) c.args.long.now c.args.short.now c.loop-at.at c.instructions-instructions.result.now
    c.instructions-instructions.ensures.value c.loop-at-test.true c.loop-at.invariant (c.if-not-is_right.ensures refl)

pub returns : goal.returns
returns c e =
    all_right (shown c.args.c.now) c.args.long.now c.args.short.now c.loop-at.at c.instructions-instructions.result.now
    c.instructions-instructions.ensures.value c.loop-at-test.false c.requires
    (ap (λ (xs : List ℕ). item_of xs 0) (sym c.deref.ensures.value) ∙ sym c.item.ensures ∙ c.if-item-ne0.false)
    (c.if-not-opens.ensures refl) c.loop-at.invariant
