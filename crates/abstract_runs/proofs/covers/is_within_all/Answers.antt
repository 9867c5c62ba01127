use Rattle.std.proofs.Common.{rules, ◌<◌, length, subst, sym}
use Rattle.intervals.specs.Intervals.{IsIn, IsWithin}
use Rattle.abstract_runs.proofs.Each.{each_on, member_at, cover_each}
use Rattle.abstract_runs.proofs.covers.is_within_all.Goals as goal

pub loop-k-preserved : goal.loop-k-preserved
loop-k-preserved c =
    let below : c.loop-k.k < length c.args.items.now = search rules in
    let there : c.loop-k.k < length c.args.others.now = search rules in
    let within : IsWithin c.index-items-k.result c.index-others-k.result = search rules in
    each_on IsWithin c.loop-k.k c.args.items.now c.args.others.now c.loop-k.invariant
    (λ z x i. subst (IsIn x) (sym (member_at c.args.others.now c.loop-k.k c.index-others-k.result z there c.index-others-k.is))
    (within x (subst (IsIn x) (member_at c.args.items.now c.loop-k.k c.index-items-k.result z below c.index-items-k.is) i)))

pub returns : goal.returns
returns c = λ e zs h.
    cover_each c.args.items.now c.args.others.now zs c.loop-k.k c.loop-k.invariant (search rules) (search rules) h
