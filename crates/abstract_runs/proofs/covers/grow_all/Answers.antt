use Rattle.std.proofs.Common.{rules, arith, ◌<◌, length, subst}
use Rattle.intervals.specs.Intervals.{IsIn, IsWithin}
use Rattle.abstract_runs.proofs.Each.{each_kept, each_next, member_at, cover_each}
use Rattle.abstract_runs.proofs.covers.grow_all.Goals as goal

pub loop-k-preserved : goal.loop-k-preserved
loop-k-preserved c =
    let below : c.loop-k.k < length c.loop-k.items.items = search rules in
    let there : c.loop-k.k < length c.args.others.now = search rules in
    record {
      same = search rules;
      left = each_kept IsWithin (length c.args.items.now.items) c.loop-k.k c.args.items.now.items c.loop-k.items.items c.grown.result
          c.loop-k.invariant.left below
          (λ z h x i. c.grown.ensures.old x (subst (IsIn x)
          (member_at c.loop-k.items.items c.loop-k.k c.index.result.now z below c.index.ensures) (h x i)));
      right = each_next IsWithin c.loop-k.k c.args.others.now c.loop-k.items.items c.grown.result c.loop-k.invariant.right below
          (λ z x i. c.grown.ensures.new x (subst (IsIn x)
          (member_at c.args.others.now c.loop-k.k c.index-others-k.result z there c.index-others-k.is) i));
    }

pub returns-clause-left : goal.returns-clause-left
returns-clause-left c = λ zs h.
    cover_each c.args.items.now.items c.loop-k.items.items zs (length c.args.items.now.items) c.loop-k.invariant.left (omega arith)
    (search rules) h

pub returns-clause-right : goal.returns-clause-right
returns-clause-right c = λ zs h.
    cover_each c.args.others.now c.loop-k.items.items zs c.loop-k.k c.loop-k.invariant.right (search rules) (search rules) h
