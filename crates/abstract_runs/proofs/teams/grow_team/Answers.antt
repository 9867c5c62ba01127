use Rattle.std.proofs.Common.{rules, arith, ◌≡◌, ◌<◌, ◌≤◌, length, subst, sym, get_or}
use Rattle.abstract_runs.specs.Likeness.{IsLike}
use Rattle.abstract_runs.specs.Standing.{IsMemberOf}
use Rattle.abstract_runs.proofs.Each.{each_kept, each_next, member_at}
use Rattle.abstract_runs.proofs.TeamLists.{Holds, like_then, like_other, like_length, like_at, like_each, members_each}
use Rattle.abstract_runs.proofs.teams.grow_team.Goals as goal

pub bounds-other-k : goal.bounds-other-k
bounds-other-k c =
    let same : length c.args.team.now.items ≡ length c.args.other.now = like_length c.args.team.now.items c.args.other.now c.requires in
    let below : c.loop-k.k < length c.loop-k.team.items = search rules in
    omega (arith, same, below, c.loop-k.invariant.same)

pub offset_bounds-other-k : goal.offset_bounds-other-k
offset_bounds-other-k c =
    let same : length c.args.team.now.items ≡ length c.args.other.now = like_length c.args.team.now.items c.args.other.now c.requires in
    let below : c.loop-k.k < length c.loop-k.team.items = search rules in
    let there : c.loop-k.k < length c.args.other.now = omega (arith, same, below, c.loop-k.invariant.same) in
    search rules

pub grow-requires : goal.grow-requires
grow-requires c =
    let below : c.loop-k.k < length c.loop-k.team.items = search rules in
    let under : c.loop-k.k < length c.args.team.now.items = omega (arith, below, c.loop-k.invariant.same) in
    let z = c.index-other-k.result in
    subst (IsLike c.index_mut.result.now) (sym c.index-other-k.is)
    (subst (λ a. IsLike a (get_or c.args.other.now c.loop-k.k z))
    (member_at c.loop-k.team.items c.loop-k.k c.index_mut.result.now z below c.index_mut.ensures.value)
    (like_other (get_or c.args.team.now.items c.loop-k.k z) _ _ (c.loop-k.invariant.like c.loop-k.k z under)
    (like_at c.args.team.now.items c.args.other.now (length c.args.team.now.items) c.requires (omega arith) c.loop-k.k z under)))

pub loop-k-preserved : goal.loop-k-preserved
loop-k-preserved c =
    let same : length c.args.team.now.items ≡ length c.args.other.now = like_length c.args.team.now.items c.args.other.now c.requires in
    let below : c.loop-k.k < length c.loop-k.team.items = search rules in
    let there : c.loop-k.k < length c.args.other.now = omega (arith, same, below, c.loop-k.invariant.same) in
    record {
      same = search rules;
      like = each_kept IsLike (length c.args.team.now.items) c.loop-k.k c.args.team.now.items c.loop-k.team.items c.grow.new.self
          c.loop-k.invariant.like below
          (λ z h. like_then _ _ _ (subst (IsLike _)
          (member_at c.loop-k.team.items c.loop-k.k c.index_mut.result.now z below c.index_mut.ensures.value) h)
          c.grow.ensures.like);
      left = each_kept Holds (length c.args.team.now.items) c.loop-k.k c.args.team.now.items c.loop-k.team.items c.grow.new.self
          c.loop-k.invariant.left below
          (λ z h g i. c.grow.ensures.left g
          (subst (IsMemberOf g) (member_at c.loop-k.team.items c.loop-k.k c.index_mut.result.now z below c.index_mut.ensures.value)
          (h g i)));
      right = each_next Holds c.loop-k.k c.args.other.now c.loop-k.team.items c.grow.new.self c.loop-k.invariant.right below
          (λ z g i. c.grow.ensures.right g
          (subst (IsMemberOf g) (member_at c.args.other.now c.loop-k.k c.index-other-k.result z there c.index-other-k.is) i));
    }

pub returns-clause-left : goal.returns-clause-left
returns-clause-left c = λ gs h.
    members_each c.args.team.now.items c.loop-k.team.items gs (length c.args.team.now.items) c.loop-k.invariant.left (omega arith)
    (sym c.loop-k.invariant.same) h

pub returns-clause-right : goal.returns-clause-right
returns-clause-right c = λ gs h.
    let same : length c.args.team.now.items ≡ length c.args.other.now = like_length c.args.team.now.items c.args.other.now c.requires in
    let here : length c.loop-k.team.items ≡ length c.args.team.now.items = c.loop-k.invariant.same in
    let over : length c.loop-k.team.items ≤ c.loop-k.k = search rules in
    members_each c.args.other.now c.loop-k.team.items gs c.loop-k.k c.loop-k.invariant.right (omega (arith, same, here, over))
    (omega (arith, same, here)) h

pub returns-clause-like : goal.returns-clause-like
returns-clause-like c =
    like_each c.args.team.now.items c.loop-k.team.items (length c.args.team.now.items) c.loop-k.invariant.like (omega arith)
    (sym c.loop-k.invariant.same)
