use Rattle.std.proofs.Common.{sym, subst}
use Rattle.pram_meaning.specs.Store.{with_local}
use Rattle.pram_meaning.specs.Together.{value_in, with_locals}
use Rattle.abstract_runs.specs.Given.{AreGiven}
use Rattle.abstract_runs.specs.Standing.{AreMembersOf}
use Rattle.abstract_runs.proofs.Gifts.{part_none, part_value}
use Rattle.abstract_runs.proofs.LocalWrites.{locals_last}
use Rattle.abstract_runs.proofs.PartLists.{parts_none, parts_more, parts_all, given_first, given_last}
use Rattle.abstract_runs.proofs.TeamLists.{team_like_same, team_like_then}
use Rattle.abstract_runs.proofs.writing.write_locals.Goals as goal

pub loop-k-init : goal.loop-k-init
loop-k-init c = record {
  covers = λ faults xs gs h g m.
      parts_none (λ xs. AreMembersOf (with_locals c.args.place xs gs) c.args.team.now.items) faults c.args.rows.now xs m h;
  like = team_like_same c.args.team.now.items;
}

pub loop-k-preserved-in_default : goal.loop-k-preserved-in_default
loop-k-preserved-in_default c = record {
  covers = λ faults xs gs h g m.
      parts_more (λ xs. AreGiven xs → AreMembersOf (with_locals c.args.place xs gs) c.loop-k.team.items) faults c.args.rows.now c.loop-k.k
      c.index-rows-k.result _ xs c.loop-k-test.true c.index-rows-k.is (λ ys h u g. c.loop-k.invariant.covers faults ys gs h g m)
      (λ ys x h p g. absurd (part_none faults c.index-rows-k.result x c.in_default.is p (given_last ys x g))) h g;
  like = c.loop-k.invariant.like;
}

pub loop-k-preserved : goal.loop-k-preserved
loop-k-preserved c = record {
  covers = λ faults xs gs h g m.
      parts_more (λ xs. AreGiven xs → AreMembersOf (with_locals c.args.place xs gs) c.write_local.new.team.items) faults c.args.rows.now
      c.loop-k.k c.index-rows-k.result _ xs c.loop-k-test.true c.index-rows-k.is
      (λ ys h u g. c.write_local.ensures.stays u (with_locals c.args.place ys gs) (c.loop-k.invariant.covers faults ys gs h g m))
      (λ ys x h p g. subst (λ t. AreMembersOf t c.write_local.new.team.items) (sym (locals_last c.args.place ys x gs))
      (subst (λ n. AreMembersOf (with_local c.args.place n (value_in x.attempt)
      (with_locals c.args.place ys gs)) c.write_local.new.team.items)
      (sym p.member) (c.write_local.ensures.set (with_locals c.args.place ys gs) (value_in x.attempt)
      (c.loop-k.invariant.covers faults ys gs h (given_first ys x g) m)
      (part_value faults c.index-rows-k.result c.in-Some.effect x c.in-Some.is p (given_last ys x g))))) h g;
  like = team_like_then _ _ _ c.loop-k.invariant.like c.write_local.ensures.like;
}

pub returns-clause-covers : goal.returns-clause-covers
returns-clause-covers c = λ faults xs gs h g m.
    c.loop-k.invariant.covers faults xs gs (parts_all faults c.args.rows.now c.loop-k.k xs c.loop-k-test.false h) g m
