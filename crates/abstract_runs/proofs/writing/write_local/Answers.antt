use Rattle.std.proofs.Common.{rules, refl, sym, ◌<◌, length}
use Rattle.pram_meaning.specs.Store.{member_of}
use Rattle.abstract_runs.proofs.LocalWrites.{members_set, members_set_past, members_stay, like_set}
use Rattle.abstract_runs.proofs.Members.{member_read}
use Rattle.abstract_runs.proofs.TeamLists.{team_like_same}
use Rattle.abstract_runs.proofs.writing.write_local.Goals as goal

pub returns-then-index-len-clause-set : goal.returns-then-index-len-clause-set
returns-then-index-len-clause-set c = λ gs v h i. members_set_past gs c.args.team.now.items c.args.member _ (search rules) h

pub returns-then-index-len-clause-like : goal.returns-then-index-len-clause-like
returns-then-index-len-clause-like c = team_like_same c.args.team.now.items

pub returns-then-is_sure-clause-set : goal.returns-then-is_sure-clause-set
returns-then-is_sure-clause-set c = λ gs v h i.
    let below : c.args.member < length c.args.team.now.items = search rules in
    let m = member_read gs c.args.team.now.items c.args.member c.index_mut.result.now below c.index_mut.ensures.value h in
    members_set gs c.args.team.now.items c.args.member _ _ h (record {
      index = m.index;
      locals = c.set_interval.ensures.covers (member_of gs c.args.member).locals v m.locals i;
    })

pub returns-then-is_sure-clause-like : goal.returns-then-is_sure-clause-like
returns-then-is_sure-clause-like c =
    like_set c.args.team.now.items c.args.member c.index_mut.result.now _ c.index_mut.ensures.value
    (record { index = refl; locals = sym c.set_interval.ensures.length })

pub returns-else-is_sure-clause-set : goal.returns-else-is_sure-clause-set
returns-else-is_sure-clause-set c = λ gs v h i.
    let below : c.args.member < length c.args.team.now.items = search rules in
    let m = member_read gs c.args.team.now.items c.args.member c.index_mut-else-is_sure.result.now below
    c.index_mut-else-is_sure.ensures.value h in
    members_set gs c.args.team.now.items c.args.member _ _ h (record {
      index = m.index;
      locals = c.join_interval.ensures.set (member_of gs c.args.member).locals v m.locals i;
    })

pub returns-else-is_sure-clause-stays : goal.returns-else-is_sure-clause-stays
returns-else-is_sure-clause-stays c = λ u gs h.
    let below : c.args.member < length c.args.team.now.items = search rules in
    let m = member_read gs c.args.team.now.items c.args.member c.index_mut-else-is_sure.result.now below
    c.index_mut-else-is_sure.ensures.value h in
    members_stay gs c.args.team.now.items c.args.member _ below h (record {
      index = m.index;
      locals = c.join_interval.ensures.stays (member_of gs c.args.member).locals m.locals;
    })

pub returns-else-is_sure-clause-like : goal.returns-else-is_sure-clause-like
returns-else-is_sure-clause-like c =
    like_set c.args.team.now.items c.args.member c.index_mut-else-is_sure.result.now _ c.index_mut-else-is_sure.ensures.value
    (record { index = refl; locals = sym c.join_interval.ensures.length })
