use Rattle.std.proofs.Common.{rules, ◌≡◌, pos, refl, subst, to_z, of_z, w64}
use Rattle.pram_meaning.specs.Store.{members}
use Rattle.abstract_runs.specs.Standing.{AreMembersOf}
use Rattle.abstract_runs.proofs.Gathered.{team_goes, team_ends}
use Rattle.abstract_runs.proofs.gathering.gather.Goals as goal

pub loop-j-preserved : goal.loop-j-preserved
loop-j-preserved c =
    team_goes _ c.args.count c.args.locals c.loop-j.j c.loop-j.team.items c.push.new.self.items
    (record { index = c.index_at.result; locals = c.in_ok-own.own }) c.point.result c.loop-j.invariant c.loop-j-test.true
    c.index_at.ensures (c.in_ok-own.ensures.items_if_clones_equal (λ y same. same)) ((c.point.ensures.member (pos 0)).1 refl) (search rules)

pub returns : goal.returns
returns c =
    let round : to_z w64 (of_z w64 c.args.first) ≡ c.args.first = search rules in
    subst (λ a. AreMembersOf (members a c.args.count c.args.locals) c.loop-j.team.items) round
    (team_ends _ c.args.count c.args.locals c.loop-j.j c.loop-j.team.items c.loop-j.invariant c.loop-j-test.false)
