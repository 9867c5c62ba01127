use Rattle.std.proofs.Common.{arith, ℕ, List, ◌≡◌, ◌∙◌, true, false, [], IfSome, refl, ap, sym, subst, inr}
use Rattle.pram_meaning.specs.Bounded.{Goes, perform_on}
use Rattle.pram_meaning.specs.Store.{State}
use Rattle.pram_meaning.specs.Together.{those}
use Rattle.abstract_runs.specs.Halting.{HasStep, HaveStep, IsOpenOn}
use Rattle.abstract_runs.specs.Inner.{AreKnownIn}
use Rattle.abstract_runs.specs.Leads.{Leads}
use Rattle.abstract_runs.specs.Likeness.{AreLike}
use Rattle.abstract_runs.specs.Standing.{StandsWith}
use Rattle.abstract_runs.proofs.Beside.{AreBeside, list_beside}
use Rattle.abstract_runs.proofs.BlocksOn.{at_items, block_goes, block_stops, if_is, stops_then, while_is}
use Rattle.abstract_runs.proofs.ChoosingOn.{AreTested, chosen_known, inner_chosen, inner_were, left_known, left_were, made_leads}
use Rattle.abstract_runs.proofs.ChoosingOn.{others_were}
use Rattle.abstract_runs.proofs.Following.{follows_same, follows_then}
use Rattle.abstract_runs.proofs.Halted.{InLoopOn, halts_on, handed, on_else, on_item, on_loop, on_then}
use Rattle.abstract_runs.proofs.Leading.{kept_same, kept_then, leads_then}
use Rattle.abstract_runs.proofs.Made.{chosen_way}
use Rattle.abstract_runs.proofs.Members.{known_in, lent_known, seen_known, sharper_known}
use Rattle.abstract_runs.proofs.Onward.{leads_onward, onward_self}
use Rattle.abstract_runs.proofs.Sets.{active_as, attempted_as, found_then, goes_way, more_of, not_attempted}
use Rattle.abstract_runs.proofs.Standings.{bound_passed, follows_copy, stands_later, stands_as, stands_copied}
use Rattle.abstract_runs.proofs.SureMembers.{empty_is, none_active}
use Rattle.abstract_runs.proofs.TeamLists.{like_as, members_as, team_like_same, team_like_then}
use Rattle.abstract_runs.proofs.TurningOn.{held_leads, turns_start, test_leads, turns_end, turns_stop, turn_goes, rest_leads}
use Rattle.abstract_runs.proofs.survey.Survey.+inside.Goals as goal

pub run_block_on-loop-s-init : goal.run_block_on-loop-s-init
run_block_on-loop-s-init t c = (
  (λ m vs stands begin act. inr (record { state = m; same = refl; stands = (stands, begin) })),
  follows_same c.args.known.now,
  team_like_same c.args.team.now.items,
  kept_same c.args.told.now,
)

pub run_block_on-returns-in_err-on-clause-kept : goal.run_block_on-returns-in_err-on-clause-kept
run_block_on-returns-in_err-on-clause-kept t c = kept_then _ _ _ c.loop-s.invariant.3 c.run_step.ensures.kept

pub run_block_on-returns-then-not-on-clause-leads : goal.run_block_on-returns-then-not-on-clause-leads
run_block_on-returns-then-not-on-clause-leads t c =
    let w = c.args.self.now.program.now in
    let n = c.args.self.now.bound in
    let begin : List ℕ → State → Type 0 = λ vs m. IfSome c.args.inner (λ t. AreKnownIn t.now.items vs m) in
    let here : List ℕ → State → Type 0 = λ vs m. IfSome c.loop-s.more (λ t. AreKnownIn t.now.items vs m) in
    at_items w n _ c.args.active.now c.args.known.now c.args.team.now.items begin _ c.run_step.new.told c.args.body.now.items
    c.deref-s-items.ensures.value
    (block_stops w n c.deref-s-items.result.now c.args.active.now c.args.known.now c.args.team.now.items begin c.loop-s.s-index
    c.s-item.result
    c.loop-s.known c.run_step.new.known c.loop-s.team.items c.run_step.new.team.items here here c.loop-s.told c.run_step.new.told
    c.in_ok-on.on
    c.loop-s.invariant.0 c.loop-s-test.true c.s-item.is c.in_ok-on.ensures.kept c.in_ok-on.ensures.leads
    (λ u s. (false ≡ true) × StandsWith c.run_step.new.known c.run_step.new.team.items s) c.if-not-on.true)

pub run_block_on-returns-then-not-on-clause-like : goal.run_block_on-returns-then-not-on-clause-like
run_block_on-returns-then-not-on-clause-like t c = team_like_then _ _ _ c.loop-s.invariant.2 c.in_ok-on.ensures.like

pub run_block_on-returns-then-not-on-clause-kept : goal.run_block_on-returns-then-not-on-clause-kept
run_block_on-returns-then-not-on-clause-kept t c = kept_then _ _ _ c.loop-s.invariant.3 c.run_step.ensures.kept

pub run_block_on-loop-s-preserved : goal.run_block_on-loop-s-preserved
run_block_on-loop-s-preserved t c = (
  block_goes c.args.self.now.program.now c.args.self.now.bound c.deref-s-items.result.now c.args.active.now c.args.known.now
      c.args.team.now.items
      (λ vs m. IfSome c.args.inner (λ t. AreKnownIn t.now.items vs m)) c.loop-s.s-index c.s-item.result c.loop-s.known c.run_step.new.known
      c.loop-s.team.items c.run_step.new.team.items (λ vs m. IfSome c.loop-s.more (λ t. AreKnownIn t.now.items vs m)) _ c.loop-s.told
      c.run_step.new.told c.in_ok-on.on c.loop-s.invariant.0 c.loop-s-test.true c.s-item.is c.in_ok-on.ensures.kept c.in_ok-on.ensures.leads
      (λ vs m z. perform_on c.args.self.now.program.now c.args.self.now.bound c.s-item.result vs m ≡ Goes tt z)
      (λ vs m. onward_self (perform_on c.args.self.now.program.now c.args.self.now.bound c.s-item.result vs m))
      (λ vs m z h goes. c.known_behind-more.ensures c.args.self.now.program.now c.args.self.now.bound vs m z goes h),
  follows_then _ _ _ c.loop-s.invariant.1 c.in_ok-on.ensures.follows,
  team_like_then _ _ _ c.loop-s.invariant.2 c.in_ok-on.ensures.like,
  kept_then _ _ _ c.loop-s.invariant.3 c.in_ok-on.ensures.kept,
)

pub run_open_on-loop-round-init : goal.run_open_on-loop-round-init
run_open_on-loop-round-init t c =
    let most = c.max-known.ensures in (
      (λ m h. stands_later c.args.known.now c.max-known.result c.args.team.now.items (omega (arith, most)) m h),
      omega (arith, most),
      record { least = omega arith; most = omega (arith, most); size = record { uniforms = refl; cells = refl; origins = refl } },
      team_like_same c.args.team.now.items,
      kept_same c.args.told.now,
    )

pub run_open_on-returns-in_err-on-clause-kept : goal.run_open_on-returns-in_err-on-clause-kept
run_open_on-returns-in_err-on-clause-kept t c = kept_then _ _ _ c.loop-round.invariant.4 c.run_block_on.ensures.kept

pub run_open_on-returns-then-not-on-clause-leads : goal.run_open_on-returns-then-not-on-clause-leads
run_open_on-returns-then-not-on-clause-leads t c = λ k m vs h way act.
    held_leads c.args.self.now.program.now c.args.self.now.bound c.args.line c.args.e.now c.args.body.now.items c.loop-round.known
    c.run_block_on.new.known c.loop-round.team.items c.run_block_on.new.team.items c.args.active.now c.run_block_on.new.told c.in_ok-on.on
    (λ m vs h way act. c.in_ok-on.ensures.leads m vs (stands_copied c.loop-round.known c.in_ok-inside.inside c.loop-round.team.items
    c.in_ok-members.members.items (λ m. (c.in_ok-inside.ensures.known m).0)
    (λ gs. members_as _ _ _ gs c.deref.ensures.value (c.in_ok-members.ensures.known gs)) m h)
    (lent_known c.in_ok-left.left c.as_ref-more.result c.as_ref-more.ensures.value m vs
    (left_known c.args.self.now.program.now c.loop-round.known c.loop-round.team.items c.args.e.now true
    c.in_ok-left.left vs m c.in_ok-left.ensures h.known_as (known_in c.loop-round.team.items vs m h.members) way)) act)
    c.if-not-on.true k m vs (c.loop-round.invariant.0 m h) way act

pub run_open_on-returns-then-not-on-clause-kept : goal.run_open_on-returns-then-not-on-clause-kept
run_open_on-returns-then-not-on-clause-kept t c = kept_then _ _ _ c.loop-round.invariant.4 c.run_block_on.ensures.kept

pub run_open_on-returns-in_err-test_on-clause-kept : goal.run_open_on-returns-in_err-test_on-clause-kept
run_open_on-returns-in_err-test_on-clause-kept t c =
    kept_then _ _ _ (kept_then _ _ _ c.loop-round.invariant.4 c.run_block_on.ensures.kept) c.test_on.ensures.kept

pub run_open_on-returns-in_default-clause-kept : goal.run_open_on-returns-in_default-clause-kept
run_open_on-returns-in_default-clause-kept t c =
    kept_then _ _ _ (kept_then _ _ _ c.loop-round.invariant.4 c.run_block_on.ensures.kept) c.test_on.ensures.kept

pub run_open_on-returns-then-is_all_within-clause-kept : goal.run_open_on-returns-then-is_all_within-clause-kept
run_open_on-returns-then-is_all_within-clause-kept t c =
    kept_then _ _ _ (kept_then _ _ _ c.loop-round.invariant.4 c.run_block_on.ensures.kept) c.test_on.ensures.kept

pub run_open_on-returns-in_default-clause-leads : goal.run_open_on-returns-in_default-clause-leads
run_open_on-returns-in_default-clause-leads t c = λ k m vs h way act.
    rest_leads c.args.self.now.program.now c.args.self.now.bound c.args.line c.args.e.now c.args.body.now.items c.loop-round.known
    c.run_block_on.new.known c.test_on.new.known c.loop-round.team.items c.run_block_on.new.team.items c.args.active.now
    c.run_block_on.new.told
    c.test_on.new.told c.in_ok-test_on.field-0 c.in_ok-on.on c.requires
    (λ m vs h way act. c.in_ok-on.ensures.leads m vs (stands_copied c.loop-round.known c.in_ok-inside.inside c.loop-round.team.items
    c.in_ok-members.members.items (λ m. (c.in_ok-inside.ensures.known m).0)
    (λ gs. members_as _ _ _ gs c.deref.ensures.value (c.in_ok-members.ensures.known gs)) m h)
    (lent_known c.in_ok-left.left c.as_ref-more.result c.as_ref-more.ensures.value m vs
    (left_known c.args.self.now.program.now c.loop-round.known c.loop-round.team.items c.args.e.now true
    c.in_ok-left.left vs m c.in_ok-left.ensures h.known_as (known_in c.loop-round.team.items vs m h.members) way)) act)
    (λ m vs h act. c.in_ok-test_on.ensures.leads m vs h tt act)
    (λ vs xs m found back. absurd (not_attempted c.args.self.now.program.now c.in_ok-test_on.field-0 vs xs c.in_default.is found))
    (λ vs xs found. absurd (not_attempted c.args.self.now.program.now c.in_ok-test_on.field-0 vs xs c.in_default.is found))
    (c.in_ok-test_on.ensures.bound (bound_passed c.args.self.now.bound c.loop-round.known c.in_ok-inside.inside c.run_block_on.new.known
    c.loop-round.invariant.1 c.in_ok-inside.ensures.same c.in_ok-on.ensures.follows))
    c.in_ok-test_on.ensures.kept k m vs (c.loop-round.invariant.0 m h) way act

pub run_open_on-returns-then-is_all_within-clause-leads : goal.run_open_on-returns-then-is_all_within-clause-leads
run_open_on-returns-then-is_all_within-clause-leads t c = λ k m vs h way act.
    rest_leads c.args.self.now.program.now c.args.self.now.bound c.args.line c.args.e.now c.args.body.now.items c.loop-round.known
    c.run_block_on.new.known c.test_on.new.known c.loop-round.team.items c.run_block_on.new.team.items c.args.active.now
    c.run_block_on.new.told
    c.test_on.new.told c.in_ok-test_on.field-0 c.in_ok-on.on c.requires
    (λ m vs h way act. c.in_ok-on.ensures.leads m vs (stands_copied c.loop-round.known c.in_ok-inside.inside c.loop-round.team.items
    c.in_ok-members.members.items (λ m. (c.in_ok-inside.ensures.known m).0)
    (λ gs. members_as _ _ _ gs c.deref.ensures.value (c.in_ok-members.ensures.known gs)) m h)
    (lent_known c.in_ok-left.left c.as_ref-more.result c.as_ref-more.ensures.value m vs
    (left_known c.args.self.now.program.now c.loop-round.known c.loop-round.team.items c.args.e.now true
    c.in_ok-left.left vs m c.in_ok-left.ensures h.known_as (known_in c.loop-round.team.items vs m h.members) way)) act)
    (λ m vs h act. c.in_ok-test_on.ensures.leads m vs h tt act)
    (λ vs xs m found back. subst (λ l. StandsWith c.loop-round.known l m) c.deref-in-loop-round-2.ensures.value
    (c.is_all_within.ensures c.if-is_all_within.true m (stands_as _ _ _ m c.deref-in-loop-round.ensures.value back)))
    (λ vs xs found. (attempted_as c.args.self.now.program.now c.in_ok-test_on.field-0 _ vs xs c.in-Some.is found).members)
    (c.in_ok-test_on.ensures.bound (bound_passed c.args.self.now.bound c.loop-round.known c.in_ok-inside.inside c.run_block_on.new.known
    c.loop-round.invariant.1 c.in_ok-inside.ensures.same c.in_ok-on.ensures.follows))
    c.in_ok-test_on.ensures.kept k m vs (c.loop-round.invariant.0 m h) way act

pub run_open_on-widen_team_at-requires : goal.run_open_on-widen_team_at-requires
run_open_on-widen_team_at-requires t c =
    subst (λ l. AreLike c.loop-round.team.items l) (sym c.deref-in-loop-round-3.ensures.value)
    (team_like_then c.loop-round.team.items c.in_ok-members.members.items c.run_block_on.new.team.items
    (like_as _ _ _ c.deref.ensures.value c.in_ok-members.ensures.like) c.in_ok-on.ensures.like)

pub run_open_on-loop-round-preserved : goal.run_open_on-loop-round-preserved
run_open_on-loop-round-preserved t c =
    let m = c.widen_at.ensures.most in
    let n = c.loop-round.invariant.1 in
    let copy = follows_copy c.loop-round.known c.in_ok-inside.inside c.in_ok-inside.ensures.same c.in_ok-inside.ensures.size in
    let turned = follows_then _ _ _ copy (follows_then _ _ _ c.in_ok-on.ensures.follows c.in_ok-test_on.ensures.follows) in (
      (λ s h. stands_copied c.loop-round.known c.widen_at.new.known c.loop-round.team.items c.widen_team_at.new.team.items
          c.widen_at.ensures.left
          c.widen_team_at.ensures.left s (c.loop-round.invariant.0 s h)),
      omega (arith, m, n),
      c.widen_at.ensures.follows c.args.known.now c.loop-round.invariant.2 (follows_then _ _ _ c.loop-round.invariant.2 turned),
      team_like_then _ _ _ c.loop-round.invariant.3 c.widen_team_at.ensures.like,
      kept_then _ _ _ (kept_then _ _ _ c.loop-round.invariant.4 c.run_block_on.ensures.kept) c.test_on.ensures.kept,
    )

pub run_step-returns-in_default-clause-like : goal.run_step-returns-in_default-clause-like
run_step-returns-in_default-clause-like t c = team_like_same c.args.team.now.items

pub run_step-returns-then-not-on-clause-leads : goal.run_step-returns-then-not-on-clause-leads
run_step-returns-then-not-on-clause-leads t c = λ m vs h begin act.
    let p = c.args.self.now.program.now in
    let n = c.args.self.now.bound in
    let e = c.in-If.test in
    let line = c.in-If.location.line in
    subst (Leads _ c.run_block_on.new.told) (sym (ap (λ s. perform_on p n s vs m) c.in-If.is
    ∙ if_is p n c.in-If.location c.in-If.test c.in-If.then_part c.in-If.else_part vs m))
    (found_then p c.in_ok-tried-in-If.tried vs (λ xs s. StandsWith c.test_on.new.known c.args.team.now.items s × AreTested p e vs m xs s)
    c.test_on.new.told c.run_block_on.new.told _ _ _
    (made_leads p e n line c.in_ok-tried-in-If.tried c.test_on.new.known c.args.team.now.items c.test_on.new.told vs m
    (c.in_ok-tried-in-If.ensures.leads m vs h begin act)) c.in_ok-on-in-If.ensures.kept
    (λ xs s found here. stops_then _ c.run_block_on.new.known c.run_block_on.new.team.items c.run_block_on.new.told _ _ c.in_ok-on-in-If.on
    (c.in_ok-on-in-If.ensures.leads s (those true xs) here.0
    (sharper_known c.in_ok-left-in-If.left c.as_ref.result c.args.inner c.or-more.result c.as_ref.ensures.value c.or-more.ensures s
    (those true xs)
    (left_known p c.test_on.new.known c.unwrap_or.result.now.items e true c.in_ok-left-in-If.left (those true xs) s
    c.in_ok-left-in-If.ensures here.0.known_as
    (chosen_known p e vs m xs s here.1 c.unwrap_or.result.now.items true
    (seen_known c.args.team.now.items c.args.inner _ c.unwrap_or.result c.unwrap_or.ensures refl m vs h.members begin))
    (chosen_way p e true vs m xs s here.1))
    (inner_chosen p e vs m xs s here.1 c.args.inner true begin))
    (goes_way p true c.in_ok-tried-in-If.tried _ c.deref.result.now c.in_ok-chosen-in-If.chosen.items c.deref-in-If-2.result.now vs xs
    c.in-Some.is
    c.deref.ensures.value c.deref-in-If-2.ensures.value c.in_ok-chosen-in-If.ensures.chosen found)) c.if-not-on.true))

pub run_step-returns-in_ok-on-in-While-clause-leads : goal.run_step-returns-in_ok-on-in-While-clause-leads
run_step-returns-in_ok-on-in-While-clause-leads t c = λ m vs h begin act.
    let p = c.args.self.now.program.now in
    let n = c.args.self.now.bound in
    subst (Leads _ c.run_while_on.new.told) (sym (ap (λ s. perform_on p n s vs m) c.in-While.is
    ∙ while_is p n c.in-While.location c.in-While.test c.in-While.body vs m))
    (c.in_ok-on-in-While.ensures.leads m vs h act)

pub run_step-returns-in_ok-off-in-If-clause-leads : goal.run_step-returns-in_ok-off-in-If-clause-leads
run_step-returns-in_ok-off-in-If-clause-leads t c = λ m vs h begin act.
    let p = c.args.self.now.program.now in
    let n = c.args.self.now.bound in
    let e = c.in-If.test in
    let line = c.in-If.location.line in
    subst (Leads _ c.run_block_on-in-If.new.told) (sym (ap (λ s. perform_on p n s vs m) c.in-If.is
    ∙ if_is p n c.in-If.location c.in-If.test c.in-If.then_part c.in-If.else_part vs m))
    (found_then p c.in_ok-tried-in-If.tried vs (λ xs s. StandsWith c.test_on.new.known c.args.team.now.items s × AreTested p e vs m xs s)
    c.test_on.new.told c.run_block_on-in-If.new.told _ _ _
    (made_leads p e n line c.in_ok-tried-in-If.tried c.test_on.new.known c.args.team.now.items c.test_on.new.told vs m
    (c.in_ok-tried-in-If.ensures.leads m vs h begin act)) (kept_then _ _ _ c.in_ok-on-in-If.ensures.kept c.in_ok-off-in-If.ensures.kept)
    (λ xs s found here.
    leads_then (λ u z. ((c.in_ok-on-in-If.on ≡ true) × StandsWith c.run_block_on.new.known c.run_block_on.new.team.items z)
    × AreBeside (those true xs) s z) _
    c.run_block_on.new.told c.run_block_on-in-If.new.told _ _
    (leads_onward (λ u z. (c.in_ok-on-in-If.on ≡ true) × StandsWith c.run_block_on.new.known c.run_block_on.new.team.items z)
    (λ u z. AreBeside (those true xs) s z) c.run_block_on.new.told _
    (c.in_ok-on-in-If.ensures.leads s (those true xs) here.0
    (sharper_known c.in_ok-left-in-If.left c.as_ref.result c.args.inner c.or-more.result c.as_ref.ensures.value c.or-more.ensures s
    (those true xs)
    (left_known p c.test_on.new.known c.unwrap_or.result.now.items e true c.in_ok-left-in-If.left (those true xs) s
    c.in_ok-left-in-If.ensures here.0.known_as
    (chosen_known p e vs m xs s here.1 c.unwrap_or.result.now.items true
    (seen_known c.args.team.now.items c.args.inner _ c.unwrap_or.result c.unwrap_or.ensures refl m vs h.members begin))
    (chosen_way p e true vs m xs s here.1))
    (inner_chosen p e vs m xs s here.1 c.args.inner true begin))
    (goes_way p true c.in_ok-tried-in-If.tried _ c.deref.result.now c.in_ok-chosen-in-If.chosen.items c.deref-in-If-2.result.now vs xs
    c.in-Some.is
    c.deref.ensures.value c.deref-in-If-2.ensures.value c.in_ok-chosen-in-If.ensures.chosen found))
    (list_beside p n c.in-If.then_part.items (those true xs) s))
    c.in_ok-off-in-If.ensures.kept
    (λ u z f. let same = others_were p e vs m xs s here.1 z f.1 in
    c.in_ok-off-in-If.ensures.leads z (those false xs) f.0.1
    (sharper_known c.in_ok-rest-in-If.rest c.as_ref-in-If.result c.args.inner c.or-more-in-If.result c.as_ref-in-If.ensures.value
    c.or-more-in-If.ensures z (those false xs)
    (left_were c.in_ok-rest-in-If.rest (those false xs) s z same
    (left_known p c.test_on.new.known c.unwrap_or-in-If.result.now.items e false c.in_ok-rest-in-If.rest (those false xs) s
    c.in_ok-rest-in-If.ensures here.0.known_as
    (chosen_known p e vs m xs s here.1 c.unwrap_or-in-If.result.now.items false
    (seen_known c.args.team.now.items c.args.inner _ c.unwrap_or-in-If.result c.unwrap_or-in-If.ensures refl m vs h.members begin))
    (chosen_way p e false vs m xs s here.1)))
    (inner_were c.args.inner (those false xs) s z same (inner_chosen p e vs m xs s here.1 c.args.inner false begin)))
    (goes_way p false c.in_ok-tried-in-If.tried _ c.deref-in-If.result.now c.in_ok-others-in-If.others.items c.deref-in-If-3.result.now vs
    xs
    c.in-Some.is c.deref-in-If.ensures.value c.deref-in-If-3.ensures.value c.in_ok-others-in-If.ensures.chosen found))))

pub run_step-returns-in_ok-off-in-If-clause-like : goal.run_step-returns-in_ok-off-in-If-clause-like
run_step-returns-in_ok-off-in-If-clause-like t c = team_like_then _ _ _ c.in_ok-on-in-If.ensures.like c.in_ok-off-in-If.ensures.like

pub run_while_on-turns-init : goal.run_while_on-turns-init
run_while_on-turns-init t c = (
  turns_start c.args.self.now.program.now c.args.self.now.bound c.args.line c.args.e.now c.args.body.now.items c.args.known.now
      c.args.team.now.items c.args.active.now c.in_ok-current.current.items c.args.told.now c.in_ok-current.ensures.items,
  follows_same c.args.known.now,
  team_like_same c.args.team.now.items,
  kept_same c.args.told.now,
)

pub run_while_on-returns-in_default-clause-leads : goal.run_while_on-returns-in_default-clause-leads
run_while_on-returns-in_default-clause-leads t c =
    test_leads c.args.self.now.program.now c.args.self.now.bound c.args.line c.args.e.now c.args.body.now.items c.args.known.now
    c.args.team.now.items
    c.args.active.now c.turns.known c.test_on.new.known c.turns.team.items c.turns.current.items c.turns.told c.test_on.new.told
    c.test_on.new.told
    c.in_ok-tried.tried c.turns.invariant.0 c.in_ok-tried.ensures.kept (kept_same c.test_on.new.told) c.in_ok-tried.ensures.bound
    (λ m vs h act. c.in_ok-tried.ensures.leads m vs h tt (active_as _ _ c.deref.ensures.value act))
    (λ u s. (false ≡ true) × StandsWith c.test_on.new.known c.turns.team.items s)
    (λ k vs xs m act found here way. absurd (not_attempted c.args.self.now.program.now c.in_ok-tried.tried vs xs c.in_default.is found))

pub run_while_on-returns-then-is_empty-clause-leads : goal.run_while_on-returns-then-is_empty-clause-leads
run_while_on-returns-then-is_empty-clause-leads t c =
    test_leads c.args.self.now.program.now c.args.self.now.bound c.args.line c.args.e.now c.args.body.now.items c.args.known.now
    c.args.team.now.items
    c.args.active.now c.turns.known c.test_on.new.known c.turns.team.items c.turns.current.items c.turns.told c.test_on.new.told
    c.test_on.new.told
    c.in_ok-tried.tried c.turns.invariant.0 c.in_ok-tried.ensures.kept (kept_same c.test_on.new.told) c.in_ok-tried.ensures.bound
    (λ m vs h act. c.in_ok-tried.ensures.leads m vs h tt (active_as _ _ c.deref.ensures.value act))
    (λ u s. (true ≡ true) × StandsWith c.test_on.new.known c.turns.team.items s)
    (λ k vs xs m act found here way. turns_end c.args.self.now.program.now c.args.self.now.bound c.args.line c.args.e.now
    c.args.body.now.items _ c.test_on.new.told k
    (those true xs) m (none_active (those true xs) (active_as [] _ (sym (empty_is _ _ c.in_ok-chosen.chosen.ok.0 c.if-is_empty.ensures))
    (goes_way c.args.self.now.program.now true c.in_ok-tried.tried _ c.deref-in-turns.result.now c.in_ok-chosen.chosen.items _ vs xs
    c.in-Some.is c.deref-in-turns.ensures.value refl c.in_ok-chosen.ensures.chosen found))) (refl, here))

pub run_while_on-returns-then-not-has_sure-clause-leads : goal.run_while_on-returns-then-not-has_sure-clause-leads
run_while_on-returns-then-not-has_sure-clause-leads t c =
    test_leads c.args.self.now.program.now c.args.self.now.bound c.args.line c.args.e.now c.args.body.now.items c.args.known.now
    c.args.team.now.items
    c.args.active.now c.turns.known c.test_on.new.known c.turns.team.items c.turns.current.items c.turns.told c.test_on.new.told
    c.run_open_on.new.told
    c.in_ok-tried.tried c.turns.invariant.0 c.in_ok-tried.ensures.kept c.in_ok-on.ensures.kept c.in_ok-tried.ensures.bound
    (λ m vs h act. c.in_ok-tried.ensures.leads m vs h tt (active_as _ _ c.deref.ensures.value act))
    (λ u s. (c.in_ok-on.on ≡ true) × StandsWith c.run_open_on.new.known c.run_open_on.new.team.items s)
    (λ k vs xs m act found here way. c.in_ok-on.ensures.leads k m (those true xs) here way
    (active_as _ _ c.deref-then-not-has_sure-2.ensures.value (c.in_ok-some.ensures.same (those true xs)
    (goes_way c.args.self.now.program.now true c.in_ok-tried.tried _ c.deref-in-turns.result.now c.in_ok-chosen.chosen.items _ vs xs
    c.in-Some.is c.deref-in-turns.ensures.value c.deref-then-not-has_sure.ensures.value c.in_ok-chosen.ensures.chosen found))))

pub run_while_on-returns-then-not-has_sure-clause-like : goal.run_while_on-returns-then-not-has_sure-clause-like
run_while_on-returns-then-not-has_sure-clause-like t c = team_like_then _ _ _ c.turns.invariant.2 c.in_ok-on.ensures.like

pub run_while_on-returns-then-not-on-clause-leads : goal.run_while_on-returns-then-not-on-clause-leads
run_while_on-returns-then-not-on-clause-leads t c =
    test_leads c.args.self.now.program.now c.args.self.now.bound c.args.line c.args.e.now c.args.body.now.items c.args.known.now
    c.args.team.now.items
    c.args.active.now c.turns.known c.test_on.new.known c.turns.team.items c.turns.current.items c.turns.told c.test_on.new.told
    c.run_block_on.new.told
    c.in_ok-tried.tried c.turns.invariant.0 c.in_ok-tried.ensures.kept c.in_ok-on-2.ensures.kept c.in_ok-tried.ensures.bound
    (λ m vs h act. c.in_ok-tried.ensures.leads m vs h tt (active_as _ _ c.deref.ensures.value act))
    (λ u s. (false ≡ true) × StandsWith c.run_block_on.new.known c.run_block_on.new.team.items s)
    (λ k vs xs m act found here way. let chosen =
    (goes_way c.args.self.now.program.now true c.in_ok-tried.tried _ c.deref-in-turns.result.now c.in_ok-chosen.chosen.items _ vs xs
    c.in-Some.is c.deref-in-turns.ensures.value refl c.in_ok-chosen.ensures.chosen found) in
    turns_stop c.args.self.now.program.now c.args.self.now.bound c.args.line c.args.e.now c.args.body.now.items _ c.run_block_on.new.known
    c.run_block_on.new.team.items c.run_block_on.new.told c.in_ok-on-2.on k (those true xs) m
    (c.has_sure.ensures c.if-not-has_sure.false (those true xs) (active_as _ _ c.deref-in-turns-2.ensures.value chosen)) (c.in_ok-on-2.ensures.leads m (those true xs) here
    (lent_known c.in_ok-left.left c.as_ref-more.result c.as_ref-more.ensures.value m (those true xs)
    (left_known c.args.self.now.program.now c.test_on.new.known c.turns.team.items c.args.e.now true
    c.in_ok-left.left (those true xs) m c.in_ok-left.ensures here.known_as (known_in c.turns.team.items (those true xs) m here.members)
    way))
    (active_as _ _ c.deref-in-turns-3.ensures.value chosen)) c.if-not-on.true)

pub run_while_on-returns-then-not-on-clause-like : goal.run_while_on-returns-then-not-on-clause-like
run_while_on-returns-then-not-on-clause-like t c = team_like_then _ _ _ c.turns.invariant.2 c.in_ok-on-2.ensures.like

pub run_while_on-turns-preserved : goal.run_while_on-turns-preserved
run_while_on-turns-preserved t c =
    let more = more_of c.in_ok-tried.tried _ c.in-Some.is c.in_ok-tried.ensures.more in (
      turn_goes c.args.self.now.program.now c.args.self.now.bound c.args.line c.args.e.now c.args.body.now.items c.args.known.now
          c.args.team.now.items c.args.active.now c.turns.known c.test_on.new.known c.turns.team.items c.turns.current.items c.turns.told
          c.test_on.new.told c.run_block_on.new.told c.in_ok-tried.tried c.turns.invariant.0 c.in_ok-tried.ensures.kept
          c.in_ok-on-2.ensures.kept
          c.in_ok-tried.ensures.bound
          (λ m vs h act. c.in_ok-tried.ensures.leads m vs h tt (active_as _ _ c.deref.ensures.value act)) c.run_block_on.new.known
          c.run_block_on.new.team.items
          c.in_ok-chosen.chosen.items c.in_ok-on-2.on more.0 c.in_ok-on-2.ensures.follows.least more.1
          (λ vs xs act found. goes_way c.args.self.now.program.now true c.in_ok-tried.tried _ c.deref-in-turns.result.now
          c.in_ok-chosen.chosen.items _ vs xs
          c.in-Some.is c.deref-in-turns.ensures.value refl c.in_ok-chosen.ensures.chosen found)
          (λ vs act. c.has_sure.ensures c.if-not-has_sure.false vs (active_as _ _ c.deref-in-turns-2.ensures.value act))
          (λ m vs h way act. c.in_ok-on-2.ensures.leads m vs h
          (lent_known c.in_ok-left.left c.as_ref-more.result c.as_ref-more.ensures.value m vs
          (left_known c.args.self.now.program.now c.test_on.new.known c.turns.team.items c.args.e.now true
          c.in_ok-left.left vs m c.in_ok-left.ensures h.known_as (known_in c.turns.team.items vs m h.members) way))
          (active_as _ _ c.deref-in-turns-3.ensures.value act)),
      follows_then _ _ _ c.turns.invariant.1 (follows_then _ _ _ c.in_ok-tried.ensures.follows c.in_ok-on-2.ensures.follows),
      team_like_then _ _ _ c.turns.invariant.2 c.in_ok-on-2.ensures.like,
      kept_then _ _ _ c.turns.invariant.3 (kept_then _ _ _ c.in_ok-tried.ensures.kept c.in_ok-on-2.ensures.kept),
    )

pub run_block_on-returns-in_err-on-clause-halts : goal.run_block_on-returns-in_err-on-clause-halts
run_block_on-returns-in_err-on-clause-halts t c =
    handed c.from_residual.result c.in_err-on.field-0.0 (λ u. HaveStep (IsOpenOn u) c.args.body.now.items) c.from_residual.ensures.1
    (halts_on (λ u. HasStep (IsOpenOn u) c.s-item.result) (λ u. HaveStep (IsOpenOn u) c.args.body.now.items) c.in_err-on.field-0.0
    c.in_err-on.ensures.halts
    (λ u h. on_item u c.args.body.now.items c.deref-s-items.result.now c.loop-s.s-index c.s-item.result c.deref-s-items.ensures.value
    c.loop-s-test.true c.s-item.is h))

pub run_step-returns-in_err-on-in-While-clause-halts : goal.run_step-returns-in_err-on-in-While-clause-halts
run_step-returns-in_err-on-in-While-clause-halts t c =
    handed c.from_residual-in_err-on-in-While.result c.in_err-on-in-While.field-0.0 (λ u. HasStep (IsOpenOn u) c.args.s.now)
    c.from_residual-in_err-on-in-While.ensures.1
    (halts_on (InLoopOn c.in-While.location.line c.in-While.body.items) (λ u. HasStep (IsOpenOn u) c.args.s.now)
    c.in_err-on-in-While.field-0.0 c.in_err-on-in-While.ensures.halts
    (on_loop c.args.s.now c.in-While.location c.in-While.test c.in-While.body c.in-While.is))

pub run_step-returns-in_err-on-in-If-clause-halts : goal.run_step-returns-in_err-on-in-If-clause-halts
run_step-returns-in_err-on-in-If-clause-halts t c =
    handed c.from_residual-in_err-on-in-If.result c.in_err-on-in-If.field-0.0 (λ u. HasStep (IsOpenOn u) c.args.s.now)
    c.from_residual-in_err-on-in-If.ensures.1
    (halts_on (λ u. HaveStep (IsOpenOn u) c.in-If.then_part.items) (λ u. HasStep (IsOpenOn u) c.args.s.now)
    c.in_err-on-in-If.field-0.0 c.in_err-on-in-If.ensures.halts
    (on_then c.args.s.now c.in-If.location c.in-If.test c.in-If.then_part c.in-If.else_part c.in-If.is))

pub run_step-returns-in_err-off-in-If-clause-halts : goal.run_step-returns-in_err-off-in-If-clause-halts
run_step-returns-in_err-off-in-If-clause-halts t c =
    handed c.from_residual-in_err-off-in-If.result c.in_err-off-in-If.field-0.0 (λ u. HasStep (IsOpenOn u) c.args.s.now)
    c.from_residual-in_err-off-in-If.ensures.1
    (halts_on (λ u. HaveStep (IsOpenOn u) c.in-If.else_part.items) (λ u. HasStep (IsOpenOn u) c.args.s.now)
    c.in_err-off-in-If.field-0.0 c.in_err-off-in-If.ensures.halts
    (on_else c.args.s.now c.in-If.location c.in-If.test c.in-If.then_part c.in-If.else_part c.in-If.is))
