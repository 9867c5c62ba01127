use Rattle.std.proofs.Common.{arith, rules, to_z, of_z, w64, ℤ, IsSomeAnd, ◌≡◌, true, false, Bool, Some, refl, ap, sym, subst, ◌∙◌}
use Rattle.pram_meaning.specs.Bounded.{perform, tested}
use Rattle.abstract_runs.proofs.Bounding.{pair_is}
use Rattle.pram_meaning.proofs.Blocks.{while_is}
use Rattle.abstract_runs.specs.declared.decided.Decided.TheVariants.{Yes, No}
use Rattle.abstract_runs.specs.Halting.{HasStatement, HaveStatement, IsOpenAt}
use Rattle.abstract_runs.specs.Leads.{Leads}
use Rattle.abstract_runs.proofs.Choosing.{then_leads, else_leads, both_leads, for_leads, for_at, pair_as}
use Rattle.abstract_runs.proofs.Numbering.{unbegun_leads, stop_leads, last_leads, turn_goes as for_goes}
use Rattle.abstract_runs.proofs.Testing.{Out, out_none, out_as, more_of}
use Rattle.abstract_runs.specs.Standing.{StandsFor}
use Rattle.abstract_runs.proofs.Coming.{at_items, block_goes, block_stops}
use Rattle.abstract_runs.proofs.Following.{follows_same, follows_then}
use Rattle.abstract_runs.proofs.Halted.{AreOpenAt, InLoop, InPardo, at_counted, at_else, at_item, at_loop, at_pardo, at_then, at_turn}
use Rattle.abstract_runs.proofs.Halted.{halts_on, handed}
use Rattle.abstract_runs.proofs.Leading.{kept_same, kept_then, leads_kept}
use Rattle.abstract_runs.proofs.Turning.{turns_start, test_leads, turns_end, turns_stop, turn_goes, rest_leads}
use Rattle.abstract_runs.proofs.Standings.{stands_on, follows_copy, bound_passed}
use Rattle.abstract_runs.proofs.survey.Survey.+outside.Goals as goal

pub run_block-returns-then-not-on-clause-leads : goal.run_block-returns-then-not-on-clause-leads
run_block-returns-then-not-on-clause-leads t c =
    let w = c.args.self.now.program.now in
    let n = c.args.self.now.bound in
    at_items w n c.args.known.now _ c.run_statement.new.told _ c.args.body.now.items c.deref-s-items.ensures.value
    (block_stops w n c.deref-s-items.result.now c.loop-s.s-index c.s-item.result c.args.known.now
    c.loop-s.known c.run_statement.new.known c.loop-s.told c.run_statement.new.told c.in_ok-on.on
    (λ u s. (false ≡ true) × StandsFor c.run_statement.new.known s) c.loop-s.invariant.0 c.loop-s-test.true
    c.s-item.is c.in_ok-on.ensures.kept c.in_ok-on.ensures.leads c.if-not-on.true)

pub run_block-loop-s-preserved : goal.run_block-loop-s-preserved
run_block-loop-s-preserved t c = (
  block_goes c.args.self.now.program.now c.args.self.now.bound c.deref-s-items.result.now c.loop-s.s-index c.s-item.result c.args.known.now
      c.loop-s.known c.run_statement.new.known c.loop-s.told c.run_statement.new.told c.in_ok-on.on c.loop-s.invariant.0 c.loop-s-test.true
      c.s-item.is c.in_ok-on.ensures.kept c.in_ok-on.ensures.leads,
  follows_then c.args.known.now c.loop-s.known c.run_statement.new.known c.loop-s.invariant.1 c.in_ok-on.ensures.follows,
  kept_then c.args.told.now c.loop-s.told c.run_statement.new.told c.loop-s.invariant.2 c.in_ok-on.ensures.kept,
)

pub run_while-turns-init : goal.run_while-turns-init
run_while-turns-init t c = (
  turns_start c.args.self.now.program.now c.args.self.now.bound c.args.line c.args.e.now c.args.body.now.items c.args.known.now
      c.args.told.now,
  follows_same c.args.known.now,
  kept_same c.args.told.now,
)

pub run_while-returns-in-None-clause-leads : goal.run_while-returns-in-None-clause-leads
run_while-returns-in-None-clause-leads t c =
    test_leads c.args.self.now.program.now c.args.self.now.bound c.args.line c.args.e.now c.args.body.now.items c.args.known.now
    c.turns.known c.test.new.known
    c.turns.told c.test.new.told (Out c.args.self.now.program.now c.args.e.now c.in_ok-test.field-0)
    (λ u s. (false ≡ true) × StandsFor c.test.new.known s) c.turns.invariant.0
    c.in_ok-test.ensures.kept c.in_ok-test.ensures.bound c.in_ok-test.ensures.leads
    (λ k b m out here. absurd (out_none c.args.self.now.program.now c.args.e.now c.in_ok-test.field-0 b m c.in-None.is out))

pub run_while-returns-in-Some-No-clause-leads : goal.run_while-returns-in-Some-No-clause-leads
run_while-returns-in-Some-No-clause-leads t c =
    test_leads c.args.self.now.program.now c.args.self.now.bound c.args.line c.args.e.now c.args.body.now.items c.args.known.now
    c.turns.known c.test.new.known
    c.turns.told c.test.new.told (Out c.args.self.now.program.now c.args.e.now c.in_ok-test.field-0)
    (λ u s. (true ≡ true) × StandsFor c.test.new.known s) c.turns.invariant.0
    c.in_ok-test.ensures.kept c.in_ok-test.ensures.bound c.in_ok-test.ensures.leads
    (λ k b m out here. turns_end c.args.self.now.program.now c.args.self.now.bound c.args.line c.args.e.now c.args.body.now.items _
    c.test.new.told k b m
    (out_as c.args.self.now.program.now c.args.e.now c.in_ok-test.field-0 No b m (c.in-Some-No.is ∙ ap Some c.in-Some-No.field-0-is) out)
    (refl, here))

pub run_while-returns-then-not-on-clause-leads : goal.run_while-returns-then-not-on-clause-leads
run_while-returns-then-not-on-clause-leads t c =
    test_leads c.args.self.now.program.now c.args.self.now.bound c.args.line c.args.e.now c.args.body.now.items c.args.known.now
    c.turns.known c.test.new.known
    c.turns.told c.run_block.new.told (Out c.args.self.now.program.now c.args.e.now c.in_ok-test.field-0)
    (λ u s. (false ≡ true) × StandsFor c.run_block.new.known s) c.turns.invariant.0
    (kept_then c.turns.told c.test.new.told c.run_block.new.told c.in_ok-test.ensures.kept c.in_ok-on.ensures.kept)
    (λ at. c.in_ok-on.ensures.kept.goes_on (c.in_ok-test.ensures.bound at))
    (λ m h. leads_kept {A = Bool} (λ b s. Out c.args.self.now.program.now c.args.e.now c.in_ok-test.field-0 b s × StandsFor c.test.new.known
    s) c.test.new.told c.run_block.new.told
    (tested c.args.self.now.program.now c.args.self.now.bound c.args.line c.args.e.now m) (c.in_ok-test.ensures.leads m h)
    c.in_ok-on.ensures.kept)
    (λ k b m out here. turns_stop c.args.self.now.program.now c.args.self.now.bound c.args.line c.args.e.now c.args.body.now.items _
    c.run_block.new.known
    c.run_block.new.told c.in_ok-on.on k b m
    (out_as c.args.self.now.program.now c.args.e.now c.in_ok-test.field-0 Yes b m (c.in-Some-Yes.is ∙ ap Some c.in-Some-Yes.field-0-is) out)
    (c.in_ok-on.ensures.leads m here) c.if-not-on.true)

pub run_while-turns-preserved : goal.run_while-turns-preserved
run_while-turns-preserved t c =
    let some = c.in-Some-Yes.is ∙ ap Some c.in-Some-Yes.field-0-is in
    let more = more_of c.in_ok-test.field-0 Yes _ some c.in_ok-test.ensures.more in (
      turn_goes c.args.self.now.program.now c.args.self.now.bound c.args.line c.args.e.now c.args.body.now.items c.args.known.now
          c.turns.known c.test.new.known
          c.run_block.new.known c.turns.told c.test.new.told c.run_block.new.told
          (Out c.args.self.now.program.now c.args.e.now c.in_ok-test.field-0) c.in_ok-on.on c.turns.invariant.0
          more.0 c.in_ok-on.ensures.follows.least more.1 c.in_ok-test.ensures.kept c.in_ok-on.ensures.kept c.in_ok-test.ensures.leads
          (λ b m out. out_as c.args.self.now.program.now c.args.e.now c.in_ok-test.field-0 Yes b m some out) c.in_ok-on.ensures.leads,
      follows_then _ _ _ c.turns.invariant.1 (follows_then _ _ _ c.in_ok-test.ensures.follows c.in_ok-on.ensures.follows),
      kept_then _ _ _ c.turns.invariant.2 (kept_then _ _ _ c.in_ok-test.ensures.kept c.in_ok-on.ensures.kept),
    )

pub run_statement-returns-in_ok-on-in-While-clause-leads : goal.run_statement-returns-in_ok-on-in-While-clause-leads
run_statement-returns-in_ok-on-in-While-clause-leads t c = λ m h.
    subst (Leads _ c.run_while.new.told) (sym (ap (λ s. perform c.args.self.now.program.now c.args.self.now.bound s m) c.in-While.is
    ∙ while_is c.args.self.now.program.now c.args.self.now.bound c.in-While.location c.in-While.test c.in-While.body m))
    (c.in_ok-on-in-While.ensures.leads m h)

pub run_statement-returns-in_ok-on-in-Some-Yes-clause-leads : goal.run_statement-returns-in_ok-on-in-Some-Yes-clause-leads
run_statement-returns-in_ok-on-in-Some-Yes-clause-leads t c = λ m h.
    then_leads c.args.self.now.program.now c.args.self.now.bound c.in-If.location c.args.s.now c.in-If.test c.in-If.then_part
    c.in-If.else_part
    (Out c.args.self.now.program.now c.in-If.test c.in_ok-test-in-If.field-0) c.test.new.known c.test.new.told c.run_block.new.told _ m
    c.in-If.is (c.in_ok-test-in-If.ensures.leads m h)
    c.in_ok-on-in-Some-Yes.ensures.kept
    (λ z s out. out_as c.args.self.now.program.now c.in-If.test c.in_ok-test-in-If.field-0 Yes z s
    (c.in-Some-Yes.is ∙ ap Some c.in-Some-Yes.field-0-is) out)
    c.in_ok-on-in-Some-Yes.ensures.leads

pub run_statement-returns-in_ok-on-in-Some-No-clause-leads : goal.run_statement-returns-in_ok-on-in-Some-No-clause-leads
run_statement-returns-in_ok-on-in-Some-No-clause-leads t c = λ m h.
    else_leads c.args.self.now.program.now c.args.self.now.bound c.in-If.location c.args.s.now c.in-If.test c.in-If.then_part
    c.in-If.else_part
    (Out c.args.self.now.program.now c.in-If.test c.in_ok-test-in-If.field-0) c.test.new.known c.test.new.told
    c.run_block-in-Some-No.new.told _ m c.in-If.is
    (c.in_ok-test-in-If.ensures.leads m h) c.in_ok-on-in-Some-No.ensures.kept
    (λ z s out. out_as c.args.self.now.program.now c.in-If.test c.in_ok-test-in-If.field-0 No z s
    (c.in-Some-No.is ∙ ap Some c.in-Some-No.field-0-is) out)
    c.in_ok-on-in-Some-No.ensures.leads

pub run_open-returns-in_err-on-clause-kept : goal.run_open-returns-in_err-on-clause-kept
run_open-returns-in_err-on-clause-kept t c = kept_then _ _ _ c.loop-round.invariant.3 c.run_branch.ensures.kept

pub run_open-returns-in_err-test-clause-kept : goal.run_open-returns-in_err-test-clause-kept
run_open-returns-in_err-test-clause-kept t c = kept_then _ _ _ (kept_then _ _ _ c.loop-round.invariant.3 c.run_branch.ensures.kept)
    c.test.ensures.kept

pub run_open-returns-in_err-left-clause-kept : goal.run_open-returns-in_err-left-clause-kept
run_open-returns-in_err-left-clause-kept t c = kept_then _ _ _ c.loop-round.invariant.3 c.run_branch.ensures.kept

pub run_open-returns-then-not-on-clause-kept : goal.run_open-returns-then-not-on-clause-kept
run_open-returns-then-not-on-clause-kept t c = kept_then _ _ _ c.loop-round.invariant.3 c.run_branch.ensures.kept

pub run_open-returns-in_err-left-2-clause-kept : goal.run_open-returns-in_err-left-2-clause-kept
run_open-returns-in_err-left-2-clause-kept t c = kept_then _ _ _ (kept_then _ _ _ c.loop-round.invariant.3 c.run_branch.ensures.kept)
    c.test.ensures.kept

pub run_open-returns-in_default-clause-kept : goal.run_open-returns-in_default-clause-kept
run_open-returns-in_default-clause-kept t c = kept_then _ _ _ (kept_then _ _ _ c.loop-round.invariant.3 c.run_branch.ensures.kept)
    c.test.ensures.kept

pub run_open-returns-in_err-left-3-clause-kept : goal.run_open-returns-in_err-left-3-clause-kept
run_open-returns-in_err-left-3-clause-kept t c = kept_then _ _ _ (kept_then _ _ _ c.loop-round.invariant.3 c.run_branch.ensures.kept)
    c.test.ensures.kept

pub run_open-returns-then-is_within-clause-kept : goal.run_open-returns-then-is_within-clause-kept
run_open-returns-then-is_within-clause-kept t c = kept_then _ _ _ (kept_then _ _ _ c.loop-round.invariant.3 c.run_branch.ensures.kept)
    c.test.ensures.kept

pub run_open-returns-in_default-clause-leads : goal.run_open-returns-in_default-clause-leads
run_open-returns-in_default-clause-leads t c = λ k b m h come.
    rest_leads c.args.self.now.program.now c.args.self.now.bound c.args.line c.args.e.now c.args.body.now.items c.loop-round.known
    c.run_branch.new.known
    c.test.new.known _ c.run_branch.new.told c.test.new.told (Out c.args.self.now.program.now c.args.e.now c.in_ok-test.field-0)
    c.in_ok-on.on
    c.in_ok-left-2.left
    (λ m h. c.in_ok-on.ensures.leads m (stands_on c.loop-round.known c.in_ok-inside.inside (λ m. (c.in_ok-inside.ensures.known m).0) m h))
    c.in_ok-test.ensures.leads (λ b m out. out.comes)
    (λ b m out back. absurd (out_none c.args.self.now.program.now c.args.e.now c.in_ok-test.field-0 b m c.in_default.is out))
    c.in_ok-left-2.ensures.kept
    (c.in_ok-test.ensures.bound (bound_passed c.args.self.now.bound c.loop-round.known c.in_ok-inside.inside c.run_branch.new.known
    c.loop-round.invariant.1 c.in_ok-inside.ensures.same c.in_ok-on.ensures.follows))
    c.in_ok-test.ensures.kept k b m (c.loop-round.invariant.0 m h) come

pub run_open-returns-then-is_within-clause-leads : goal.run_open-returns-then-is_within-clause-leads
run_open-returns-then-is_within-clause-leads t c = λ k b m h come.
    rest_leads c.args.self.now.program.now c.args.self.now.bound c.args.line c.args.e.now c.args.body.now.items c.loop-round.known
    c.run_branch.new.known
    c.test.new.known _ c.run_branch.new.told c.test.new.told (Out c.args.self.now.program.now c.args.e.now c.in_ok-test.field-0)
    c.in_ok-on.on
    c.in_ok-left-3.left
    (λ m h. c.in_ok-on.ensures.leads m (stands_on c.loop-round.known c.in_ok-inside.inside (λ m. (c.in_ok-inside.ensures.known m).0) m h))
    c.in_ok-test.ensures.leads (λ b m out. out.comes)
    (λ b m out back. stands_on c.test.new.known c.loop-round.known (c.is_within.ensures c.if-is_within.true) m back)
    c.in_ok-left-3.ensures.kept
    (c.in_ok-test.ensures.bound (bound_passed c.args.self.now.bound c.loop-round.known c.in_ok-inside.inside c.run_branch.new.known
    c.loop-round.invariant.1 c.in_ok-inside.ensures.same c.in_ok-on.ensures.follows))
    c.in_ok-test.ensures.kept k b m (c.loop-round.invariant.0 m h) come

pub run_open-loop-round-preserved : goal.run_open-loop-round-preserved
run_open-loop-round-preserved t c =
    let m = c.widen_at.ensures.most in
    let n = c.loop-round.invariant.1 in
    let copy = follows_copy c.loop-round.known c.in_ok-inside.inside c.in_ok-inside.ensures.same c.in_ok-inside.ensures.size in
    let turned = follows_then _ _ _ copy (follows_then _ _ _ c.in_ok-on.ensures.follows c.in_ok-test.ensures.follows) in (
      (λ s h. stands_on c.loop-round.known c.widen_at.new.known c.widen_at.ensures.left s (c.loop-round.invariant.0 s h)),
      omega (arith, m, n),
      c.widen_at.ensures.follows c.args.known.now c.loop-round.invariant.2 (follows_then _ _ _ c.loop-round.invariant.2 turned),
      kept_then _ _ _ (kept_then _ _ _ c.loop-round.invariant.3 c.run_branch.ensures.kept) c.test.ensures.kept,
    )

pub run_statement-returns-in_ok-off-in-Some-Open-clause-leads : goal.run_statement-returns-in_ok-off-in-Some-Open-clause-leads
run_statement-returns-in_ok-off-in-Some-Open-clause-leads t c = λ m h.
    both_leads c.args.self.now.program.now c.args.self.now.bound c.in-If.location c.args.s.now c.in-If.test c.in-If.then_part
    c.in-If.else_part
    (Out c.args.self.now.program.now c.in-If.test c.in_ok-test-in-If.field-0) c.test.new.known c.test.new.told
    c.run_branch-in-Some-Open.new.told _ m c.in-If.is (c.in_ok-test-in-If.ensures.leads m h)
    (kept_then _ _ _ c.run_branch.ensures.kept c.run_branch-in-Some-Open.ensures.kept)
    c.in_ok-other-in-Some-Open.other c.run_branch.new.known c.run_branch-in-Some-Open.new.known c.run_branch.new.told _ _
    (λ z s out. out.comes) (λ m h. stands_on c.test.new.known c.in_ok-other-in-Some-Open.other
    (λ m. (c.in_ok-other-in-Some-Open.ensures.known m).0) m h)
    c.in_ok-on-in-Some-Open.ensures.leads c.run_branch-in-Some-Open.ensures.kept c.in_ok-off-in-Some-Open.ensures.leads
    c.join_ways.ensures.left c.join_ways.ensures.right

pub run_while-returns-in-Some-Open-clause-leads : goal.run_while-returns-in-Some-Open-clause-leads
run_while-returns-in-Some-Open-clause-leads t c =
    test_leads c.args.self.now.program.now c.args.self.now.bound c.args.line c.args.e.now c.args.body.now.items c.args.known.now
    c.turns.known c.test.new.known
    c.turns.told c.run_open.new.told (Out c.args.self.now.program.now c.args.e.now c.in_ok-test.field-0)
    (λ u s. (c.in_ok-on-in-Some-Open.on ≡ true) × StandsFor c.run_open.new.known s)
    c.turns.invariant.0
    (kept_then c.turns.told c.test.new.told c.run_open.new.told c.in_ok-test.ensures.kept c.in_ok-on-in-Some-Open.ensures.kept)
    (λ at. c.in_ok-on-in-Some-Open.ensures.kept.goes_on (c.in_ok-test.ensures.bound at))
    (λ m h. leads_kept {A = Bool} (λ b s. Out c.args.self.now.program.now c.args.e.now c.in_ok-test.field-0 b s × StandsFor c.test.new.known
    s) c.test.new.told c.run_open.new.told
    (tested c.args.self.now.program.now c.args.self.now.bound c.args.line c.args.e.now m) (c.in_ok-test.ensures.leads m h)
    c.in_ok-on-in-Some-Open.ensures.kept)
    (λ k b m out here. c.in_ok-on-in-Some-Open.ensures.leads k b m here out.comes)

pub run_for-returns-then-not-begin-clause-leads : goal.run_for-returns-then-not-begin-clause-leads
run_for-returns-then-not-begin-clause-leads t c =
    unbegun_leads c.args.self.now.program.now c.args.self.now.bound c.args.variable c.args.body.now.items c.args.numbers.now.next
    c.args.numbers.now.last c.turns.left.next c.turns.left.last c.args.known.now c.turns.known c.begin.new.known c.turns.told
    c.begin.new.told _ c.turns.invariant.0 c.begin.ensures.kept c.if-not-begin.ensures.leads

pub run_for-returns-then-not-on-clause-leads : goal.run_for-returns-then-not-on-clause-leads
run_for-returns-then-not-on-clause-leads t c =
    stop_leads c.args.self.now.program.now c.args.self.now.bound c.args.variable c.args.body.now.items c.args.numbers.now.next
    c.args.numbers.now.last c.turns.left.next c.turns.left.last c.args.known.now c.turns.known c.begin.new.known c.set_variable.new.known
    c.run_block.new.known c.turns.told c.begin.new.told c.run_block.new.told c.in_ok-on.on c.turns.invariant.0 c.begin.ensures.kept
    c.in_ok-on.ensures.kept c.if-not-begin.ensures.leads c.set_variable.ensures.known c.in_ok-on.ensures.leads _ c.if-not-on.true

pub run_for-returns-then-is_at_end-clause-leads : goal.run_for-returns-then-is_at_end-clause-leads
run_for-returns-then-is_at_end-clause-leads t c =
    last_leads c.args.self.now.program.now c.args.self.now.bound c.args.variable c.args.body.now.items c.args.numbers.now.next
    c.args.numbers.now.last c.turns.left.next c.turns.left.last c.args.known.now c.turns.known c.begin.new.known c.set_variable.new.known
    c.run_block.new.known c.turns.told c.begin.new.told c.run_block.new.told c.in_ok-on.on c.turns.invariant.0 c.begin.ensures.kept
    c.in_ok-on.ensures.kept c.if-not-begin.ensures.leads c.set_variable.ensures.known c.in_ok-on.ensures.leads (c.is_at_end.ensures.last c.if-is_at_end.true)

pub run_for-turns-preserved : goal.run_for-turns-preserved
run_for-turns-preserved t c = (
  for_goes c.args.self.now.program.now c.args.self.now.bound c.args.variable c.args.body.now.items c.args.numbers.now.next
      c.args.numbers.now.last c.turns.left.next c.turns.left.last c.args.known.now c.turns.known c.begin.new.known c.set_variable.new.known
      c.run_block.new.known c.turns.told c.begin.new.told c.run_block.new.told c.in_ok-on.on c.turns.invariant.0 c.begin.ensures.kept
      c.in_ok-on.ensures.kept c.if-not-begin.ensures.leads c.set_variable.ensures.known c.in_ok-on.ensures.leads c.advance.new.self.next c.advance.ensures.next
      c.advance.new.self.last c.advance.ensures.last (c.is_at_end.ensures.more c.if-is_at_end.false),
  follows_then _ _ _ c.turns.invariant.1 (follows_then _ _ _ c.begin.ensures.follows (follows_then _ _ _ c.set_variable.ensures.follows
      c.in_ok-on.ensures.follows)),
  kept_then _ _ _ c.turns.invariant.2 (kept_then _ _ _ c.begin.ensures.kept c.in_ok-on.ensures.kept),
)

pub run_statement-returns-in_ok-on-in-Some-clause-leads : goal.run_statement-returns-in_ok-on-in-Some-clause-leads
run_statement-returns-in_ok-on-in-Some-clause-leads t c = λ m h.
    let first : to_z w64 (of_z w64 c.in-Some.first) ≡ c.in-Some.first = search rules in
    let last : to_z w64 (of_z w64 c.in-Some.last) ≡ c.in-Some.last = search rules in
    for_leads c.args.self.now.program.now c.args.self.now.bound c.in-For.location c.in-For.variable c.args.s.now c.in-For.low c.in-For.high
    c.in-For.body (λ r. IsSomeAnd c.in_ok-try_bounds-in-For.field-0 (λ (q : ℤ × ℤ). r ≡ (q.0, q.1))) c.try_bounds.new.known
    c.try_bounds.new.told c.run_for.new.told _ m c.in-For.is (c.in_ok-try_bounds-in-For.ensures.leads m h) c.in_ok-on-in-Some.ensures.kept
    (λ r s p stands.
    for_at c.args.self.now.program.now c.args.self.now.bound c.in-For.variable c.in-For.body.items _ c.run_for.new.told r _ _ s
    (pair_as c.in_ok-try_bounds-in-For.field-0 (c.in-Some.first, c.in-Some.last) r c.in-Some.is p ∙ pair_is (sym first) (sym last))
    (c.in_ok-on-in-Some.ensures.leads s stands))

pub run_block-returns-in_err-on-clause-halts : goal.run_block-returns-in_err-on-clause-halts
run_block-returns-in_err-on-clause-halts t c =
    handed c.from_residual.result c.in_err-on.field-0.0 (λ u. HaveStatement (IsOpenAt u) c.args.body.now.items) c.from_residual.ensures.1
    (halts_on (λ u. HasStatement (IsOpenAt u) c.s-item.result) (λ u. HaveStatement (IsOpenAt u) c.args.body.now.items)
    c.in_err-on.field-0.0 c.in_err-on.ensures.halts
    (λ u h. at_item u c.args.body.now.items c.deref-s-items.result.now c.loop-s.s-index c.s-item.result c.deref-s-items.ensures.value
    c.loop-s-test.true c.s-item.is h))

pub run_statement-returns-in_err-on-in-While-clause-halts : goal.run_statement-returns-in_err-on-in-While-clause-halts
run_statement-returns-in_err-on-in-While-clause-halts t c =
    handed c.from_residual-in_err-on-in-While.result c.in_err-on-in-While.field-0.0 (λ u. HasStatement (IsOpenAt u) c.args.s.now)
    c.from_residual-in_err-on-in-While.ensures.1
    (halts_on (InLoop c.in-While.location.line c.in-While.body.items) (λ u. HasStatement (IsOpenAt u) c.args.s.now)
    c.in_err-on-in-While.field-0.0 c.in_err-on-in-While.ensures.halts
    (at_loop c.args.s.now c.in-While.location c.in-While.test c.in-While.body c.in-While.is))

pub run_statement-returns-in_err-on-in-Some-Yes-clause-halts : goal.run_statement-returns-in_err-on-in-Some-Yes-clause-halts
run_statement-returns-in_err-on-in-Some-Yes-clause-halts t c =
    handed c.from_residual-in_err-on-in-Some-Yes.result c.in_err-on-in-Some-Yes.field-0.0 (λ u. HasStatement (IsOpenAt u) c.args.s.now)
    c.from_residual-in_err-on-in-Some-Yes.ensures.1
    (halts_on (λ u. HaveStatement (IsOpenAt u) c.in-If.then_part.items) (λ u. HasStatement (IsOpenAt u) c.args.s.now)
    c.in_err-on-in-Some-Yes.field-0.0 c.in_err-on-in-Some-Yes.ensures.halts
    (at_then c.args.s.now c.in-If.location c.in-If.test c.in-If.then_part c.in-If.else_part c.in-If.is))

pub run_statement-returns-in_err-on-in-Some-No-clause-halts : goal.run_statement-returns-in_err-on-in-Some-No-clause-halts
run_statement-returns-in_err-on-in-Some-No-clause-halts t c =
    handed c.from_residual-in_err-on-in-Some-No.result c.in_err-on-in-Some-No.field-0.0 (λ u. HasStatement (IsOpenAt u) c.args.s.now)
    c.from_residual-in_err-on-in-Some-No.ensures.1
    (halts_on (λ u. HaveStatement (IsOpenAt u) c.in-If.else_part.items) (λ u. HasStatement (IsOpenAt u) c.args.s.now)
    c.in_err-on-in-Some-No.field-0.0 c.in_err-on-in-Some-No.ensures.halts
    (at_else c.args.s.now c.in-If.location c.in-If.test c.in-If.then_part c.in-If.else_part c.in-If.is))

pub run_statement-returns-in_err-on-in-Some-Open-clause-halts : goal.run_statement-returns-in_err-on-in-Some-Open-clause-halts
run_statement-returns-in_err-on-in-Some-Open-clause-halts t c =
    handed c.from_residual-in_err-on-in-Some-Open.result c.in_err-on-in-Some-Open.field-0.0 (λ u. HasStatement (IsOpenAt u) c.args.s.now)
    c.from_residual-in_err-on-in-Some-Open.ensures.1
    (halts_on (λ u. HaveStatement (IsOpenAt u) c.in-If.then_part.items) (λ u. HasStatement (IsOpenAt u) c.args.s.now)
    c.in_err-on-in-Some-Open.field-0.0 c.in_err-on-in-Some-Open.ensures.halts
    (at_then c.args.s.now c.in-If.location c.in-If.test c.in-If.then_part c.in-If.else_part c.in-If.is))

pub run_statement-returns-in_err-off-in-Some-Open-clause-halts : goal.run_statement-returns-in_err-off-in-Some-Open-clause-halts
run_statement-returns-in_err-off-in-Some-Open-clause-halts t c =
    handed c.from_residual-in_err-off-in-Some-Open.result c.in_err-off-in-Some-Open.field-0.0 (λ u. HasStatement (IsOpenAt u) c.args.s.now)
    c.from_residual-in_err-off-in-Some-Open.ensures.1
    (halts_on (λ u. HaveStatement (IsOpenAt u) c.in-If.else_part.items) (λ u. HasStatement (IsOpenAt u) c.args.s.now)
    c.in_err-off-in-Some-Open.field-0.0 c.in_err-off-in-Some-Open.ensures.halts
    (at_else c.args.s.now c.in-If.location c.in-If.test c.in-If.then_part c.in-If.else_part c.in-If.is))

pub run_statement-returns-in_err-try_bounds-in-For-clause-halts : goal.run_statement-returns-in_err-try_bounds-in-For-clause-halts
run_statement-returns-in_err-try_bounds-in-For-clause-halts t c =
    handed c.from_residual-in_err-try_bounds-in-For.result c.in_err-try_bounds-in-For.field-0.0
    (λ u. HasStatement (IsOpenAt u) c.args.s.now)
    c.from_residual-in_err-try_bounds-in-For.ensures.1
    (halts_on (AreOpenAt c.in-For.location.line c.in-For.low c.in-For.high) (λ u. HasStatement (IsOpenAt u) c.args.s.now)
    c.in_err-try_bounds-in-For.field-0.0 c.in_err-try_bounds-in-For.ensures.halts
    (at_counted c.args.s.now c.in-For.location c.in-For.variable c.in-For.low c.in-For.high c.in-For.body c.in-For.is))

pub run_statement-returns-in_err-on-in-Some-clause-halts : goal.run_statement-returns-in_err-on-in-Some-clause-halts
run_statement-returns-in_err-on-in-Some-clause-halts t c =
    handed c.from_residual-in_err-on-in-Some.result c.in_err-on-in-Some.field-0.0 (λ u. HasStatement (IsOpenAt u) c.args.s.now)
    c.from_residual-in_err-on-in-Some.ensures.1
    (halts_on (λ u. HaveStatement (IsOpenAt u) c.in-For.body.items) (λ u. HasStatement (IsOpenAt u) c.args.s.now)
    c.in_err-on-in-Some.field-0.0 c.in_err-on-in-Some.ensures.halts
    (at_turn c.args.s.now c.in-For.location c.in-For.variable c.in-For.low c.in-For.high c.in-For.body c.in-For.is))

pub run_statement-returns-in_err-on-in-Pardo-clause-halts : goal.run_statement-returns-in_err-on-in-Pardo-clause-halts
run_statement-returns-in_err-on-in-Pardo-clause-halts t c =
    handed c.from_residual-in_err-on-in-Pardo.result c.in_err-on-in-Pardo.field-0.0 (λ u. HasStatement (IsOpenAt u) c.args.s.now)
    c.from_residual-in_err-on-in-Pardo.ensures.1
    (halts_on (InPardo c.in-Pardo.location.line c.in-Pardo.low c.in-Pardo.high c.in-Pardo.body.items)
    (λ u. HasStatement (IsOpenAt u) c.args.s.now)
    c.in_err-on-in-Pardo.field-0.0 c.in_err-on-in-Pardo.ensures.halts
    (at_pardo c.args.s.now c.in-Pardo.location c.in-Pardo.low c.in-Pardo.high c.in-Pardo.locals c.in-Pardo.body c.in-Pardo.is))
