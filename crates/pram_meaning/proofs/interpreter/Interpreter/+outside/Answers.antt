use Rattle.std.proofs.Common.{rules, ◌≡◌, ◌≢◌, ◌∙◌, Err, ap, arith, sym, to_z, of_z, w64, ℤ}
use Rattle.std.proofs.lemmas.Result.{err_from_is_err_and}
use Rattle.pram_meaning.proofs.Blocks.{then_arm, else_arm, for_arm, pardo_arm, while_arm}
use Rattle.pram_meaning.proofs.ForLoops.{setting_halts, turn_goes, turn_halts, turns_start}
use Rattle.pram_meaning.proofs.HeardBlocks.{else_heard, for_heard, heard_goes, heard_halts, if_halts_heard, then_heard, while_heard}
use Rattle.pram_meaning.proofs.HeardForLoops.{for_goes_heard, setting_halts_heard, setting_refused_heard, turn_goes_heard}
use Rattle.pram_meaning.proofs.HeardForLoops.{heard_start, turn_halts_heard}
use Rattle.pram_meaning.proofs.HeardLoops as loop
use Rattle.pram_meaning.proofs.Loops as turns
use Rattle.pram_meaning.proofs.Telling.{closing_left, closing_refused, first_halts}
use Rattle.pram_model.specs.Layout.{width}
use Rattle.pram_meaning.specs.declared.run.Halt.TheVariants as halt
use Rattle.pram_meaning.specs.Attempt.{attempt_bounds}
use Rattle.pram_meaning.specs.Bounded.{evaluated, perform_list}
use Rattle.pram_meaning.specs.Moments.{bounds_moment, for_turns_moments, list_moments}
use Rattle.pram_meaning.specs.Store.{State, seen}
use Rattle.pram_meaning.specs.Runs.{state_of}
use Rattle.pram_meaning.proofs.interpreter.Interpreter.+outside.Goals as goal

pub run_statement-returns-then-holds-clause-value : goal.run_statement-returns-then-holds-clause-value
run_statement-returns-then-holds-clause-value g t c =
    then_arm _ _ _ _ _ _ _ _ _ _ _ _ c.in-If.is c.in_ok-holds-in-If.ensures.value c.if-holds.true c.run_closed.ensures.value

pub run_statement-returns-else-holds-clause-value : goal.run_statement-returns-else-holds-clause-value
run_statement-returns-else-holds-clause-value g t c =
    else_arm _ _ _ _ _ _ _ _ _ _ _ _ c.in-If.is c.in_ok-holds-in-If.ensures.value c.if-holds.false c.run_closed-else-holds.ensures.value

pub run_statement-returns-in-Pardo-clause-value : goal.run_statement-returns-in-Pardo-clause-value
run_statement-returns-in-Pardo-clause-value g t c =
    let p = c.in-Pardo in
    pardo_arm c.args.self.now.program.now c.args.self.now.bound p.location p.locals c.args.s.now p.low p.high p.body
    (state_of c.args.run.now)
    (state_of c.run_pardo.new.run) c.run_pardo.result p.is c.run_pardo.ensures.value

pub run_statement-returns-in-For-clause-value : goal.run_statement-returns-in-For-clause-value
run_statement-returns-in-For-clause-value g t c =
    let p = c.in-For in
    for_arm c.args.self.now.program.now c.args.self.now.bound p.location p.variable c.args.s.now p.low p.high p.body
    (state_of c.args.run.now)
    (state_of c.run_for.new.run) c.run_for.result p.is c.run_for.ensures.value

pub run_turns-turns-preserved : goal.run_turns-turns-preserved
run_turns-turns-preserved g t c =
    let a = c.turns.invariant.0.grows in
    let b = c.in_ok-begin.ensures.more in
    let d = c.in_ok-run_closed.ensures.grows in
    let e : c.set_next.new.run.count ≡ c.begin.new.run.count = ap (λ (m : State). m.count) c.set_next.ensures in (
      turn_goes c.args.self.now.program.now c.args.self.now.bound c.args.variable c.args.body.now.items c.args.numbers.now.next
          c.args.numbers.now.last c.turns.left.next c.turns.left.last c.advance.new.self.next c.advance.new.self.last
          (state_of c.args.run.now) (state_of c.turns.run) (state_of c.begin.new.run) (state_of c.set_next.new.run)
          (state_of c.run_closed.new.run)
          c.turns.invariant.0 c.in_ok-begin.ensures.counts c.set_next.ensures c.in_ok-run_closed.ensures.value c.advance.ensures.next
          c.advance.ensures.last (c.is_at_end.ensures.more c.if-is_at_end.false) (omega (arith, a, b, d, e)),
      turn_goes_heard g.H.Listener.hears g.H.Listener.gives_up g.met.H.Listener.hears_on c.args.self.now.program.now c.args.self.now.bound
          c.args.location
          c.args.variable c.args.body.now.items c.args.numbers.now.next c.args.numbers.now.last c.turns.left.next c.turns.left.last
          c.advance.new.self.next (state_of c.args.run.now) (state_of c.turns.run) (state_of c.begin.new.run) (state_of c.set_next.new.run)
          (state_of c.run_closed.new.run) c.args.listener.now c.turns.listener c.tell_next.new.listener c.run_closed.new.listener
          c.turns.invariant.0 c.turns.invariant.1 c.in_ok-begin.ensures.counts c.set_next.ensures c.in_ok-tell_next.ensures.heard
          c.in_ok-run_closed.ensures.value c.in_ok-run_closed.ensures.heard c.advance.ensures.next,
    )

pub run_for-returns-clause-heard : goal.run_for-returns-clause-heard
run_for-returns-clause-heard g t c =
    let next : to_z w64 (of_z w64 c.in_ok-first.first) ≡ c.in_ok-first.first = search rules in
    let end : to_z w64 (of_z w64 c.in_ok-first.last) ≡ c.in_ok-first.last = search rules in
    for_goes_heard g.H.Listener.hears g.H.Listener.gives_up g.met.H.Listener.hears_on c.args.listener.now c.run_bounds.new.listener
    c.run_turns.new.listener
    c.args.self.now.program.now c.args.self.now.bound c.args.location c.args.variable c.args.low.now c.args.high.now c.args.body.now.items
    (state_of c.args.run.now) (state_of c.run_bounds.new.run) c.in_ok-first.first c.in_ok-first.last
    (to_z w64 (of_z w64 c.in_ok-first.first)) (to_z w64 (of_z w64 c.in_ok-first.last)) c.run_turns.result
    c.in_ok-first.ensures.value c.in_ok-first.ensures.heard next end c.run_turns.ensures.heard

pub run_statement-returns-then-holds-clause-heard : goal.run_statement-returns-then-holds-clause-heard
run_statement-returns-then-holds-clause-heard g t c =
    then_heard g.H.Listener.hears g.H.Listener.gives_up g.met.H.Listener.hears_on c.args.listener.now c.run_choice.new.listener
    c.run_closed.new.listener
    c.args.self.now.program.now c.args.self.now.bound c.in-If.location c.args.s.now c.in-If.test c.in-If.then_part c.in-If.else_part
    (state_of c.args.run.now) (state_of c.run_choice.new.run) c.in_ok-holds-in-If.holds c.run_closed.result c.in-If.is
    c.in_ok-holds-in-If.ensures.value c.if-holds.true c.in_ok-holds-in-If.ensures.heard c.run_closed.ensures.heard

pub run_statement-returns-else-holds-clause-heard : goal.run_statement-returns-else-holds-clause-heard
run_statement-returns-else-holds-clause-heard g t c =
    else_heard g.H.Listener.hears g.H.Listener.gives_up g.met.H.Listener.hears_on c.args.listener.now c.run_choice.new.listener
    c.run_closed-else-holds.new.listener c.args.self.now.program.now c.args.self.now.bound c.in-If.location c.args.s.now c.in-If.test
    c.in-If.then_part c.in-If.else_part (state_of c.args.run.now) (state_of c.run_choice.new.run) c.in_ok-holds-in-If.holds
    c.run_closed-else-holds.result c.in-If.is c.in_ok-holds-in-If.ensures.value c.if-holds.false c.in_ok-holds-in-If.ensures.heard
    c.run_closed-else-holds.ensures.heard

pub run_statement-returns-in-For-clause-heard : goal.run_statement-returns-in-For-clause-heard
run_statement-returns-in-For-clause-heard g t c =
    let p = c.in-For in
    for_heard g.H.Listener.hears g.H.Listener.gives_up c.args.listener.now c.run_for.new.listener c.args.self.now.program.now
    c.args.self.now.bound p.location
    p.variable c.args.s.now p.low p.high p.body (state_of c.args.run.now) c.run_for.result p.is c.run_for.ensures.heard

pub run_turns-returns-in_err-run_closed-clause-heard :
    goal.run_turns-returns-in_err-run_closed-clause-heard
run_turns-returns-in_err-run_closed-clause-heard g t c =
    let r = c.from_residual-in_err-run_closed in
    let p = err_from_is_err_and r.result r.ensures.1 in
    rw (p.1, p.2)
    (turn_halts_heard g.H.Listener.hears g.H.Listener.gives_up g.met.H.Listener.hears_on c.args.self.now.program.now c.args.self.now.bound
    c.args.location
    c.args.variable c.args.body.now.items c.args.numbers.now.next c.args.numbers.now.last c.turns.left.next c.turns.left.last
    (state_of c.args.run.now) (state_of c.turns.run) (state_of c.begin.new.run) (state_of c.set_next.new.run)
    (state_of c.run_closed.new.run) c.args.listener.now c.turns.listener c.tell_next.new.listener c.run_closed.new.listener
    c.in_err-run_closed.field-0.0 c.turns.invariant.0 c.turns.invariant.1 c.in_ok-begin.ensures.counts c.set_next.ensures
    c.in_ok-tell_next.ensures.heard c.in_err-run_closed.ensures.value c.in_err-run_closed.ensures.heard)

pub run_while-returns-in_err-run_test-clause-heard :
    goal.run_while-returns-in_err-run_test-clause-heard
run_while-returns-in_err-run_test-clause-heard g t c =
    let r = c.from_residual in
    let p = err_from_is_err_and r.result r.ensures.1 in
    rw (p.1, p.2)
    (loop.test_halts_heard g.H.Listener.hears g.H.Listener.gives_up c.args.self.now.program.now c.args.self.now.bound c.args.location
    c.args.test.now
    c.args.body.now.items (state_of c.args.run.now) (state_of c.turns.run) (state_of c.run_test.new.run) c.args.listener.now
    c.turns.listener c.run_test.new.listener c.in_err-run_test.field-0.0 c.turns.invariant.1 c.in_err-run_test.ensures.value
    c.in_err-run_test.ensures.heard)

pub run_while-turns-preserved : goal.run_while-turns-preserved
run_while-turns-preserved g t c =
    let a = c.in_ok-run_test.ensures.more in
    let b = c.in_ok-run_block.ensures.grows in (
      turns.turn_goes c.args.self.now.program.now c.args.self.now.bound c.args.location.line c.args.test.now c.args.body.now.items
          (state_of c.args.run.now) (state_of c.turns.run) (state_of c.run_test.new.run) (state_of c.run_block.new.run)
          c.in_ok-run_test.field-0 c.turns.invariant.0 c.in_ok-run_test.ensures.value c.if-branch.true c.in_ok-run_block.ensures.value
          (omega (arith, a, b)),
      loop.turn_goes_heard g.H.Listener.hears g.H.Listener.gives_up g.met.H.Listener.hears_on c.args.self.now.program.now
          c.args.self.now.bound c.args.location
          c.args.test.now c.args.body.now.items (state_of c.args.run.now) (state_of c.turns.run) (state_of c.run_test.new.run)
          (state_of c.run_block.new.run) c.args.listener.now c.turns.listener c.run_test.new.listener c.run_block.new.listener
          c.in_ok-run_test.field-0 c.turns.invariant.1 c.in_ok-run_test.ensures.value c.if-branch.true c.in_ok-run_test.ensures.heard
          c.in_ok-run_block.ensures.value c.in_ok-run_block.ensures.heard (omega (arith, a, b)),
    )

pub run_while-returns-in_err-run_block-clause-heard :
    goal.run_while-returns-in_err-run_block-clause-heard
run_while-returns-in_err-run_block-clause-heard g t c =
    let r = c.from_residual-in_err-run_block in
    let p = err_from_is_err_and r.result r.ensures.1 in
    rw (p.1, p.2)
    (loop.turn_halts_heard g.H.Listener.hears g.H.Listener.gives_up g.met.H.Listener.hears_on c.args.self.now.program.now
    c.args.self.now.bound c.args.location
    c.args.test.now c.args.body.now.items (state_of c.args.run.now) (state_of c.turns.run) (state_of c.run_test.new.run)
    (state_of c.run_block.new.run) c.args.listener.now c.turns.listener c.run_test.new.listener c.run_block.new.listener
    c.in_ok-run_test.field-0 c.in_err-run_block.field-0.0 c.turns.invariant.1 c.in_ok-run_test.ensures.value c.if-branch.true
    c.in_ok-run_test.ensures.heard c.in_err-run_block.ensures.value c.in_err-run_block.ensures.heard)

pub run_while-returns-clause-heard : goal.run_while-returns-clause-heard
run_while-returns-clause-heard g t c =
    loop.turns_end_heard g.H.Listener.hears g.H.Listener.gives_up g.met.H.Listener.hears_nothing g.met.H.Listener.hears_on
    c.args.self.now.program.now
    c.args.self.now.bound c.args.location c.args.test.now c.args.body.now.items (state_of c.args.run.now) (state_of c.turns.run)
    (state_of c.run_test.new.run) c.args.listener.now c.turns.listener c.run_test.new.listener c.in_ok-run_test.field-0
    c.turns.invariant.1 c.in_ok-run_test.ensures.value c.if-branch.false c.in_ok-run_test.ensures.heard

pub run_turns-returns-in_err-begin-clause-heard : goal.run_turns-returns-in_err-begin-clause-heard
run_turns-returns-in_err-begin-clause-heard g t c =
    let r = c.from_residual in
    let p = err_from_is_err_and r.result r.ensures.1 in
    rw (p.1, p.2)
    (setting_halts_heard g.H.Listener.hears g.H.Listener.gives_up g.met.H.Listener.hears_nothing c.args.self.now.program.now
    c.args.self.now.bound
    c.args.location c.args.variable c.args.body.now.items c.args.numbers.now.next c.args.numbers.now.last c.turns.left.next
    c.turns.left.last (state_of c.args.run.now) (state_of c.turns.run) (state_of c.begin.new.run) c.args.listener.now c.turns.listener
    c.in_err-begin.field-0.0 c.turns.invariant.0 c.turns.invariant.1 c.in_err-begin.ensures.counts)

pub run_turns-returns-in_err-run_closed-clause-value :
    goal.run_turns-returns-in_err-run_closed-clause-value
run_turns-returns-in_err-run_closed-clause-value g t c =
    let r = c.from_residual-in_err-run_closed in
    let p = err_from_is_err_and r.result r.ensures.1 in
    rw (p.1, p.2)
    (turn_halts c.args.self.now.program.now c.args.self.now.bound c.args.variable c.args.body.now.items c.args.numbers.now.next
    c.args.numbers.now.last c.turns.left.next c.turns.left.last (state_of c.args.run.now) (state_of c.turns.run) (state_of c.begin.new.run)
    (state_of c.set_next.new.run) (state_of c.run_closed.new.run) c.in_err-run_closed.field-0.0 c.turns.invariant.0
    c.in_ok-begin.ensures.counts c.set_next.ensures c.in_err-run_closed.ensures.value)

pub run_closed-returns-in-Err-OutOfMemory-clause-heard :
    goal.run_closed-returns-in-Err-OutOfMemory-clause-heard
run_closed-returns-in-Err-OutOfMemory-clause-heard g t c =
    let f : c.in-Err-OutOfMemory.field-0 ≡ halt.OutOfMemory = search (rules, c.in-Err-OutOfMemory.field-0-is) in
    closing_left g.H.Listener.hears g.H.Listener.gives_up {B = Unit {0}} c.args.listener.now c.run_block-done.new.listener
    (list_moments c.args.self.now.program.now c.args.self.now.bound c.args.body.now.items (state_of c.args.run.now))
    c.run_block-done.result (c.in-Err-OutOfMemory.is ∙ ap Err f) c.run_block-done.ensures.heard

pub run_closed-returns-in_err-closes-clause-heard :
    goal.run_closed-returns-in_err-closes-clause-heard
run_closed-returns-in_err-closes-clause-heard g t c =
    let r = c.from_residual in
    let p = err_from_is_err_and r.result r.ensures.1 in
    let going : c.run_block-done.result ≢ Err halt.OutOfMemory = grind arith in
    rw (p.1, p.2)
    (closing_refused g.H.Listener.hears g.H.Listener.gives_up g.met.H.Listener.hears_nothing g.met.H.Listener.hears_on {B = Unit {0}}
    c.args.listener.now c.run_block-done.new.listener c.closes.new.self
    (list_moments c.args.self.now.program.now c.args.self.now.bound c.args.body.now.items (state_of c.args.run.now))
    c.run_block-done.result going c.run_block-done.ensures.heard c.in_err-closes.ensures.refused)

pub run_for-returns-in_err-first-clause-heard : goal.run_for-returns-in_err-first-clause-heard
run_for-returns-in_err-first-clause-heard g t c =
    let r = c.from_residual in
    let p = err_from_is_err_and r.result r.ensures.1 in
    let w = c.args.self.now.program.now in
    let n = c.args.self.now.bound in
    let m = state_of c.args.run.now in
    rw (p.1, p.2)
    (first_halts g.H.Listener.hears g.H.Listener.gives_up {A = ℤ × ℤ} (Unit {0}) c.args.listener.now c.run_bounds.new.listener
    (bounds_moment w n c.args.location c.args.low.now c.args.high.now m)
    (evaluated n c.args.location.line (λ m. attempt_bounds (seen w m) c.args.low.now c.args.high.now) m)
    (λ r. for_turns_moments n c.args.location (width r.0 r.1) c.args.variable r.0 (list_moments w n c.args.body.now.items)
    (perform_list w n c.args.body.now.items)) _ (state_of c.run_bounds.new.run) c.in_err-first.ensures.value c.in_err-first.ensures.heard)

pub run_statement-returns-in_err-holds-in-If-clause-heard :
    goal.run_statement-returns-in_err-holds-in-If-clause-heard
run_statement-returns-in_err-holds-in-If-clause-heard g t c =
    let r = c.from_residual in
    let p = err_from_is_err_and r.result r.ensures.1 in
    rw (p.1, p.2)
    (if_halts_heard g.H.Listener.hears g.H.Listener.gives_up c.args.listener.now c.run_choice.new.listener c.args.self.now.program.now
    c.args.self.now.bound c.in-If.location c.args.s.now c.in-If.test c.in-If.then_part c.in-If.else_part (state_of c.args.run.now)
    (state_of c.run_choice.new.run) _ c.in-If.is c.in_err-holds-in-If.ensures.value c.in_err-holds-in-If.ensures.heard)

pub run_turns-returns-in_err-tell_next-clause-heard :
    goal.run_turns-returns-in_err-tell_next-clause-heard
run_turns-returns-in_err-tell_next-clause-heard g t c =
    let r = c.from_residual-in_err-tell_next in
    let p = err_from_is_err_and r.result r.ensures.1 in
    rw (p.1, p.2)
    (setting_refused_heard g.H.Listener.hears g.H.Listener.gives_up g.met.H.Listener.hears_nothing c.args.self.now.program.now
    c.args.self.now.bound c.args.location c.args.variable c.args.body.now.items c.args.numbers.now.next c.args.numbers.now.last
    c.turns.left.next c.turns.left.last (state_of c.args.run.now) (state_of c.turns.run) (state_of c.begin.new.run) c.args.listener.now
    c.turns.listener c.tell_next.new.listener c.turns.invariant.0 c.turns.invariant.1 c.in_ok-begin.ensures.counts
    c.in_err-tell_next.ensures.refused)

pub run_block-returns-in_err-run_statement-clause-heard : goal.run_block-returns-in_err-run_statement-clause-heard
run_block-returns-in_err-run_statement-clause-heard g t c =
    let r = c.from_residual in
    let p = err_from_is_err_and r.result r.ensures.1 in
    rw (p.1, p.2, sym c.deref-s-items.ensures.value)
    (heard_halts g.H.Listener.hears g.H.Listener.gives_up c.args.self.now.program.now c.args.self.now.bound c.deref-s-items.result.now
    c.loop-s.s-index c.s-item.result (state_of c.args.run.now) (state_of c.loop-s.run) (state_of c.run_statement.new.run)
    c.args.listener.now c.loop-s.listener c.run_statement.new.listener _ c.loop-s.invariant.1 c.loop-s-test.true c.s-item.is
    c.in_err-run_statement.ensures.value c.in_err-run_statement.ensures.heard)

pub run_block-loop-s-preserved : goal.run_block-loop-s-preserved
run_block-loop-s-preserved g t c = (
  turns.block_goes c.args.self.now.program.now c.args.self.now.bound c.deref-s-items.result.now c.loop-s.s-index c.s-item.result
      (state_of c.args.run.now) (state_of c.loop-s.run) (state_of c.run_statement.new.run) c.loop-s.invariant.0 c.loop-s-test.true
      c.s-item.is c.in_ok-run_statement.ensures.value c.in_ok-run_statement.ensures.grows,
  heard_goes g.H.Listener.hears g.H.Listener.gives_up g.met.H.Listener.hears_on c.args.self.now.program.now c.args.self.now.bound
      c.deref-s-items.result.now c.loop-s.s-index c.s-item.result (state_of c.args.run.now) (state_of c.loop-s.run)
      (state_of c.run_statement.new.run) c.args.listener.now c.loop-s.listener c.run_statement.new.listener c.loop-s.invariant.1
      c.loop-s-test.true c.s-item.is c.in_ok-run_statement.ensures.value c.in_ok-run_statement.ensures.heard,
)

pub run_statement-returns-in-While-clause-value : goal.run_statement-returns-in-While-clause-value
run_statement-returns-in-While-clause-value g t c =
    let p = c.in-While in
    while_arm c.args.self.now.program.now c.args.self.now.bound p.location c.args.s.now p.test p.body (state_of c.args.run.now)
    (state_of c.run_while.new.run) c.run_while.result p.is c.run_while.ensures.value

pub run_statement-returns-in-While-clause-heard : goal.run_statement-returns-in-While-clause-heard
run_statement-returns-in-While-clause-heard g t c =
    let p = c.in-While in
    while_heard g.H.Listener.hears g.H.Listener.gives_up c.args.listener.now c.run_while.new.listener c.args.self.now.program.now
    c.args.self.now.bound p.location c.args.s.now p.test p.body (state_of c.args.run.now) c.run_while.result p.is
    c.run_while.ensures.heard

pub run_turns-turns-init : goal.run_turns-turns-init
run_turns-turns-init g t c = (
  turns_start c.args.self.now.program.now c.args.self.now.bound c.args.variable c.args.body.now.items c.args.numbers.now.next
      c.args.numbers.now.last (state_of c.args.run.now) (c.is_empty.ensures.some c.if-is_empty.false),
  heard_start g.H.Listener.hears g.H.Listener.gives_up c.args.self.now.program.now c.args.self.now.bound c.args.location c.args.variable
      c.args.body.now.items c.args.numbers.now.next c.args.numbers.now.last (state_of c.args.run.now) c.args.listener.now,
)

pub run_turns-returns-in_err-begin-clause-value : goal.run_turns-returns-in_err-begin-clause-value
run_turns-returns-in_err-begin-clause-value g t c =
    let r = c.from_residual in
    let p = err_from_is_err_and r.result r.ensures.1 in
    rw (p.1, p.2)
    (setting_halts c.args.self.now.program.now c.args.self.now.bound c.args.variable c.args.body.now.items c.args.numbers.now.next
    c.args.numbers.now.last c.turns.left.next c.turns.left.last (state_of c.args.run.now) (state_of c.turns.run)
    (state_of c.begin.new.run) _ c.turns.invariant.0 c.in_err-begin.ensures.counts)

pub run_while-turns-init : goal.run_while-turns-init
run_while-turns-init g t c = (
  turns.turns_start c.args.self.now.program.now c.args.self.now.bound c.args.location.line c.args.test.now c.args.body.now.items
      (state_of c.args.run.now),
  loop.heard_start g.H.Listener.hears g.H.Listener.gives_up c.args.self.now.program.now c.args.self.now.bound c.args.location
      c.args.test.now c.args.body.now.items (state_of c.args.run.now) c.args.listener.now,
)
