use Rattle.std.proofs.lemmas.Result.{err_from_is_err_and}
use Rattle.std.proofs.Common.{map, ◌≡◌, ◌+◌, ◌<◌, ◌∙◌, length, arith, sym}
use Rattle.std.proofs.lemmas.Grind.{common_steps}
use Rattle.pram_meaning.specs.Judging.{part_is}
use Rattle.pram_meaning.specs.Bounded.{perform_list_on, tested_on}
use Rattle.pram_meaning.specs.Moments.{TurnsOn, inner_list_moments, set_test_moment, turns_on_moments}
use Rattle.pram_meaning.specs.Sets.{state_in}
use Rattle.pram_meaning.proofs.HeardSetBlocks.{heard_goes, heard_halts, if_goes_heard, if_halts_heard, if_refused_heard}
use Rattle.pram_meaning.proofs.HeardSetBlocks.{if_then_halts_heard, while_heard}
use Rattle.pram_meaning.proofs.HeardSetLoops.{heard_start, chosen_refused_heard, test_halts_heard, turn_goes_heard, turn_halts_heard}
use Rattle.pram_meaning.proofs.HeardSetLoops.{turns_end_heard}
use Rattle.pram_meaning.proofs.SetBlocks.{assign_arm, block_goes, if_then_halts, if_goes, while_arm}
use Rattle.pram_meaning.proofs.SetLoops.{turns_start, test_halts, turn_goes, turn_halts, turns_end}
use Rattle.pram_meaning.proofs.Telling.{part_none}
use Rattle.pram_meaning.proofs.interpreter.Interpreter.+inside.Goals as goal

pub run_step-returns-in-Assign-clause-value : goal.run_step-returns-in-Assign-clause-value
run_step-returns-in-Assign-clause-value g t c =
    assign_arm c.args.self.now.program.now c.args.self.now.bound c.in-Assign.location c.args.s.now c.in-Assign.target c.in-Assign.value
    c.args.active.now.items
    (state_in c.args.run.now c.args.team.now.items) (state_in c.assign_on.new.run c.assign_on.new.team.items) c.assign_on.result
    c.in-Assign.is c.assign_on.ensures.value

pub run_step-returns-in_err-run_block_on-in-If-clause-value :
    goal.run_step-returns-in_err-run_block_on-in-If-clause-value
run_step-returns-in_err-run_block_on-in-If-clause-value g t c =
    let r = c.from_residual-in_err-run_block_on-in-If in
    let p = err_from_is_err_and r.result r.ensures.1 in rw (p.1, p.2)
    (if_then_halts c.args.self.now.program.now c.args.self.now.bound c.in-If.location c.args.s.now c.in-If.test c.in-If.then_part
    c.in-If.else_part c.args.active.now.items c.in_ok-chosen-in-If.chosen.items
    (state_in c.args.run.now c.args.team.now.items) (state_in c.choice_on.new.run c.args.team.now.items)
    (state_in c.run_block_on.new.run c.run_block_on.new.team.items) (map part_is c.in_ok-all-in-If.all.items) _
    c.in-If.is c.in_ok-all-in-If.ensures.value c.in_ok-chosen-in-If.ensures c.in_err-run_block_on-in-If.ensures.value)

pub run_step-returns-in_ok-run_block_on-in-If-clause-value :
    goal.run_step-returns-in_ok-run_block_on-in-If-clause-value
run_step-returns-in_ok-run_block_on-in-If-clause-value g t c =
    if_goes c.args.self.now.program.now c.args.self.now.bound c.in-If.location c.args.s.now c.in-If.test c.in-If.then_part c.in-If.else_part
    c.args.active.now.items c.in_ok-chosen-in-If.chosen.items c.in_ok-others-in-If.others.items
    (state_in c.args.run.now c.args.team.now.items) (state_in c.choice_on.new.run c.args.team.now.items)
    (state_in c.run_block_on.new.run c.run_block_on.new.team.items)
    (state_in c.run_block_on-in-If.new.run c.run_block_on-in-If.new.team.items) (map part_is c.in_ok-all-in-If.all.items)
    c.run_block_on-in-If.result
    c.in-If.is c.in_ok-all-in-If.ensures.value c.in_ok-chosen-in-If.ensures c.in_ok-others-in-If.ensures
    c.in_ok-run_block_on-in-If.ensures.value
    c.run_block_on-in-If.ensures.value

pub run_while_on-returns-in_err-run_block_on-clause-value :
    goal.run_while_on-returns-in_err-run_block_on-clause-value
run_while_on-returns-in_err-run_block_on-clause-value g t c =
    let r = c.from_residual-in_err-run_block_on in
    let p = err_from_is_err_and r.result r.ensures.1 in
    let z : 0 < length c.in_ok-chosen.chosen.items = grind (arith, common_steps) in
    rw (p.1, p.2)
    (turn_halts c.args.self.now.program.now c.args.self.now.bound c.args.location.line c.args.test.now c.args.body.now.items
    c.args.active.now.items
    c.turns.current.items c.in_ok-chosen.chosen.items
    (state_in c.args.run.now c.args.team.now.items) (state_in c.turns.run c.turns.team.items)
    (state_in c.test_on.new.run c.turns.team.items) (state_in c.run_block_on.new.run c.run_block_on.new.team.items)
    (map part_is c.in_ok-all.all.items) _
    c.turns.invariant.0 c.in_ok-all.ensures.value c.in_ok-chosen.ensures z c.in_err-run_block_on.ensures.value)

pub run_step-returns-in_err-run_block_on-in-If-clause-heard :
    goal.run_step-returns-in_err-run_block_on-in-If-clause-heard
run_step-returns-in_err-run_block_on-in-If-clause-heard g t c =
    let r = c.from_residual-in_err-run_block_on-in-If in
    let p = err_from_is_err_and r.result r.ensures.1 in rw (p.1, p.2)
    (if_then_halts_heard g.H.Listener.hears g.H.Listener.gives_up g.met.H.Listener.hears_on c.args.listener.now c.choice_on.new.listener
    c.run_block_on.new.listener c.args.self.now.program.now c.args.self.now.bound c.in-If.location c.args.s.now c.in-If.test
    c.in-If.then_part
    c.in-If.else_part c.args.active.now.items c.in_ok-chosen-in-If.chosen.items
    (state_in c.args.run.now c.args.team.now.items) (state_in c.choice_on.new.run c.args.team.now.items)
    (state_in c.run_block_on.new.run c.run_block_on.new.team.items) (map part_is c.in_ok-all-in-If.all.items) _
    c.in-If.is c.in_ok-all-in-If.ensures.value c.in_ok-chosen-in-If.ensures c.in_ok-all-in-If.ensures.heard
    c.in_err-run_block_on-in-If.ensures.value c.in_err-run_block_on-in-If.ensures.heard)

pub run_step-returns-in_ok-run_block_on-in-If-clause-heard :
    goal.run_step-returns-in_ok-run_block_on-in-If-clause-heard
run_step-returns-in_ok-run_block_on-in-If-clause-heard g t c =
    if_goes_heard g.H.Listener.hears g.H.Listener.gives_up g.met.H.Listener.hears_on c.args.listener.now c.choice_on.new.listener
    c.run_block_on.new.listener
    c.run_block_on-in-If.new.listener c.args.self.now.program.now c.args.self.now.bound c.in-If.location c.args.s.now c.in-If.test
    c.in-If.then_part c.in-If.else_part c.args.active.now.items c.in_ok-chosen-in-If.chosen.items c.in_ok-others-in-If.others.items
    (state_in c.args.run.now c.args.team.now.items) (state_in c.choice_on.new.run c.args.team.now.items)
    (state_in c.run_block_on.new.run c.run_block_on.new.team.items) (map part_is c.in_ok-all-in-If.all.items) c.run_block_on-in-If.result
    c.in-If.is c.in_ok-all-in-If.ensures.value c.in_ok-chosen-in-If.ensures c.in_ok-others-in-If.ensures c.in_ok-all-in-If.ensures.heard
    c.in_ok-run_block_on-in-If.ensures.value c.in_ok-run_block_on-in-If.ensures.heard c.run_block_on-in-If.ensures.heard

pub run_while_on-returns-in_err-all-clause-heard :
    goal.run_while_on-returns-in_err-all-clause-heard
run_while_on-returns-in_err-all-clause-heard g t c =
    let r = c.from_residual-in_err-all in
    let p = err_from_is_err_and r.result r.ensures.1 in
    rw (p.1, p.2)
    (test_halts_heard g.H.Listener.hears g.H.Listener.gives_up c.args.self.now.program.now c.args.self.now.bound c.args.location
    c.args.test.now
    c.args.body.now.items c.args.active.now.items c.turns.current.items (state_in c.args.run.now c.args.team.now.items)
    (state_in c.turns.run c.turns.team.items) (state_in c.test_on.new.run c.turns.team.items) c.args.listener.now c.turns.listener
    c.test_on.new.listener _ c.turns.invariant.1 c.in_err-all.ensures.value c.in_err-all.ensures.heard)

pub run_while_on-returns-then-is_empty-clause-heard :
    goal.run_while_on-returns-then-is_empty-clause-heard
run_while_on-returns-then-is_empty-clause-heard g t c =
    let z : length c.in_ok-chosen.chosen.items ≡ 0 = grind (arith, common_steps) in
    turns_end_heard g.H.Listener.hears g.H.Listener.gives_up g.met.H.Listener.hears_nothing g.met.H.Listener.hears_on
    c.args.self.now.program.now
    c.args.self.now.bound c.args.location c.args.test.now c.args.body.now.items c.args.active.now.items c.turns.current.items
    c.in_ok-chosen.chosen.items (state_in c.args.run.now c.args.team.now.items) (state_in c.turns.run c.turns.team.items)
    (state_in c.test_on.new.run c.turns.team.items) c.args.listener.now c.turns.listener c.test_on.new.listener
    (map part_is c.in_ok-all.all.items) c.turns.invariant.1 c.in_ok-all.ensures.value c.in_ok-chosen.ensures z c.in_ok-all.ensures.heard

pub run_while_on-returns-in_err-run_block_on-clause-heard :
    goal.run_while_on-returns-in_err-run_block_on-clause-heard
run_while_on-returns-in_err-run_block_on-clause-heard g t c =
    let r = c.from_residual-in_err-run_block_on in
    let p = err_from_is_err_and r.result r.ensures.1 in
    let z : 0 < length c.in_ok-chosen.chosen.items = grind (arith, common_steps) in
    rw (p.1, p.2)
    (turn_halts_heard g.H.Listener.hears g.H.Listener.gives_up g.met.H.Listener.hears_on c.args.self.now.program.now c.args.self.now.bound
    c.args.location
    c.args.test.now c.args.body.now.items c.args.active.now.items c.turns.current.items c.in_ok-chosen.chosen.items
    (state_in c.args.run.now c.args.team.now.items) (state_in c.turns.run c.turns.team.items)
    (state_in c.test_on.new.run c.turns.team.items) (state_in c.run_block_on.new.run c.run_block_on.new.team.items)
    c.args.listener.now c.turns.listener c.test_on.new.listener c.run_block_on.new.listener (map part_is c.in_ok-all.all.items) _
    c.turns.invariant.1 c.in_ok-all.ensures.value c.in_ok-chosen.ensures z c.in_ok-all.ensures.heard
    c.in_err-run_block_on.ensures.value c.in_err-run_block_on.ensures.heard)

pub run_while_on-turns-preserved : goal.run_while_on-turns-preserved
run_while_on-turns-preserved g t c =
    let z : 0 < length c.in_ok-chosen.chosen.items = grind (arith, common_steps) in
    let a = c.in_ok-all.ensures.more in
    let b = c.in_ok-run_block_on.ensures.grows in (
      turn_goes c.args.self.now.program.now c.args.self.now.bound c.args.location.line c.args.test.now c.args.body.now.items
          c.args.active.now.items
          c.turns.current.items c.in_ok-chosen.chosen.items (state_in c.args.run.now c.args.team.now.items)
          (state_in c.turns.run c.turns.team.items) (state_in c.test_on.new.run c.turns.team.items)
          (state_in c.run_block_on.new.run c.run_block_on.new.team.items) (map part_is c.in_ok-all.all.items) c.turns.invariant.0
          c.in_ok-all.ensures.value c.in_ok-chosen.ensures z c.in_ok-run_block_on.ensures.value (omega (arith, a, b)),
      turn_goes_heard g.H.Listener.hears g.H.Listener.gives_up g.met.H.Listener.hears_on c.args.self.now.program.now c.args.self.now.bound
          c.args.location
          c.args.test.now c.args.body.now.items c.args.active.now.items c.turns.current.items c.in_ok-chosen.chosen.items
          (state_in c.args.run.now c.args.team.now.items) (state_in c.turns.run c.turns.team.items)
          (state_in c.test_on.new.run c.turns.team.items) (state_in c.run_block_on.new.run c.run_block_on.new.team.items)
          c.args.listener.now c.turns.listener c.test_on.new.listener c.run_block_on.new.listener (map part_is c.in_ok-all.all.items)
          c.turns.invariant.1 c.in_ok-all.ensures.value c.in_ok-chosen.ensures z c.in_ok-all.ensures.heard
          c.in_ok-run_block_on.ensures.value c.in_ok-run_block_on.ensures.heard (omega (arith, a, b)),
    )

pub run_step-returns-in_err-all-in-If-clause-heard : goal.run_step-returns-in_err-all-in-If-clause-heard
run_step-returns-in_err-all-in-If-clause-heard g t c =
    let r = c.from_residual in
    let p = err_from_is_err_and r.result r.ensures.1 in
    rw (p.1, p.2)
    (if_halts_heard g.H.Listener.hears g.H.Listener.gives_up c.args.listener.now c.choice_on.new.listener c.args.self.now.program.now
    c.args.self.now.bound c.in-If.location c.args.s.now c.in-If.test c.in-If.then_part c.in-If.else_part c.args.active.now.items
    (state_in c.args.run.now c.args.team.now.items) (state_in c.choice_on.new.run c.args.team.now.items) _ c.in-If.is
    c.in_err-all-in-If.ensures.value c.in_err-all-in-If.ensures.heard)

pub run_step-returns-in_err-chosen-in-If-clause-heard : goal.run_step-returns-in_err-chosen-in-If-clause-heard
run_step-returns-in_err-chosen-in-If-clause-heard g t c =
    let r = c.from_residual-in_err-chosen-in-If in
    let p = err_from_is_err_and r.result r.ensures.1 in
    rw (p.1, p.2)
    (if_refused_heard g.H.Listener.hears g.H.Listener.gives_up c.args.listener.now c.choice_on.new.listener c.args.self.now.program.now
    c.args.self.now.bound c.in-If.location c.args.s.now c.in-If.test c.in-If.then_part c.in-If.else_part c.args.active.now.items
    (state_in c.args.run.now c.args.team.now.items) c.in-If.is c.in_ok-all-in-If.ensures.heard)

pub run_step-returns-in_err-others-in-If-clause-heard : goal.run_step-returns-in_err-others-in-If-clause-heard
run_step-returns-in_err-others-in-If-clause-heard g t c =
    let r = c.from_residual-in_err-others-in-If in
    let p = err_from_is_err_and r.result r.ensures.1 in
    rw (p.1, p.2)
    (if_refused_heard g.H.Listener.hears g.H.Listener.gives_up c.args.listener.now c.choice_on.new.listener c.args.self.now.program.now
    c.args.self.now.bound c.in-If.location c.args.s.now c.in-If.test c.in-If.then_part c.in-If.else_part c.args.active.now.items
    (state_in c.args.run.now c.args.team.now.items) c.in-If.is c.in_ok-all-in-If.ensures.heard)

pub run_while_on-returns-in_err-current-clause-heard : goal.run_while_on-returns-in_err-current-clause-heard
run_while_on-returns-in_err-current-clause-heard g t c =
    let r = c.from_residual in
    let p = err_from_is_err_and r.result r.ensures.1 in
    let w = c.args.self.now.program.now in
    let n = c.args.self.now.bound in
    rw (p.1, p.2)
    (part_none g.H.Listener.hears g.H.Listener.gives_up g.met.H.Listener.hears_nothing c.args.listener.now
    (turns_on_moments (n + 1) (set_test_moment w n c.args.location (TurnsOn c.args.test.now) c.args.test.now)
    (tested_on w n c.args.location.line c.args.test.now) (inner_list_moments w n c.args.body.now.items)
    (perform_list_on w n c.args.body.now.items) c.args.active.now.items (state_in c.args.run.now c.args.team.now.items)))

pub run_while_on-returns-in_err-chosen-clause-heard : goal.run_while_on-returns-in_err-chosen-clause-heard
run_while_on-returns-in_err-chosen-clause-heard g t c =
    let r = c.from_residual-in_err-chosen in
    let p = err_from_is_err_and r.result r.ensures.1 in
    rw (p.1, p.2)
    (chosen_refused_heard g.H.Listener.hears g.H.Listener.gives_up c.args.self.now.program.now c.args.self.now.bound c.args.location
    c.args.test.now c.args.body.now.items c.args.active.now.items c.turns.current.items (state_in c.args.run.now c.args.team.now.items)
    (state_in c.turns.run c.turns.team.items) c.args.listener.now c.turns.listener c.test_on.new.listener c.turns.invariant.1
    c.in_ok-all.ensures.heard)

pub run_while_on-returns-in_err-all-clause-value : goal.run_while_on-returns-in_err-all-clause-value
run_while_on-returns-in_err-all-clause-value g t c =
    let r = c.from_residual-in_err-all in
    let p = err_from_is_err_and r.result r.ensures.1 in
    rw (p.1, p.2)
    (test_halts c.args.self.now.program.now c.args.self.now.bound c.args.location.line c.args.test.now c.args.body.now.items
    c.args.active.now.items c.turns.current.items (state_in c.args.run.now c.args.team.now.items)
    (state_in c.turns.run c.turns.team.items) (state_in c.test_on.new.run c.turns.team.items) _ c.turns.invariant.0
    c.in_err-all.ensures.value)

pub run_while_on-returns-then-is_empty-clause-value : goal.run_while_on-returns-then-is_empty-clause-value
run_while_on-returns-then-is_empty-clause-value g t c =
    let z : length c.in_ok-chosen.chosen.items ≡ 0 = grind (arith, common_steps) in
    turns_end c.args.self.now.program.now c.args.self.now.bound c.args.location.line c.args.test.now c.args.body.now.items
    c.args.active.now.items c.turns.current.items c.in_ok-chosen.chosen.items (state_in c.args.run.now c.args.team.now.items)
    (state_in c.turns.run c.turns.team.items) (state_in c.test_on.new.run c.turns.team.items) (map part_is c.in_ok-all.all.items)
    c.turns.invariant.0 c.in_ok-all.ensures.value c.in_ok-chosen.ensures z

pub run_block_on-returns-in_err-run_step-clause-heard : goal.run_block_on-returns-in_err-run_step-clause-heard
run_block_on-returns-in_err-run_step-clause-heard g t c =
    let r = c.from_residual in
    let p = err_from_is_err_and r.result r.ensures.1 in
    rw (p.1, p.2, sym c.deref-s-items.ensures.value)
    (heard_halts g.H.Listener.hears g.H.Listener.gives_up c.args.self.now.program.now c.args.self.now.bound c.deref-s-items.result.now
    c.args.active.now.items c.loop-s.s-index c.s-item.result (state_in c.args.run.now c.args.team.now.items)
    (state_in c.loop-s.run c.loop-s.team.items) (state_in c.run_step.new.run c.run_step.new.team.items) c.args.listener.now
    c.loop-s.listener c.run_step.new.listener _ c.loop-s.invariant.1 c.loop-s-test.true c.s-item.is c.in_err-run_step.ensures.value
    c.in_err-run_step.ensures.heard)

pub run_block_on-loop-s-preserved : goal.run_block_on-loop-s-preserved
run_block_on-loop-s-preserved g t c = (
  block_goes c.args.self.now.program.now c.args.self.now.bound c.deref-s-items.result.now c.args.active.now.items c.loop-s.s-index
      c.s-item.result (state_in c.args.run.now c.args.team.now.items) (state_in c.loop-s.run c.loop-s.team.items)
      (state_in c.run_step.new.run c.run_step.new.team.items) c.loop-s.invariant.0 c.loop-s-test.true c.s-item.is
      c.in_ok-run_step.ensures.value c.in_ok-run_step.ensures.grows,
  heard_goes g.H.Listener.hears g.H.Listener.gives_up g.met.H.Listener.hears_on c.args.self.now.program.now c.args.self.now.bound
      c.deref-s-items.result.now c.args.active.now.items c.loop-s.s-index c.s-item.result (state_in c.args.run.now c.args.team.now.items)
      (state_in c.loop-s.run c.loop-s.team.items) (state_in c.run_step.new.run c.run_step.new.team.items) c.args.listener.now
      c.loop-s.listener c.run_step.new.listener c.loop-s.invariant.1 c.loop-s-test.true c.s-item.is c.in_ok-run_step.ensures.value
      c.in_ok-run_step.ensures.heard,
)

pub run_step-returns-in-While-clause-value : goal.run_step-returns-in-While-clause-value
run_step-returns-in-While-clause-value g t c =
    while_arm c.args.self.now.program.now c.args.self.now.bound c.in-While.location c.args.s.now c.in-While.test c.in-While.body
    c.args.active.now.items (state_in c.args.run.now c.args.team.now.items) (state_in c.run_while_on.new.run c.run_while_on.new.team.items)
    c.run_while_on.result c.in-While.is c.run_while_on.ensures.value

pub run_step-returns-in-While-clause-heard : goal.run_step-returns-in-While-clause-heard
run_step-returns-in-While-clause-heard g t c =
    while_heard g.H.Listener.hears g.H.Listener.gives_up c.args.listener.now c.run_while_on.new.listener c.args.self.now.program.now
    c.args.self.now.bound c.in-While.location c.args.s.now c.in-While.test c.in-While.body c.args.active.now.items
    (state_in c.args.run.now c.args.team.now.items) c.run_while_on.result c.in-While.is c.run_while_on.ensures.heard

pub run_while_on-turns-init : goal.run_while_on-turns-init
run_while_on-turns-init g t c =
    let same = c.in_ok-current.ensures.items ∙ c.deref.ensures.value in (
      turns_start c.args.self.now.program.now c.args.self.now.bound c.args.location.line c.args.test.now c.args.body.now.items
          c.args.active.now.items c.in_ok-current.current.items (state_in c.args.run.now c.args.team.now.items) same,
      heard_start g.H.Listener.hears g.H.Listener.gives_up c.args.self.now.program.now c.args.self.now.bound c.args.location
          c.args.test.now c.args.body.now.items c.args.active.now.items c.in_ok-current.current.items
          (state_in c.args.run.now c.args.team.now.items) c.args.listener.now same,
    )
