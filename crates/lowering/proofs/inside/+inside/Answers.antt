use Rattle.std.proofs.Common.{rules}
use Rattle.pram_names.specs.declared.body.Step.{the_lemmas}
use Rattle.plain_form.specs.Formulas.{formula_of}
use Rattle.plain_form.specs.Shapes.{still}
use Rattle.plain_form.specs.Inside.{steps_code, steps_left}
use Rattle.lowering.specs.Parts.{frame, sent_steps}
use Rattle.straight_lowering.specs.Straight.{flags}
use Rattle.lowering.proofs.Filling.{looped_is, sent_part, on_ok}
use Rattle.lowering.proofs.StepParts.{steps_more, while_is, if_is}
use Rattle.lowering.proofs.StepsShort.{room_of_each, while_room, if_room, while_short, then_short, else_short, each_short}
use Rattle.lowering.proofs.inside.+inside.Goals as goal

-- ---- what is asked for

pub step-step_while-requires : goal.step-step_while-requires
step-step_while-requires t c =
    let here = c.in-While.location in let s = c.args.s.now in let e = c.in-While.test in let body = c.in-While.body in
    let room = while_room c.args.base here s e body c.in-While.is c.requires.room in (
      search (rules, the_lemmas),
      (
        room.0,
        (
          room.1,
          (
            room.2,
            while_short c.args.vote c.args.base here s e body c.args.out.now c.in-While.is c.requires.short,
          ),
        ),
      ),
    )

pub step-steps-requires : goal.step-steps-requires
step-steps-requires t c =
    let here = c.in-If.location in let s = c.args.s.now in let e = c.in-If.test in let a = c.in-If.then_part in let b = c.in-If.else_part in
    let room = if_room c.args.base here s e a b c.in-If.is c.requires.room in (
      search (rules, the_lemmas),
      (
        room.1,
        then_short c.args.vote c.args.base here s e a b c.args.out.now c.masked.new.out c.in-If.is c.in_ok-masked-in-If.ensures
            c.requires.short,
      ),
    )

pub step-step_else-requires : goal.step-step_else-requires
step-step_else-requires t c =
    let here = c.in-If.location in let s = c.args.s.now in let e = c.in-If.test in let a = c.in-If.then_part in let b = c.in-If.else_part in
    let room = if_room c.args.base here s e a b c.in-If.is c.requires.room in (
      search (rules, the_lemmas),
      (
        room.2,
        else_short c.args.vote c.args.base here s e a b c.args.out.now c.masked.new.out c.steps.new.out c.in-If.is
            c.in_ok-masked-in-If.ensures
            c.in_ok-steps-in-If.ensures c.requires.short,
      ),
    )

pub steps-step-requires : goal.steps-step-requires
steps-step-requires t c =
    let items = c.deref-s-items.result.now in let all = c.args.body.now.items in let same = c.deref-s-items.ensures.value in
    let i = c.loop-s.s-index in let s = c.s-item.result in let here = c.loop-s-test.true in (
      search (rules, the_lemmas),
      (
        room_of_each c.args.base items all i s same here c.s-item.is c.requires.room,
        each_short c.args.vote c.args.base items all i s c.args.out.now c.loop-s.out same c.loop-s.invariant here c.s-item.is
            c.requires.short,
      ),
    )

-- ---- what is answered

pub step-returns-in-While : goal.step-returns-in-While
step-returns-in-While t c =
    on_ok c.step_while.result (λ h. while_is c.args.vote c.args.base c.in-While.location c.args.s.now c.in-While.test c.in-While.body
    c.args.out.now c.step_while.new.out c.in-While.is h) c.step_while.ensures

pub step-returns-in_ok-step_else-in-If : goal.step-returns-in_ok-step_else-in-If
step-returns-in_ok-step_else-in-If t c =
    on_ok c.push.result (λ h. if_is c.args.vote c.args.base c.in-If.location c.args.s.now c.in-If.test c.in-If.then_part c.in-If.else_part
    c.args.out.now c.masked.new.out c.steps.new.out c.step_else.new.out c.push.new.self c.in-If.is c.in_ok-masked-in-If.ensures
    c.in_ok-steps-in-If.ensures c.in_ok-step_else-in-If.ensures h) c.push.ensures

pub step_turns-returns : goal.step_turns-returns
step_turns-returns t c =
    let f = formula_of c.args.test.now in
    let h = still c.args.out.now.held f in
    looped_is (flags c.args.out.now.held c.args.line c.args.vote c.args.flag c.args.base f) h
    (λ start h. sent_steps c.args.vote c.args.base h c.args.body.now.items start) c.args.vote c.args.out.now c.flags.new.out c.gap.new.self
    c.flush.new.self c.push.new.self c.fill.new.self _ _ _ c.place-head.ensures c.in_ok-flags.ensures c.in_ok-exit.ensures.place
    c.in_ok-exit.ensures.added
    (sent_part (λ n h. steps_code (frame c.args.vote) c.args.base n h c.args.body.now.items) (λ h. steps_left h c.args.body.now.items)
    c.gap.new.self c.steps.new.out c.flush.new.self c.in_ok-steps.ensures c.in_ok-flush.ensures)
    c.in_ok-push.ensures c.place-target.ensures c.fill.ensures

pub steps-loop-s-preserved : goal.steps-loop-s-preserved
steps-loop-s-preserved t c =
    steps_more c.args.vote c.args.base c.deref-s-items.result.now c.loop-s.s-index c.s-item.result c.args.out.now c.loop-s.out
    c.step.new.out c.loop-s.invariant c.loop-s-test.true c.s-item.is c.in_ok-step.ensures
