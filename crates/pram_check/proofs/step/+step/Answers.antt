use Rattle.std.proofs.Common.{◌+◌, Some, None, [], refl, sym, ap, ◌∙◌, subst, drop}
use Rattle.pram_names.specs.Breaches.{inside_of, statement_breaches, block_breaches, else_breaches}
use Rattle.pram_names.specs.Resolved.{SaySteps}
use Rattle.pram_names.specs.Resolved as says
use Rattle.pram_names.proofs.Judging.{exit, refused, first_front, first_behind}
use Rattle.pram_names.proofs.Judging.{to_front, to_back, none_in}
use Rattle.pram_check.proofs.Parts.{print_parts, while_parts, if_parts, for_parts, pardo_parts, block_more}
use Rattle.pram_check.proofs.Parts.{block_at}
use Rattle.pram_check.proofs.Steps.{said_while, said_if, steps_more}
use Rattle.pram_check.proofs.step.+step.Goals as goal

pub step-returns-in_err-test-in-While : goal.step-returns-in_err-test-in-While
step-returns-in_err-test-in-While t c =
    exit _ _ _ c.from_residual.result _ c.from_residual.ensures.1 c.in_err-test-in-While.ensures
    (to_front _ _ _ (while_parts (inside_of c.args.scope.now) c.args.statement.now c.in-While.location c.in-While.test c.in-While.body
    c.in-While.body c.in-While.is refl))

pub step-returns-in_err-body-in-While : goal.step-returns-in_err-body-in-While
step-returns-in_err-body-in-While t c =
    exit _ _ _ c.from_residual-in_err-body-in-While.result _ c.from_residual-in_err-body-in-While.ensures.1 c.in_err-body-in-While.ensures
    (to_back _ _ _ (while_parts (inside_of c.args.scope.now) c.args.statement.now c.in-While.location c.in-While.test c.in-While.body
    c.as_slice.result.now c.in-While.is c.as_slice.ensures)
    c.in_ok-test-in-While.ensures.0)

pub step-returns-in_err-test-in-If : goal.step-returns-in_err-test-in-If
step-returns-in_err-test-in-If t c =
    exit _ _ _ c.from_residual-in_err-test-in-If.result _ c.from_residual-in_err-test-in-If.ensures.1 c.in_err-test-in-If.ensures
    (to_front _ _ _ (if_parts (inside_of c.args.scope.now) c.args.statement.now c.in-If.location c.in-If.test c.in-If.then_part
    c.in-If.then_part c.in-If.else_part c.in-If.else_part c.in-If.is refl refl))

pub step-returns-in_err-then_part-in-If : goal.step-returns-in_err-then_part-in-If
step-returns-in_err-then_part-in-If t c =
    let k = inside_of c.args.scope.now in
    let given = c.as_slice-in-If.result.now in
    exit _ _ _ c.from_residual-in_err-then_part-in-If.result _ c.from_residual-in_err-then_part-in-If.ensures.1
    c.in_err-then_part-in-If.ensures
    (λ b h. to_back _ _ _ (if_parts k c.args.statement.now c.in-If.location c.in-If.test c.in-If.then_part given c.in-If.else_part
    c.in-If.else_part c.in-If.is c.as_slice-in-If.ensures refl)
    c.in_ok-test-in-If.ensures.0 b (first_front (block_breaches given k) (else_breaches c.in-If.else_part k) b h))

pub step-returns-in_err-other-in-Some : goal.step-returns-in_err-other-in-Some
step-returns-in_err-other-in-Some t c =
    let k = inside_of c.args.scope.now in
    let given = c.as_slice-in-If.result.now in
    let other = c.as_slice-in-Some.result.now in
    exit _ _ _ c.from_residual-in_err-other-in-Some.result _ c.from_residual-in_err-other-in-Some.ensures.1 c.in_err-other-in-Some.ensures
    (λ b h. to_back _ _ _ (if_parts k c.args.statement.now c.in-If.location c.in-If.test c.in-If.then_part given c.in-If.else_part
    (Some other) c.in-If.is c.as_slice-in-If.ensures
    (ap Some c.as_slice-in-Some.ensures ∙ sym c.in-Some.is))
    c.in_ok-test-in-If.ensures.0 b (first_behind (block_breaches given k) (block_breaches other k) c.in_ok-then_part-in-If.ensures.0 ∙ h))

pub step-returns-in-Print : goal.step-returns-in-Print
step-returns-in-Print t c = refused _ c.in-Print.location _ c.breach.result (print_parts (inside_of c.args.scope.now) c.args.statement.now
    c.in-Print.location c.in-Print.value c.in-Print.is) c.breach.ensures

pub step-returns-in_ok-body-in-While : goal.step-returns-in_ok-body-in-While
step-returns-in_ok-body-in-While t c =
    let one = c.in_ok-test-in-While.ensures in
    let two = c.in_ok-body-in-While.ensures in (
      none_in _ _ _ (while_parts (inside_of c.args.scope.now) c.args.statement.now c.in-While.location c.in-While.test c.in-While.body
          c.as_slice.result.now c.in-While.is c.as_slice.ensures) one.0 two.0,
      said_while c.args.scope.now c.args.statement.now c.in-While.location c.in-While.test c.in-While.body c.as_slice.result.now _ _
          c.in-While.is c.as_slice.ensures one.1 two.1,
    )

pub step-returns-in-None : goal.step-returns-in-None
step-returns-in-None t c =
    let k = inside_of c.args.scope.now in
    let given = c.as_slice-in-If.result.now in
    let one = c.in_ok-test-in-If.ensures in
    let two = c.in_ok-then_part-in-If.ensures in
    let same = sym c.in-None.is in (
      none_in _ _ _ (if_parts k c.args.statement.now c.in-If.location c.in-If.test c.in-If.then_part given c.in-If.else_part None c.in-If.is
          c.as_slice-in-If.ensures same)
          one.0 (first_behind (block_breaches given k) [] two.0),
      said_if c.args.scope.now c.args.statement.now c.in-If.location c.in-If.test c.in-If.then_part given c.in-If.else_part None _ _
          c.new.result c.in-If.is c.as_slice-in-If.ensures same
          one.1 two.1 (subst (λ l. says.SayElse c.args.scope.now None l) (sym c.new.ensures.items) says.missing),
    )

pub step-returns-in_ok-other-in-Some : goal.step-returns-in_ok-other-in-Some
step-returns-in_ok-other-in-Some t c =
    let k = inside_of c.args.scope.now in
    let given = c.as_slice-in-If.result.now in
    let other = c.as_slice-in-Some.result.now in
    let one = c.in_ok-test-in-If.ensures in
    let two = c.in_ok-then_part-in-If.ensures in
    let three = c.in_ok-other-in-Some.ensures in
    let same = ap Some c.as_slice-in-Some.ensures ∙ sym c.in-Some.is in (
      none_in _ _ _ (if_parts k c.args.statement.now c.in-If.location c.in-If.test c.in-If.then_part given c.in-If.else_part (Some other)
          c.in-If.is c.as_slice-in-If.ensures same)
          one.0 (first_behind (block_breaches given k) (block_breaches other k) two.0 ∙ three.0),
      said_if c.args.scope.now c.args.statement.now c.in-If.location c.in-If.test c.in-If.then_part given c.in-If.else_part (Some other) _ _
          _ c.in-If.is c.as_slice-in-If.ensures same
          one.1 two.1 (says.present _ _ three.1),
    )

pub step-returns-in-For : goal.step-returns-in-For
step-returns-in-For t c =
    refused _ c.in-For.location _ c.breach-in-For.result
    (for_parts (inside_of c.args.scope.now) c.args.statement.now c.in-For.location c.in-For.variable c.in-For.low c.in-For.high
    c.in-For.body c.in-For.body c.in-For.is refl) c.breach-in-For.ensures

pub step-returns-in-Pardo : goal.step-returns-in-Pardo
step-returns-in-Pardo t c =
    refused _ c.in-Pardo.location _ c.breach-in-Pardo.result
    (pardo_parts (inside_of c.args.scope.now) c.args.statement.now c.in-Pardo.location c.in-Pardo.low c.in-Pardo.index c.in-Pardo.high
    c.in-Pardo.locals c.in-Pardo.locals c.in-Pardo.body c.in-Pardo.body
    c.in-Pardo.is refl refl) c.breach-in-Pardo.ensures

pub steps-loop-statement-init : goal.steps-loop-statement-init
steps-loop-statement-init t c = record {
  says = subst (λ l. SaySteps c.args.scope.now [] l) (sym c.new-found.ensures.items) says.none;
  none = refl;
}

pub steps-returns-in_err-step : goal.steps-returns-in_err-step
steps-returns-in_err-step t c =
    let k = inside_of c.args.scope.now in
    let xs = c.args.body.now in
    let i = c.loop-statement.statement-index in
    let d = c.statement-item.result in
    exit _ _ _ c.from_residual.result _ c.from_residual.ensures.1 c.in_err-step.ensures
    (λ b h. to_back _ _ _ (block_at xs i d k c.loop-statement-test.true c.statement-item.is) c.loop-statement.invariant.none b
    (first_front (statement_breaches d k) (block_breaches (drop (i + 1) xs) k) b h))

pub steps-loop-statement-preserved : goal.steps-loop-statement-preserved
steps-loop-statement-preserved t c =
    let k = inside_of c.args.scope.now in
    let xs = c.args.body.now in
    let i = c.loop-statement.statement-index in
    let d = c.statement-item.result in
    let so_far = c.loop-statement.invariant in
    record {
      says = steps_more c.args.scope.now xs i d _ _ _ c.loop-statement-test.true c.statement-item.is c.in_ok-push.ensures.items so_far.says
          c.in_ok-step.ensures.1;
      none = none_in _ _ _ (block_more xs i d k c.loop-statement-test.true c.statement-item.is) so_far.none c.in_ok-step.ensures.0;
    }
