use Rattle.std.proofs.Common.{◌+◌, ◌++◌, ◌∷◌, Some, None, [], refl, sym, ap, ◌∙◌, subst, drop}
use Rattle.pram_names.specs.Breaches.{outside_of, statement_breaches, block_breaches, else_breaches, first}
use Rattle.pram_names.specs.Resolved as says
use Rattle.pram_names.proofs.Judging.{exit, first_front, first_behind}
use Rattle.pram_names.proofs.Judging.{to_front, to_back, none_in}
use Rattle.pram_check.proofs.Parts.{print_parts, while_parts, if_parts, for_parts, block_more, block_at}
use Rattle.pram_check.proofs.Statements.{said_print, said_while, said_if, said_for, statements_more, leads_bounds, leads_inner, none_for}
use Rattle.pram_check.proofs.statement.+statement.Goals as goal

pub statement-returns-in_err-item-in-Print-clause-is : goal.statement-returns-in_err-item-in-Print-clause-is
statement-returns-in_err-item-in-Print-clause-is t c =
    let k = outside_of c.args.scope.now c.args.loops.now in
    exit _ _ _ c.from_residual.result _ c.from_residual.ensures.1 c.in_err-item-in-Print.ensures
    (λ b h. ap first (print_parts k c.args.statement.now c.in-Print.location c.in-Print.e c.in-Print.is) ∙ h)

pub statement-returns-in_err-test-in-While-clause-is : goal.statement-returns-in_err-test-in-While-clause-is
statement-returns-in_err-test-in-While-clause-is t c =
    let k = outside_of c.args.scope.now c.args.loops.now in
    exit _ _ _ c.from_residual-in_err-test-in-While.result _ c.from_residual-in_err-test-in-While.ensures.1 c.in_err-test-in-While.ensures
    (to_front _ _ _ (while_parts k c.args.statement.now c.in-While.location c.in-While.test c.in-While.body c.in-While.body c.in-While.is
    refl))

pub statement-returns-in_err-body-in-While-clause-is : goal.statement-returns-in_err-body-in-While-clause-is
statement-returns-in_err-body-in-While-clause-is t c =
    let k = outside_of c.args.scope.now c.args.loops.now in
    exit _ _ _ c.from_residual-in_err-body-in-While.result _ c.from_residual-in_err-body-in-While.ensures.1
    c.in_err-body-in-While.ensures.is
    (to_back _ _ _ (while_parts k c.args.statement.now c.in-While.location c.in-While.test c.in-While.body c.as_slice.result.now
    c.in-While.is c.as_slice.ensures)
    c.in_ok-test-in-While.ensures.0)

pub statement-returns-in_err-test-in-If-clause-is : goal.statement-returns-in_err-test-in-If-clause-is
statement-returns-in_err-test-in-If-clause-is t c =
    let k = outside_of c.args.scope.now c.args.loops.now in
    exit _ _ _ c.from_residual-in_err-test-in-If.result _ c.from_residual-in_err-test-in-If.ensures.1 c.in_err-test-in-If.ensures
    (to_front _ _ _ (if_parts k c.args.statement.now c.in-If.location c.in-If.test c.in-If.then_part c.in-If.then_part c.in-If.else_part
    c.in-If.else_part c.in-If.is refl refl))

pub statement-returns-in_err-then_part-in-If-clause-is : goal.statement-returns-in_err-then_part-in-If-clause-is
statement-returns-in_err-then_part-in-If-clause-is t c =
    let k = outside_of c.args.scope.now c.args.loops.now in
    let given = c.as_slice-in-If.result.now in
    let parts = if_parts k c.args.statement.now c.in-If.location c.in-If.test c.in-If.then_part given c.in-If.else_part c.in-If.else_part
    c.in-If.is c.as_slice-in-If.ensures refl in
    exit _ _ _ c.from_residual-in_err-then_part-in-If.result _ c.from_residual-in_err-then_part-in-If.ensures.1
    c.in_err-then_part-in-If.ensures.is
    (λ b h. to_back _ _ _ parts c.in_ok-test-in-If.ensures.0 b (first_front (block_breaches given k) (else_breaches c.in-If.else_part k) b
    h))

pub statement-returns-in_err-other-in-Some-clause-is : goal.statement-returns-in_err-other-in-Some-clause-is
statement-returns-in_err-other-in-Some-clause-is t c =
    let k = outside_of c.args.scope.now c.args.loops.now in
    let given = c.as_slice-in-If.result.now in
    let other = c.as_slice-in-Some.result.now in
    let one = c.in_ok-then_part-in-If.ensures in
    let parts = if_parts k c.args.statement.now c.in-If.location c.in-If.test c.in-If.then_part given c.in-If.else_part (Some other)
    c.in-If.is c.as_slice-in-If.ensures
    (ap Some c.as_slice-in-Some.ensures ∙ sym c.in-Some.is) in
    exit _ _ _ c.from_residual-in_err-other-in-Some.result _ c.from_residual-in_err-other-in-Some.ensures.1
    c.in_err-other-in-Some.ensures.is
    (λ b h. to_back _ _ _ parts c.in_ok-test-in-If.ensures.0 b
    (first_behind (block_breaches given k) (block_breaches other k) one.is.0
    ∙ (ap (λ s. first (block_breaches other (outside_of s c.args.loops.now))) (sym one.scope) ∙ h)))

pub statement-returns-in_err-variable-in-For-clause-is : goal.statement-returns-in_err-variable-in-For-clause-is
statement-returns-in_err-variable-in-For-clause-is t c =
    let k = outside_of c.args.scope.now c.args.loops.now in
    exit _ _ _ c.from_residual-in_err-variable-in-For.result _ c.from_residual-in_err-variable-in-For.ensures.1
    c.in_err-variable-in-For.ensures
    (to_front _ _ _ (for_parts k c.args.statement.now c.in-For.location c.in-For.x c.in-For.low c.in-For.high c.in-For.body c.in-For.body
    c.in-For.is refl))

pub statement-returns-in_err-low-in-For-clause-is : goal.statement-returns-in_err-low-in-For-clause-is
statement-returns-in_err-low-in-For-clause-is t c =
    let k = outside_of c.args.scope.now c.args.loops.now in
    let variable = c.in_ok-variable-in-For.ensures in
    exit _ _ _ c.from_residual-in_err-low-in-For.result _ c.from_residual-in_err-low-in-For.ensures.1 c.in_err-low-in-For.ensures
    (leads_bounds c.args.scope.now c.args.loops.now _ c.args.statement.now c.in-For.location c.in-For.x c.in-For.low c.in-For.high
    c.in-For.body c.in-For.body c.in-For.is refl
    _ variable.1 refl variable.0)

pub statement-returns-in_err-body-in-For-clause-is : goal.statement-returns-in_err-body-in-For-clause-is
statement-returns-in_err-body-in-For-clause-is t c =
    let k = outside_of c.args.scope.now c.args.loops.now in
    let variable = c.in_ok-variable-in-For.ensures in
    let bounds = c.in_ok-low-in-For.ensures in
    let grown = c.as_slice-in-For.ensures.value
    ∙ (c.in_ok-push-in-For.ensures.items ∙ ap (λ l. l ++ c.in_ok-variable-in-For.variable ∷ []) c.in_ok-inner-in-For.ensures.items) in
    exit _ _ _ c.from_residual-in_err-body-in-For.result _ c.from_residual-in_err-body-in-For.ensures.1 c.in_err-body-in-For.ensures.is
    (leads_inner c.args.scope.now c.args.loops.now c.as_slice-in-For.result.now c.args.statement.now c.in-For.location c.in-For.x
    c.in-For.low c.in-For.high c.in-For.body c.as_slice-in-For-2.result.now c.in-For.is c.as_slice-in-For-2.ensures
    c.in_ok-variable-in-For.variable variable.1 grown variable.0 bounds.0)

pub statement-returns-in_ok-item-in-Print-clause-is : goal.statement-returns-in_ok-item-in-Print-clause-is
statement-returns-in_ok-item-in-Print-clause-is t c =
    let k = outside_of c.args.scope.now c.args.loops.now in
    let one = c.in_ok-item-in-Print.ensures in (
      ap first (print_parts k c.args.statement.now c.in-Print.location c.in-Print.e c.in-Print.is) ∙ one.0,
      said_print c.args.scope.now c.args.statement.now c.in-Print.location c.in-Print.e _ c.in-Print.is one.1,
    )

pub statement-returns-in_ok-body-in-While-clause-is : goal.statement-returns-in_ok-body-in-While-clause-is
statement-returns-in_ok-body-in-While-clause-is t c =
    let k = outside_of c.args.scope.now c.args.loops.now in
    let one = c.in_ok-test-in-While.ensures in
    let two = c.in_ok-body-in-While.ensures.is in (
      none_in _ _ _ (while_parts k c.args.statement.now c.in-While.location c.in-While.test c.in-While.body c.as_slice.result.now
          c.in-While.is c.as_slice.ensures) one.0 two.0,
      said_while c.args.scope.now c.args.statement.now c.in-While.location c.in-While.test c.in-While.body c.as_slice.result.now _ _
          c.in-While.is c.as_slice.ensures one.1 two.1,
    )

pub statement-returns-in-None-clause-is : goal.statement-returns-in-None-clause-is
statement-returns-in-None-clause-is t c =
    let k = outside_of c.args.scope.now c.args.loops.now in
    let given = c.as_slice-in-If.result.now in
    let one = c.in_ok-test-in-If.ensures in
    let two = c.in_ok-then_part-in-If.ensures.is in
    let same = sym c.in-None.is in (
      none_in _ _ _ (if_parts k c.args.statement.now c.in-If.location c.in-If.test c.in-If.then_part given c.in-If.else_part None c.in-If.is
          c.as_slice-in-If.ensures same)
          one.0 (first_behind (block_breaches given k) [] two.0),
      said_if c.args.scope.now c.args.statement.now c.in-If.location c.in-If.test c.in-If.then_part given c.in-If.else_part None _ _
          c.new.result c.in-If.is c.as_slice-in-If.ensures same
          one.1 two.1 (subst (λ l. says.SayOther c.args.scope.now None l) (sym c.new.ensures.items) says.missing),
    )

pub statement-returns-in_ok-other-in-Some-clause-is : goal.statement-returns-in_ok-other-in-Some-clause-is
statement-returns-in_ok-other-in-Some-clause-is t c =
    let k = outside_of c.args.scope.now c.args.loops.now in
    let given = c.as_slice-in-If.result.now in
    let other = c.as_slice-in-Some.result.now in
    let one = c.in_ok-test-in-If.ensures in
    let two = c.in_ok-then_part-in-If.ensures in
    let three = c.in_ok-other-in-Some.ensures.is in
    let same = ap Some c.as_slice-in-Some.ensures ∙ sym c.in-Some.is in (
      none_in _ _ _ (if_parts k c.args.statement.now c.in-If.location c.in-If.test c.in-If.then_part given c.in-If.else_part (Some other)
          c.in-If.is c.as_slice-in-If.ensures same)
          one.0 (first_behind (block_breaches given k) (block_breaches other k) two.is.0
          ∙ (ap (λ s. first (block_breaches other (outside_of s c.args.loops.now))) (sym two.scope) ∙ three.0)),
      said_if c.args.scope.now c.args.statement.now c.in-If.location c.in-If.test c.in-If.then_part given c.in-If.else_part (Some other) _ _
          _ c.in-If.is c.as_slice-in-If.ensures same
          one.1 two.is.1 (says.present _ _ (subst (λ s. says.SayStatements s other c.in_ok-other-in-Some.other.items) two.scope three.1)),
    )

pub statement-returns-in_ok-body-in-For-clause-is : goal.statement-returns-in_ok-body-in-For-clause-is
statement-returns-in_ok-body-in-For-clause-is t c =
    let k = outside_of c.args.scope.now c.args.loops.now in
    let variable = c.in_ok-variable-in-For.ensures in
    let bounds = c.in_ok-low-in-For.ensures in
    let grown = c.as_slice-in-For.ensures.value
    ∙ (c.in_ok-push-in-For.ensures.items ∙ ap (λ l. l ++ c.in_ok-variable-in-For.variable ∷ []) c.in_ok-inner-in-For.ensures.items) in
    let inside = c.in_ok-body-in-For.ensures.is in (
      none_for c.args.scope.now c.args.loops.now c.as_slice-in-For.result.now c.args.statement.now c.in-For.location c.in-For.x c.in-For.low
          c.in-For.high c.in-For.body c.as_slice-in-For-2.result.now c.in-For.is c.as_slice-in-For-2.ensures
          c.in_ok-variable-in-For.variable variable.1 grown variable.0 bounds.0 inside.0,
      said_for c.args.scope.now c.args.statement.now c.in-For.location c.in-For.x c.in-For.low c.in-For.high c.in-For.body
          c.as_slice-in-For-2.result.now _ _ _ _ c.in-For.is c.as_slice-in-For-2.ensures
          variable.1 bounds.1.0 bounds.1.1 inside.1,
    )

pub statements-returns-in_err-statement-clause-is : goal.statements-returns-in_err-statement-clause-is
statements-returns-in_err-statement-clause-is t c =
    let k = outside_of c.args.scope.now c.args.loops.now in
    let xs = c.args.body.now in
    let i = c.loop-x.x-index in
    let d = c.x-item.result in
    let so_far = c.loop-x.invariant in
    exit _ _ _ c.from_residual.result _ c.from_residual.ensures.1 c.in_err-statement.ensures.is
    (λ b h. to_back _ _ _ (block_at xs i d k c.loop-x-test.true c.x-item.is) so_far.none b
    (first_front (statement_breaches d k) (block_breaches (drop (i + 1) xs) k) b
    (ap (λ s. first (statement_breaches d (outside_of s c.args.loops.now))) (sym so_far.scope) ∙ h)))

pub statements-loop-x-init : goal.statements-loop-x-init
statements-loop-x-init t c =
    let k = outside_of c.args.scope.now c.args.loops.now in
    record {
      scope = refl;
      says = subst (λ l. says.SayStatements c.args.scope.now [] l) (sym c.new-found.ensures.items) says.none;
      none = refl;
    }

pub statements-loop-x-preserved : goal.statements-loop-x-preserved
statements-loop-x-preserved t c =
    let k = outside_of c.args.scope.now c.args.loops.now in
    let xs = c.args.body.now in
    let i = c.loop-x.x-index in
    let d = c.x-item.result in
    let so_far = c.loop-x.invariant in
    let one = c.in_ok-statement.ensures in
    record {
      scope = one.scope ∙ so_far.scope;
      says = statements_more c.args.scope.now xs i d _ _ _ c.loop-x-test.true c.x-item.is c.in_ok-push.ensures.items so_far.says
          (subst (λ s. says.SaysStatement s d c.in_ok-statement.field-0) so_far.scope one.is.1);
      none = none_in _ _ _ (block_more xs i d k c.loop-x-test.true c.x-item.is) so_far.none
          (ap (λ s. first (statement_breaches d (outside_of s c.args.loops.now))) (sym so_far.scope) ∙ one.is.0);
    }
