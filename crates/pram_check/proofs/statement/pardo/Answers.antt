use Rattle.pram_names.proofs.Judging.{exit}
use Rattle.pram_names.proofs.Judging.{to_front}
use Rattle.pram_check.proofs.PardoParts.{pardo_whole, leads_names, leads_body, good_pardo}
use Rattle.pram_check.proofs.statement.pardo.Goals as goal

pub returns-in_err-first-clause-is : goal.returns-in_err-first-clause-is
returns-in_err-first-clause-is c =
    exit _ _ _ c.from_residual.result _ c.from_residual.ensures.1 c.in_err-first.ensures.is
    (to_front _ _ _ (pardo_whole c.args.scope.now c.args.loops.now c.args.location c.args.low.now c.args.index.now c.args.high.now
    c.args.locals.now c.args.body.now))

pub returns-in_err-declare_locals-clause-is : goal.returns-in_err-declare_locals-clause-is
returns-in_err-declare_locals-clause-is c =
    let range = c.in_ok-first.ensures in
    exit _ _ _ c.from_residual-in_err-declare_locals.result _ c.from_residual-in_err-declare_locals.ensures.1
    c.in_err-declare_locals.ensures
    (leads_names c.args.scope.now c.args.loops.now c.args.location c.args.low.now c.args.index.now c.args.high.now c.args.locals.now
    c.args.body.now _ range.scope range.is.0)

pub returns-in_err-steps-clause-is : goal.returns-in_err-steps-clause-is
returns-in_err-steps-clause-is c =
    let range = c.in_ok-first.ensures in
    let names = c.in_ok-declare_locals.ensures in
    exit _ _ _ c.from_residual-in_err-steps.result _ c.from_residual-in_err-steps.ensures.1 c.in_err-steps.ensures
    (leads_body c.args.scope.now c.args.loops.now c.args.location c.args.low.now c.args.index.now c.args.high.now c.args.locals.now
    c.args.body.now _ range.scope range.is.0 _ names.1 names.0)

pub returns-clause-is : goal.returns-clause-is
returns-clause-is c =
    let range = c.in_ok-first.ensures in
    let names = c.in_ok-declare_locals.ensures in
    let steps = c.in_ok-steps.ensures in
    good_pardo c.args.scope.now c.args.loops.now c.args.location c.args.low.now c.args.index.now c.args.high.now c.args.locals.now
    c.args.body.now _ range.scope range.is.0 _ names.1 names.0
    _ _ _ range.is.1.0 range.is.1.1 steps.0 steps.1
