use Rattle.pram_names.specs.Breaches.{uses}
use Rattle.pram_names.proofs.Judging.{exit, leads_front, leads_behind, fine_append}
use Rattle.pram_names.proofs.values_of.values.Goals as goal

pub returns-in_err-first : goal.returns-in_err-first
returns-in_err-first c =
    exit _ _ _ c.from_residual.result _ c.from_residual.ensures.1 c.in_err-first.ensures.is
    (leads_front c.args.scope.now 0 (uses c.args.e.now) (uses c.args.f.now))

pub returns-in_err-second : goal.returns-in_err-second
returns-in_err-second c =
    let one = c.in_ok-first.ensures.is in
    exit _ _ _ c.from_residual-in_err-second.result _ c.from_residual-in_err-second.ensures.1 c.in_err-second.ensures.is
    (leads_behind c.args.scope.now 0 c.expression.new.reads (uses c.args.e.now) (uses c.args.f.now) (one.0, one.1.1))

pub returns : goal.returns
returns c =
    let one = c.in_ok-first.ensures.is in
    let two = c.in_ok-second.ensures.is in
    let fine = fine_append c.args.scope.now 0 _ _ (uses c.args.e.now) (uses c.args.f.now) (one.0, one.1.1) (two.0, two.1.1) in
    (fine.0, (one.1.0, two.1.0))
