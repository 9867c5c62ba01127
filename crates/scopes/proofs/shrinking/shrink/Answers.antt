use Rattle.std.proofs.Common.{Ok, ap}
use Rattle.scopes.specs.Wrong.{goes_wrong}
use Rattle.scopes.proofs.Nearer.{first_nearer, leads_further, leads_there}
use Rattle.scopes.proofs.shrinking.shrink.Goals as goal

pub loop-smaller : goal.loop-smaller
loop-smaller c =
    let wanted = goes_wrong c.args.scope c.args.specification.now c.args.program.now c.args.bound c.args.wrong in
    first_nearer wanted c.loop.input c.shrink_once.new.input (c.in_ok-shrink_once.ensures.shrinks (ap Ok c.if-branch.true))

pub loop-preserved : goal.loop-preserved
loop-preserved c =
    let wanted = goes_wrong c.args.scope c.args.specification.now c.args.program.now c.args.bound c.args.wrong in
    leads_further wanted c.args.input.now c.loop.input c.shrink_once.new.input c.loop.invariant
    (c.in_ok-shrink_once.ensures.shrinks (ap Ok c.if-branch.true))

pub returns : goal.returns
returns c =
    let wanted = goes_wrong c.args.scope c.args.specification.now c.args.program.now c.args.bound c.args.wrong in
    let stays = c.in_ok-shrink_once.ensures.stays (ap Ok c.if-branch.false) in
    leads_there wanted c.args.input.now c.loop.input c.shrink_once.new.input c.loop.invariant stays.0 stays.1
