use Rattle.std.proofs.Common.{refl}
use Rattle.costs.proofs.Rows.{ledger_entered}
use Rattle.costs.proofs.ledger.Ledger.enter.Goals as goal

pub returns : goal.returns
returns c =
    ledger_entered c.args.schedule c.args.step.now c.args.self.now c.make_row.new.self c.add-2.new.self c.index.result.now c.add.new.self
    _ c.in_ok-make_row.ensures.same c.in_ok-make_row.ensures.row c.index.ensures c.add.ensures c.add-2.ensures refl
