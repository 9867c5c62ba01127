use Rattle.std.proofs.Common.{ap, arith}
use Rattle.costs.specs.Ledgers.{spending_is, tally_is}
use Rattle.costs.proofs.Rows.{accounts, rows_grown}
use Rattle.costs.proofs.ledger.Ledger.make_row.Goals as goal

pub returns-in_ok-resize-clause-same : goal.returns-in_ok-resize-clause-same
returns-in_ok-resize-clause-same c =
    let short = c.if-len-rows.true in
    let len = c.len.ensures in
    ap (λ l. accounts (tally_is c.args.self.now.all) l (spending_is c.args.self.now.exchanges))
    (rows_grown c.args.self.now.lines.items c.resize.new.self.items _ _ c.new.result c.new.ensures
    (omega (arith, short, len)) c.in_ok-resize.ensures.items)
