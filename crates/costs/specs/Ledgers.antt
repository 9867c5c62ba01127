-- What the counting interpreter has counted, as accounts.
use Rattle.std.specs.Prelude.{ℕ, List, get_or, map}
use Rattle.costs.specs.declared.exchanges.Exchanges.{Exchanges}
use Rattle.costs.specs.declared.ledger.Ledger.{Ledger}
use Rattle.costs.specs.declared.tally.Tally.{Tally}
use Rattle.costs.specs.Accounts.{Accounts}
use Rattle.costs.specs.Spending.{Spending}
use Rattle.costs.specs.Totals.{Totals, nothing}

abbrev pub tally_is : Tally → Totals
tally_is t = record { time = t.time; work = t.work; width = t.width; reads = t.reads; writes = t.writes; rounds = t.rounds }

-- The row at l is that of line l. A line behind the last row has not run.
abbrev pub row_at : List Tally → ℕ → Totals
row_at rows l = get_or (map tally_is rows) l nothing

abbrev pub spending_is : Exchanges → Spending
spending_is x = record { count = x.count; held = x.held }

abbrev pub ledger_is : Ledger → Accounts
ledger_is k = record { all = tally_is k.all; lines = row_at k.lines.items; exchanges = spending_is k.exchanges }
