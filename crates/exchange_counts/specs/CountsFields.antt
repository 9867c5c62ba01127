-- How the fields of counts show the exchanges.
use Rattle.std.specs.Prelude.{List}
use Rattle.superstep_machine.specs.Trace.{Exchange}
use Rattle.exchange_counts.specs.declared.counts.Counts.TheInside.{Inside}
use Rattle.exchange_counts.specs.Columns.{columns_of, AreColumns}
use Rattle.exchange_counts.specs.CountedExchanges.{exchanges_told}

abbrev pub shown : Inside → List Exchange
shown c = exchanges_told (columns_of c.columns.items)

abbrev pub AreShown : Inside → Type 0
AreShown c = AreColumns (columns_of c.columns.items)
