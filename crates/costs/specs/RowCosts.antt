-- The costs of lines, by their rows.
use Rattle.std.specs.Prelude.{ℕ, List, map, Bool, nat_lt}
use Rattle.std.specs.List.{filter}
use Rattle.pram_meaning.specs.Store.{numbers}
use Rattle.costs.specs.declared.line_cost.LineCost.{LineCost}
use Rattle.costs.specs.declared.tally.Tally.{Tally}
use Rattle.costs.specs.Ledgers.{row_at}
use Rattle.costs.specs.Totals.{Totals}

abbrev pub cost_of_row : ℕ → Totals → LineCost
cost_of_row l t = record { line = l; times = t.time; work = t.work; reads = t.reads; writes = t.writes }

abbrev pub row_has_run : List Tally → ℕ → Bool
row_has_run rows l = nat_lt 0 (row_at rows l).time

-- of each of the first k rows that count anything, in ascending order
abbrev pub costs_of_rows : List Tally → ℕ → List LineCost
costs_of_rows rows k = map (λ l. cost_of_row l (row_at rows l)) (filter (row_has_run rows) (numbers 0 k))
