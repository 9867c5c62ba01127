-- The exchanges that the workers' counts tell of.
use Rattle.std.specs.Prelude.{ℕ, ◌-◌, List, [], length, map, slice_index_or}
use Rattle.std.specs.List.{range_with_len}
use Rattle.superstep_machine.specs.Trace.{Exchange}
use Rattle.superstep_machine.specs.Run.{Closes}
use Rattle.superstep_machine.specs.Purposes.{purpose_is}
use Rattle.exchange_counts.specs.declared.count.Count.{Count}
use Rattle.exchange_counts.specs.Columns.{column_of, nothing, entry_of}

-- an exchange at which the workers counted this, in order of workers; worker 0 says what it was for
abbrev pub exchange_counted : List Count → Exchange
exchange_counted counts = record {
  purpose = purpose_is (slice_index_or counts 0 nothing).purpose;
  sent = map (λ (c : Count). c.sent) counts;
  received = map (λ (c : Count). c.received) counts;
}

-- exchange k, from 0
abbrev pub exchange_told : List (List Count) → ℕ → Exchange
exchange_told columns k = exchange_counted (map (entry_of k) columns)

-- all that worker 0 counted
abbrev pub exchanges_told : List (List Count) → List Exchange
exchanges_told columns = map (exchange_told columns) (range_with_len 0 (length (column_of columns 0)))

-- an exchange of none, and exchange k of some, from 1
abbrev pub no_exchange : Exchange
no_exchange = record { purpose = Closes; sent = []; received = [] }

abbrev pub exchange_at : List Exchange → ℕ → Exchange
exchange_at exchanges k = slice_index_or exchanges (k - 1) no_exchange
