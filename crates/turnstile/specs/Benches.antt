-- What is known while the seats of a turnstile are made.
use Rattle.std.specs.Prelude.{◌≡◌, ℕ, ◌≤◌, List, [], length, Some, slice_get}
use Rattle.std.specs.VecDeque.{deque_capacity}
use Rattle.atomic_table.specs.Seated.{TableId}
use Rattle.turnstile.specs.declared.opening.Bench.{Bench}
use Rattle.turnstile.specs.Seats.{RowState, blank_row}

-- it has room for n pieces in the row and in the column, and none are there
pub record IsBare (n : ℕ) (b : Bench) : Type 0 where
  pub row : b.row.items ≡ []
  pub column : b.column.items ≡ []
  pub row_room : n ≤ deque_capacity b.row
  pub column_room : n ≤ deque_capacity b.column

-- the fresh seat of the worker k
pub record IsSeated (id : TableId) (workers room k : ℕ) (r : RowState) : Type 0 where
  pub table : r.table ≡ id
  pub worker : r.worker ≡ k
  pub of : r.workers ≡ workers
  pub has_room : r.room ≡ room
  pub sent : r.sent ≡ []
  pub received : r.received ≡ []
  pub row : r.row ≡ blank_row workers

-- the fresh seats of the first n workers, in order
abbrev pub AreSeated : TableId → ℕ → ℕ → ℕ → List RowState → Type 0
AreSeated id workers room n seats = (length seats ≡ n) × ((k : ℕ) (r : RowState) → slice_get seats k ≡ Some r
    → IsSeated id workers room k r)
