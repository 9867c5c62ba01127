-- What contracts see of a turnstile and of its seats.
-- Histories are indexed by phase, from 0, and a row or a column by worker.
use Rattle.std.specs.Prelude.{◌≡◌, ℕ, ◌<◌, ◌≤◌, All, List, [], length, replicate, Some, slice_get}
use Rattle.atomic_table.specs.Seated.{TableId}
use Rattle.exchange_arena.specs.declared.block.TheConstants.{MAX_SIDE}
use Rattle.turnstile.specs.declared.views.Message.{Message}
use Rattle.turnstile.specs.Turns.{blank, entry}

-- which table it works at, which no other turnstile shares, how many workers it has,
-- and for how many words a message has room
pub record TurnstileShape : Type 0 where
  pub table : TableId
  pub workers : ℕ
  pub room : ℕ

-- whose seat it is, the rows that the worker sent, the columns that it received, and the row that it fills now
pub record RowState : Type 0 where
  pub table : TableId
  pub worker : ℕ
  pub workers : ℕ
  pub room : ℕ
  pub sent : List (List Message)
  pub received : List (List Message)
  pub row : List Message

-- the same, with the column that is lent
pub record ColumnState : Type 0 where
  pub table : TableId
  pub worker : ℕ
  pub workers : ℕ
  pub room : ℕ
  pub sent : List (List Message)
  pub received : List (List Message)
  pub column : List Message

-- a row of messages with no words and a zero header
abbrev pub blank_row : ℕ → List Message
blank_row n = replicate n blank

-- the same seat, before and after a crossing
pub record SameSeat (r : RowState) (c : ColumnState) : Type 0 where
  pub table : c.table ≡ r.table
  pub worker : c.worker ≡ r.worker
  pub workers : c.workers ≡ r.workers
  pub room : c.room ≡ r.room

-- the seat of a worker that has sent and received nothing yet, and whose row is empty
pub record IsFresh (t : TurnstileShape) (r : RowState) : Type 0 where
  pub workers : r.workers ≡ t.workers
  pub room : r.room ≡ t.room
  pub sent : r.sent ≡ []
  pub received : r.received ≡ []
  pub row : r.row ≡ blank_row t.workers

abbrev pub AreFresh : TurnstileShape → List RowState → Type 0
AreFresh t seats = (k : ℕ) (r : RowState) → slice_get seats k ≡ Some r → IsFresh t r

-- all seats of the turnstile, in the order of the workers
pub record AreSeatsOf (t : TurnstileShape) (seats : List RowState) : Type 0 where
  pub count : length seats ≡ t.workers
  pub tables : (k : ℕ) (r : RowState) → slice_get seats k ≡ Some r → r.table ≡ t.table
  pub order : (k : ℕ) (r : RowState) → slice_get seats k ≡ Some r → r.worker ≡ k

-- all have made equally many crossings
abbrev pub SamePhases : List RowState → Type 0
SamePhases seats = (i j : ℕ) (a b : RowState) → slice_get seats i ≡ Some a → slice_get seats j ≡ Some b
    → length a.sent ≡ length b.sent

-- what j received from i in each phase is what i sent to j in it
abbrev pub ReceivedAsSent : List RowState → Type 0
ReceivedAsSent seats = (i j : ℕ) (a b : RowState) → slice_get seats i ≡ Some a → slice_get seats j ≡ Some b
    → (s : ℕ) → entry b.received s i ≡ entry a.sent s j

-- one row and one column a phase, each with one message for each worker
pub record IsWhole (r : RowState) : Type 0 where
  pub phases : length r.received ≡ length r.sent
  pub rows : All (λ row. length row ≡ r.workers) r.sent
  pub columns : All (λ column. length column ≡ r.workers) r.received

-- what holds of each seat that fills a row: whose it is, how long its row is, and its histories
pub record IsRowSeat (r : RowState) : Type 0 where
  pub below : r.worker < r.workers
  pub few : r.workers ≤ MAX_SIDE
  pub row : length r.row ≡ r.workers
  pub whole : IsWhole r

-- and of each that reads a column
pub record IsColumnSeat (r : ColumnState) : Type 0 where
  pub below : r.worker < r.workers
  pub few : r.workers ≤ MAX_SIDE
  pub column : length r.column ≡ r.workers
  pub phases : length r.received ≡ length r.sent
  pub rows : All (λ row. length row ≡ r.workers) r.sent
  pub columns : All (λ column. length column ≡ r.workers) r.received

abbrev pub AreWhole : List RowState → Type 0
AreWhole seats = (k : ℕ) (r : RowState) → slice_get seats k ≡ Some r → IsWhole r
