-- What holds of a worker between two steps.
use Rattle.std.specs.Prelude.{◌≡◌, ℕ, All, ◌+◌, ◌-◌, ◌^◌, ◌<◌, ◌≤◌, true, false, List, ◌++◌, map, length, replicate, take, Option, Some}
use Rattle.std.specs.Prelude.{None}
use Rattle.std.specs.VecDeque.{deque_capacity}
use Rattle.turnstile.specs.declared.views.Message.{Message}
use Rattle.turnstile.specs.declared.views.Worker.{Worker}
use Rattle.turnstile.specs.declared.work.Work.{Work}
use Rattle.turnstile.specs.Seats.{RowState, ColumnState}
use Rattle.turnstile.specs.Turns.{message, saw, phase, seated}
use Rattle.turnstile.specs.Loads.{RowPlaced, ColumnPlaced, emptied, opened, known, told_all}

abbrev pub done : Work → Worker
done k = k.chair.me.0.mine

-- the columns of the phases before the round
abbrev pub before : Work → List (List (Option Message))
before k = take (k.round - 1) (done k).received

-- the rows that were sent, and the columns that were received, by phase
abbrev pub rows_of : Work → List (List Message)
rows_of k = (done k).sent

abbrev pub columns_of : Work → List (List Message)
columns_of k = known (done k).received

-- the worker has seen all, has the pieces of its next row and of its last column, and its slots are empty
pub record Rested (k : Work) : Type 0 where
  pub is_seated : k.chair.me.0 ≡ seated (done k)
  pub at : (done k).at ≡ k.worker
  pub of : (done k).workers ≡ k.workers
  pub below : k.worker < k.workers
  pub few : k.workers ≤ 32
  pub words : k.chair.table_id.words ≡ k.workers
  pub bound : k.round ≤ 2 ^ 63
  pub made : phase (done k) ≡ k.round
  pub stays : (done k).left ≡ false
  pub saw_all : (i : ℕ) → i < k.workers → saw (done k) i ≡ true
  pub row : length k.row.items ≡ k.workers
  pub column : length k.column.items ≡ k.workers
  pub row_room : k.workers ≤ deque_capacity k.row
  pub column_room : k.workers ≤ deque_capacity k.column
  pub row_placed : RowPlaced (done k).blocks k.workers k.worker (k.round + 1) 0 k.row.items
  pub column_placed : ColumnPlaced (done k).blocks k.workers k.worker (k.round + 1 + 1) 0 k.column.items
  pub carries : k.chair.me.1 ≡ emptied k.workers k.worker (k.round + 1) 0 k.workers
  pub long : length (done k).received ≡ k.round
  pub whole : (done k).received ≡ told_all (columns_of k)
  pub rows : All (λ row. length row ≡ k.workers) (rows_of k)
  pub columns : All (λ column. length column ≡ k.workers) (columns_of k)

-- the worker has seen those below i, and has the pieces of these alone
pub record Seeing (i : ℕ) (k : Work) : Type 0 where
  pub is_seated : k.chair.me.0 ≡ seated (done k)
  pub at : (done k).at ≡ k.worker
  pub of : (done k).workers ≡ k.workers
  pub below : k.worker < k.workers
  pub few : k.workers ≤ 32
  pub words : k.chair.table_id.words ≡ k.workers
  pub bound : k.round ≤ 2 ^ 63
  pub made : phase (done k) ≡ k.round
  pub stays : (done k).left ≡ false
  pub wide : length (done k).seen ≡ k.workers
  pub saw_these : (j : ℕ) → j < i → saw (done k) j ≡ true
  pub not_those : (j : ℕ) → i ≤ j → saw (done k) j ≡ false
  pub row : length k.row.items ≡ i
  pub column : length k.column.items ≡ i
  pub row_room : k.workers ≤ deque_capacity k.row
  pub column_room : k.workers ≤ deque_capacity k.column
  pub row_placed : RowPlaced (done k).blocks k.workers k.worker (k.round + 1) 0 k.row.items
  pub column_placed : ColumnPlaced (done k).blocks k.workers k.worker (k.round + 1 + 1) 0 k.column.items
  pub carries : k.chair.me.1 ≡ emptied k.workers k.worker (k.round + 1) 0 i
  pub so_far : (done k).received ≡ opened k.round (before k) (map Some (map message k.column.items)
      ++ replicate (k.workers - i) None)
  pub long : length (done k).received ≡ k.round

-- the parts of a worker that a step of another kind leaves
abbrev pub IsSame : Work → Work → Type 0
IsSame k l = (l.chair.table_id ≡ k.chair.table_id) × (l.chair.id ≡ k.chair.id) × (l.worker ≡ k.worker)
    × (l.workers ≡ k.workers) × (l.round ≡ k.round)

-- all but the pieces of the row stay
pub record SameButRow (k l : Work) : Type 0 where
  pub chair : l.chair ≡ k.chair
  pub column : l.column ≡ k.column
  pub worker : l.worker ≡ k.worker
  pub workers : l.workers ≡ k.workers
  pub round : l.round ≡ k.round

abbrev pub row_state : Work → RowState
row_state k = record {
  table = k.chair.table_id;
  worker = k.worker;
  workers = k.workers;
  room = (done k).blocks.room;
  sent = rows_of k;
  received = columns_of k;
  row = map message k.row.items;
}

abbrev pub column_state : Work → ColumnState
column_state k = record {
  table = k.chair.table_id;
  worker = k.worker;
  workers = k.workers;
  room = (done k).blocks.room;
  sent = rows_of k;
  received = columns_of k;
  column = map message k.column.items;
}
