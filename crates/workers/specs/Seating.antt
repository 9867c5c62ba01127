-- The messages of a seat as words of the machine's messages.
use Rattle.std.specs.Prelude.{◌≡◌, ℕ, ◌≤◌, List, length, map}
use Rattle.std.proofs.Common.{◌∙◌, ap}
use Rattle.worker_exchange.specs.Rows.{WrittenMessage, message_at}
use Rattle.turnstile.specs.declared.views.Message.{Message}
use Rattle.turnstile.specs.Seats.{RowState, ColumnState}

abbrev pub letter_of : Message → WrittenMessage
letter_of m = record { header = m.header; words = m.words }

abbrev pub letters : List Message → List WrittenMessage
letters = map letter_of

-- what was sent and received at a seat
abbrev pub sent_of : RowState → List (List WrittenMessage)
sent_of r = map letters r.sent

abbrev pub received_of : RowState → List (List WrittenMessage)
received_of r = map letters r.received

-- all but the row that is filled
abbrev pub only_row : RowState → RowState → Type 0
only_row a b = b ≡ record a { row = b.row }

pub only_row_on : (a b c : RowState) → only_row a b → only_row b c → only_row a c
only_row_on a b c h k = k ∙ ap (λ (s : RowState). record s { row = c.row }) h

-- no message of the column has more words than the seat has room for
abbrev pub AreShort : ColumnState → Type 0
AreShort c = (i : ℕ) → length (message_at (letters c.column) i).words ≤ c.room

-- the seat of the same worker at the same turnstile
pub record SameOwner (a b : RowState) : Type 0 where
  pub table : b.table ≡ a.table
  pub worker : b.worker ≡ a.worker
  pub workers : b.workers ≡ a.workers
  pub room : b.room ≡ a.room
