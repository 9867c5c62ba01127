-- Messages of a seat as words of the machine's messages.
use Rattle.std.proofs.Common.{◌≡◌, ℕ, zero, suc, ◌<◌, ◌≤◌, List, [], ◌∷◌, ◌++◌, length, set, refl, sym, ap, ◌∙◌, arith}
use Rattle.std.specs.Prelude.{map, slice_index_or}
use Rattle.std.proofs.lemmas.List.{map-set}
use Rattle.flat_machine.proofs.Lists.{map_joined}
use Rattle.worker_exchange.specs.Rows.{message_at}
use Rattle.turnstile.specs.declared.views.Message.{Message}
use Rattle.turnstile.specs.Seats.{RowState, ColumnState}
use Rattle.turnstile.specs.Turns.{blank}
use Rattle.workers.specs.Seating.{letter_of, letters, sent_of, received_of, only_row}

-- a message that is put into a row
pub filled_is : (a b : RowState) (i : ℕ) (m : Message) → b ≡ record a { row = set a.row i m } →
    letters b.row ≡ set (letters a.row) i (letter_of m)
filled_is a b i m e = ap (λ (s : RowState). letters s.row) e ∙ map-set letter_of a.row i m

-- where each is short, so are those behind the end, which have no words
pub all_short : (column : List Message) (room : ℕ) →
    ((i : ℕ) → i < length column → length (slice_index_or column i blank).words ≤ room) → (i : ℕ) →
    length (message_at (letters column) i).words ≤ room
all_short [] room h i = omega arith
all_short (m ∷ column) room h zero = h 0 (omega arith)
all_short (m ∷ column) room h (suc i) = all_short column room (λ j l. h (suc j) (omega (arith, l))) i

-- A seat that crosses, with a row of its own, and turns: its histories have one row and one column more.
module _ (a mid : RowState) (crossed column : ColumnState) (turned : RowState) (kept : only_row a mid) where
  pub sent_more : crossed.sent ≡ mid.sent ++ mid.row ∷ [] → column ≡ crossed → turned.sent ≡ column.sent →
      sent_of turned ≡ sent_of a ++ letters mid.row ∷ []
  sent_more sent is same =
      ap (map letters) (same ∙ ap (λ (s : ColumnState). s.sent) is ∙ sent ∙ ap (λ (s : RowState). s.sent ++ mid.row ∷ []) kept)
      ∙ map_joined letters a.sent (mid.row ∷ [])

  pub received_more : crossed.received ≡ mid.received ++ crossed.column ∷ [] → column ≡ crossed → turned.received ≡ column.received →
      received_of turned ≡ received_of a ++ letters column.column ∷ []
  received_more received is same =
      ap (map letters)
      (same ∙ ap (λ (s : ColumnState). s.received) is ∙ received ∙ ap (λ (s : ColumnState). mid.received ++ s.column ∷ []) (sym is)
      ∙ ap (λ (s : RowState). s.received ++ column.column ∷ []) kept)
      ∙ map_joined letters a.received (column.column ∷ [])
