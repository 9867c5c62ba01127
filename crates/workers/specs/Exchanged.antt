-- The seats of a turnstile, as workers that exchanged words.
use Rattle.std.specs.Prelude.{◌≡◌, ℕ, List, [], length, Option, Some, None, slice_get}
use Rattle.turnstile.specs.Seats.{RowState, SamePhases, ReceivedAsSent, AreWhole}
use Rattle.worker_exchange.specs.Rows.{WrittenMessage}
use Rattle.worker_histories.specs.Histories.{HaveExchanged}
use Rattle.workers.specs.Seating.{sent_of, received_of}

abbrev pub rows_at : Option RowState → List (List WrittenMessage)
rows_at None = []
rows_at (Some r) = sent_of r

abbrev pub columns_at : Option RowState → List (List WrittenMessage)
columns_at None = []
columns_at (Some r) = received_of r

-- what worker w sent, and what it received
abbrev pub sent_by : List RowState → ℕ → List (List WrittenMessage)
sent_by seats w = rows_at (slice_get seats w)

abbrev pub received_by : List RowState → ℕ → List (List WrittenMessage)
received_by seats w = columns_at (slice_get seats w)

-- how many crossings each has made
abbrev pub crossings : List RowState → ℕ
crossings seats = length (sent_by seats 0)

-- The seats of p workers, of which a turnstile says when it closes that they made equally many crossings, and that what one received in
-- each is what another sent, have exchanged so.
abbrev pub SeatsHaveExchanged : Type 0
SeatsHaveExchanged = (seats : List RowState) →
    ((w : ℕ) (r : RowState) → slice_get seats w ≡ Some r → r.workers ≡ length seats) →
    SamePhases seats → ReceivedAsSent seats → AreWhole seats →
    HaveExchanged (length seats) (crossings seats) (sent_by seats) (received_by seats)
