-- What a worker does at its seat.
use Rattle.std.specs.Prelude.{◌≡◌, ℕ, ◌+◌, ◌<◌, List, [], ◌∷◌, ◌++◌, length, Some, false}
use Rattle.std.specs.List.{AllByRecursion}
use Rattle.address_map.specs.Lawful.{Shape}
use Rattle.superstep_instructions.specs.Code.{SuperstepCode}
use Rattle.superstep_machine.specs.Setting.{Setting}
use Rattle.superstep_machine.specs.Run.{State, ready, setting}
use Rattle.worker_exchange.specs.Rows.{WrittenMessage, words_in}
use Rattle.worker_exchange.specs.Reached.{most_instructions}
use Rattle.worker_exchange.specs.Equipped.{most_words}
use Rattle.worker_exchange.specs.Shown.{is_stopped}
use Rattle.turnstile.specs.Seats.{RowState}
use Rattle.worker_histories.specs.Histories.{end_by}
use Rattle.worker_histories.specs.Shares.{Share, purpose_of}
use Rattle.worker_histories.specs.InWords.{in_words, IsSent, shares_in_words}
use Rattle.worker_histories.specs.Marked.{IsMarked, StopsByMarks, HasGone}
use Rattle.exchange_counts.specs.Tallies.{is_kept}
use Rattle.bsp_machine.specs.declared.counted.CountedWorker.{CountedWorker}
use Rattle.run_options.specs.declared.reserve.Reserve.{Reserve}
use Rattle.bsp_machine.specs.Reserves.{is_past, own_mark, AreMarked, IsGiven}
use Rattle.bsp_machine.specs.Workers.{IsBetween}
use Rattle.workers.specs.Seating.{sent_of, received_of}

-- a seat at which a worker can be: among as many as the map has modules, with room for every message
pub record IsSeatFor (code : SuperstepCode) (m : Shape) (r : RowState) : Type 0 where
  pub workers : r.workers ≡ m.parts
  pub room : r.room ≡ most_words code m

-- how many items a worker of the machine has printed where it comes to its next exchange
abbrev pub items_at : Setting → ℕ → State → ℕ
items_at t w s = length (ready t w s).state.worker.uniform.output

-- In a history of worker w from a state before which so many exchanges were made, each row is marked exactly where the state is past a
-- reserve.
abbrev pub MarksWherePast : Setting → ℕ → Reserve → ℕ → State → List (List WrittenMessage) → List (List WrittenMessage) → Type 0
MarksWherePast t w reserve made s [] [] = Unit {0}
MarksWherePast t w reserve made s (column ∷ columns) (row ∷ rows) =
    IsMarked (is_past reserve (items_at t w s) made) row
    × MarksWherePast t w reserve (made + 1) ((in_words t).next w s column) columns rows
MarksWherePast t w reserve made s columns rows = ⊥

module _ (code : SuperstepCode) (m : Shape) (bound : ℕ) where
  -- worker w is somewhere in a run, or in what would be one, as other workers may have sent anything
  pub record IsSomewhere (w : ℕ) (x : CountedWorker) : Type 0 where
    pub states : ℕ → State
    pub told : ℕ → List Share
    pub between : IsBetween code m bound states told w x

  -- ---- one exchange

  -- From such states worker w sent this row, and this column came: it stops by a mark, or shows the states behind, and has counted it. A
  -- worker with a reserve marks its row exactly where it is past that. It sends no mark but its own; and where no other came, it was
  -- stopped by that.
  pub record IsBehindExchange (states : ℕ → State) (told : ℕ → List Share) (w : ℕ) (row column : List WrittenMessage)
      (x : CountedWorker) : Type 0 where
    pub marks : StopsByMarks row column (is_stopped x.local.way)
    pub as_sent : (n : ℕ) → most_instructions code bound < n → is_stopped x.local.way ≡ false →
        IsSent (setting code m bound n) w (states n) row
    pub between : IsBetween code m bound (λ n. (in_words (setting code m bound n)).next w (states n) column)
        (λ n. told n
        ++ record { purpose = purpose_of (setting code m bound n) w (states n); sent = words_in row; received = words_in column } ∷ []) w x
    pub past : (reserve : Reserve) (n : ℕ) → x.reserve ≡ Some reserve → most_instructions code bound < n →
        IsMarked (is_past reserve (items_at (setting code m bound n) w (states n)) (length (told n))) row
    pub own_marks : AreMarked (own_mark x.reserve) row
    pub given : AreMarked (own_mark x.reserve) column → IsGiven x.reserve x

  -- the worker and its seat behind one exchange more
  pub record HasExchanged (r : RowState) (x : CountedWorker) (r' : RowState) (x' : CountedWorker) : Type 0 where
    pub row : List WrittenMessage
    pub column : List WrittenMessage
    pub sent : sent_of r' ≡ sent_of r ++ row ∷ []
    pub received : received_of r' ≡ received_of r ++ column ∷ []
    pub reserve : x'.reserve ≡ x.reserve
    pub kept : is_kept x'.counts ≡ is_kept x.counts
    pub behind : (states : ℕ → State) (told : ℕ → List Share) → IsBetween code m bound states told r.worker x →
        IsBehindExchange states told r.worker row column x'

  -- ---- all exchanges so far

  -- From the states that worker w showed at first, its seat has a history of its own steps, which a mark has ended if it has stopped; else
  -- it shows where that leads, and has counted it. A worker with a reserve marked its rows exactly where it was past that. It sent no mark
  -- but its own; and where no other came, it was stopped by that.
  pub record HasWorked (states : ℕ → State) (told : ℕ → List Share) (w : ℕ) (r : RowState) (x : CountedWorker) : Type 0 where
    pub gone : (n : ℕ) → most_instructions code bound < n →
        HasGone (setting code m bound n) w (states n) (received_of r) (sent_of r) (is_stopped x.local.way)
    pub between : IsBetween code m bound (λ n. end_by (in_words (setting code m bound n)) w (states n) (received_of r))
        (λ n. told n ++ shares_in_words (setting code m bound n) w (states n) (received_of r)) w x
    pub past : (reserve : Reserve) (n : ℕ) → x.reserve ≡ Some reserve → most_instructions code bound < n →
        MarksWherePast (setting code m bound n) w reserve (length (told n)) (states n) (received_of r) (sent_of r)
    pub own_marks : AllByRecursion (AreMarked (own_mark x.reserve)) (sent_of r)
    pub given : AllByRecursion (AreMarked (own_mark x.reserve)) (received_of r) → IsGiven x.reserve x
