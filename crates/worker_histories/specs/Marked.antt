-- Histories that a mark ends: who is refused memory, or came past its reserve, tells all.
use Rattle.std.specs.Prelude.{◌≡◌, ℕ, ◌<◌, List, [], ◌∷◌, ◌++◌, length, Bool, true, false, ◌||◌, slice_get}
use Rattle.std.specs.List.{AllByRecursion}
use Rattle.superstep_machine.specs.HeaderWords.{read_header}
use Rattle.superstep_machine.specs.Setting.{Setting, workers}
use Rattle.superstep_machine.specs.Run.{State, is_over}
use Rattle.worker_exchange.specs.Rows.{WrittenMessage}
use Rattle.worker_exchange.specs.Received.{mark_heard, is_marked}
use Rattle.worker_histories.specs.Histories.{end_by, HaveExchanged}
use Rattle.worker_histories.specs.InWords.{in_words, IsSent, IsUnderway}

abbrev pub has_mark : WrittenMessage → Bool
has_mark x = is_marked (read_header x.header).mark

-- whether any of them has a mark
abbrev pub any_mark : List WrittenMessage → Bool
any_mark messages = is_marked (mark_heard messages)

-- no message of these rows or columns has a mark
abbrev pub AreClear : List (List WrittenMessage) → Type 0
AreClear = AllByRecursion (λ messages. any_mark messages ≡ false)

-- all messages of a row have a mark, or none has
abbrev pub IsMarked : Bool → List WrittenMessage → Type 0
IsMarked mine = AllByRecursion (λ x. has_mark x ≡ mine)

-- ---- one exchange

-- A worker marks its whole row or nothing of it, and stops where it marked it or a mark came.
pub record StopsByMarks (row column : List WrittenMessage) (stops : Bool) : Type 0 where
  pub mine : Bool
  pub marked : IsMarked mine row
  pub by_marks : stops ≡ (mine || any_mark column)

-- Of p workers that exchange these rows all stop, or none.
abbrev pub AllStopOrNone : Type 0
AllStopOrNone = (p : ℕ) (rows columns : ℕ → List WrittenMessage) (stops : ℕ → Bool) → ((w : ℕ) → w < p → length (columns w) ≡ p) →
    ((i j : ℕ) → i < p → j < p → slice_get (columns j) i ≡ slice_get (rows i) j) →
    ((w : ℕ) → w < p → StopsByMarks (rows w) (columns w) (stops w)) → (i j : ℕ) → i < p → j < p → stops i ≡ stops j

-- ---- whole histories

-- A history of worker w, so far, in which there was no mark.
pub record IsClear (t : Setting) (w : ℕ) (s : State) (columns rows : List (List WrittenMessage)) : Type 0 where
  pub underway : IsUnderway t w s columns rows
  pub received : AreClear columns
  pub sent : AreClear rows

-- Such a history up to one exchange, at which a mark stopped the worker.
pub record IsCutShort (t : Setting) (w : ℕ) (s : State) (columns rows : List (List WrittenMessage)) : Type 0 where
  pub earlier_columns : List (List WrittenMessage)
  pub earlier_rows : List (List WrittenMessage)
  pub column : List WrittenMessage
  pub row : List WrittenMessage
  pub columns_are : columns ≡ earlier_columns ++ column ∷ []
  pub rows_are : rows ≡ earlier_rows ++ row ∷ []
  pub clear : IsClear t w s earlier_columns earlier_rows
  pub unfinished : is_over (end_by (in_words t) w s earlier_columns).way ≡ false
  pub stopped : StopsByMarks row column true

-- How a history has gone so far: a mark stopped the worker, or there was none.
abbrev pub HasGone : Setting → ℕ → State → List (List WrittenMessage) → List (List WrittenMessage) → Bool → Type 0
HasGone t w s columns rows true = IsCutShort t w s columns rows
HasGone t w s columns rows false = IsClear t w s columns rows

-- The histories of workers that exchanged were all ended by a mark, or none was.
abbrev pub MarksEndAllOrNone : Type 0
MarksEndAllOrNone = (t : Setting) (n : ℕ) (start : ℕ → State) (rows columns : ℕ → List (List WrittenMessage)) (stops : ℕ → Bool) →
    HaveExchanged (workers t) n rows columns →
    ((w : ℕ) → w < workers t → HasGone t w (start w) (columns w) (rows w) (stops w)) →
    (i j : ℕ) → i < workers t → j < workers t → stops i ≡ stops j

-- One exchange more, at which the worker stops by a mark, or sent what the machine's worker sends.
abbrev pub ClearGrows : Type 0
ClearGrows = (t : Setting) (w : ℕ) (s : State) (columns rows : List (List WrittenMessage)) (column sent : List WrittenMessage)
    (stops : Bool) → IsClear t w s columns rows → is_over (end_by (in_words t) w s columns).way ≡ false →
    StopsByMarks sent column stops → (stops ≡ false → IsSent t w (end_by (in_words t) w s columns) sent) →
    HasGone t w s (columns ++ column ∷ []) (rows ++ sent ∷ []) stops
