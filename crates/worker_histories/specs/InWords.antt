-- Histories whose messages are words, which each worker reads by what it takes the exchange for.
use Rattle.std.specs.Prelude.{◌≡◌, ℕ, ◌<◌, List, Option, true, ℤ}
use Rattle.write_rules.specs.Verdict.{Verdict}
use Rattle.superstep_machine.specs.Setting.{Setting, workers}
use Rattle.superstep_machine.specs.Machine.{Machine, row}
use Rattle.superstep_machine.specs.Run.{State, ready, message_of, after, is_over, outcome_of, opening}
use Rattle.flat_machine.specs.Flatness.{IsMapFor}
use Rattle.worker_exchange.specs.Rows.{WrittenMessage, written, words_in}
use Rattle.worker_exchange.specs.MessagesWritten.{IsWrittenFor}
use Rattle.worker_exchange.specs.Received.{messages_to}
use Rattle.worker_histories.specs.Histories.{rows_by, end_by, HoldsBefore, IsGoing, HaveExchanged}
use Rattle.worker_histories.specs.Shares.{Share, purpose_of, shares_by}
use Rattle.worker_histories.specs.Joined.{IsRunFrom, IsRunSoFar}

-- The same machine with words for messages. A worker knows no other's state: it reads its column by what the exchange is for itself.
abbrev pub in_words : Setting → Machine State WrittenMessage (Option Verdict)
in_words t = record {
  message = λ w s j. written t.code.rule (message_of t w s j);
  next = λ w s column. after t w (ready t w s) (messages_to t.code.rule t.map w (purpose_of t w s) column);
  over = λ s. is_over s.way;
  outcome = outcome_of t;
}

-- the words that worker w sends from a state give its messages back, to each who reads them by what the exchange is for w
abbrev pub AreGivenBack : Setting → ℕ → State → Type 0
AreGivenBack t w s = (j : ℕ) → j < workers t →
    IsWrittenFor t.code.rule t.map j (purpose_of t w s) (message_of t w s j) (written t.code.rule (message_of t w s j))

-- The row is what worker w sends from a state, and is given back.
pub record IsSent (t : Setting) (w : ℕ) (s : State) (sent : List WrittenMessage) : Type 0 where
  pub row_is : sent ≡ row (in_words t) (workers t) w s
  pub given_back : AreGivenBack t w s

-- A history of words of worker w, so far: its run went on at each exchange, and what it sent there is given back.
pub record IsUnderway (t : Setting) (w : ℕ) (s : State) (columns rows : List (List WrittenMessage)) : Type 0 where
  pub sent : rows ≡ rows_by (in_words t) (workers t) w s columns
  pub going : IsGoing (in_words t) w s columns
  pub given_back : HoldsBefore (in_words t) (AreGivenBack t w) w s columns

-- One of a whole run, which is over in the last state.
pub record IsPlayedInWords (t : Setting) (w : ℕ) (s : State) (columns rows : List (List WrittenMessage)) (last : State) : Type 0 where
  pub underway : IsUnderway t w s columns rows
  pub end : last ≡ end_by (in_words t) w s columns
  pub over : is_over last.way ≡ true

-- worker w's parts of its exchanges, counted in words
abbrev pub shares_in_words : Setting → ℕ → State → List (List WrittenMessage) → List Share
shares_in_words t = shares_by (in_words t) (purpose_of t) words_in (workers t)

-- What worker j reads, by what the exchange is for itself, of what i wrote is the message that i sends in the run.
abbrev pub HistoriesInWordsMakeARun : Type 0
HistoriesInWordsMakeARun = (t : Setting) → IsMapFor t.code t.map → (input : List ℤ) (n : ℕ) (ends : ℕ → State)
    (rows columns : ℕ → List (List WrittenMessage)) → HaveExchanged (workers t) n rows columns →
    ((w : ℕ) → w < workers t → IsPlayedInWords t w (opening t input w) (columns w) (rows w) (ends w)) →
    IsRunFrom t input n ends (λ w. shares_in_words t w (opening t input w) (columns w))

-- So it is of histories that are still underway: they are the run up to there.
abbrev pub HistoriesInWordsAreTheRunSoFar : Type 0
HistoriesInWordsAreTheRunSoFar = (t : Setting) → IsMapFor t.code t.map → (input : List ℤ) (n : ℕ)
    (rows columns : ℕ → List (List WrittenMessage)) → HaveExchanged (workers t) n rows columns →
    ((w : ℕ) → w < workers t → IsUnderway t w (opening t input w) (columns w) (rows w)) →
    IsRunSoFar t input n (λ w. end_by (in_words t) w (opening t input w) (columns w))
