-- What each worker has part in of the exchanges of a run.
use Rattle.std.specs.Prelude.{ℕ, List, [], ◌∷◌, length, slice_index_or}
use Rattle.std.specs.List.{sum_by}
use Rattle.pram_model.specs.declared.rule.Rule.{Rule}
use Rattle.superstep_machine.specs.Setting.{Setting, workers}
use Rattle.superstep_machine.specs.Words.{Message, words}
use Rattle.superstep_machine.specs.Machine.{Machine, row}
use Rattle.superstep_machine.specs.Run.{Purpose, State, ready, bsp}
use Rattle.superstep_machine.specs.Trace.{Exchange}

-- a worker's part of an exchange: what it was for, and how many words the worker sent and received
pub record Share : Type 0 where
  pub purpose : Purpose
  pub sent : ℕ
  pub received : ℕ

abbrev pub share_of : ℕ → Exchange → Share
share_of w e = record { purpose = e.purpose; sent = slice_index_or e.sent w 0; received = slice_index_or e.received w 0 }

module _ {S M O : Type 0} where
  -- worker w's parts of the exchanges of its history, where it tells what an exchange is for, and how many words messages have
  abbrev pub shares_by : Machine S M O → (ℕ → S → Purpose) → (List M → ℕ) → ℕ → ℕ → S → List (List M) → List Share
  shares_by b purpose size p w s [] = []
  shares_by b purpose size p w s (c ∷ cs) = record { purpose = purpose w s; sent = size (row b p w s); received = size c }
      ∷ shares_by b purpose size p w (b.next w s c) cs

-- what the next exchange of worker w is for
abbrev pub purpose_of : Setting → ℕ → State → Purpose
purpose_of t w s = (ready t w s).purpose

-- how many words these messages have together
abbrev pub words_of : Rule → List Message → ℕ
words_of rule = sum_by (λ (m : Message). length (words rule m))

-- worker w's parts of the exchanges at which these columns came to it
abbrev pub shares : Setting → ℕ → State → List (List Message) → List Share
shares t = shares_by (bsp t) (purpose_of t) (words_of t.code.rule) (workers t)
