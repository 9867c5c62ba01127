-- Runs that are to be over in some seconds.
use Rattle.std.specs.Prelude.{◌≡◌, ◌⊎◌, ℕ, ◌<◌, Some, None}
use Rattle.command_requests.specs.declared.run_words.MeaningWords.{MeaningWords}
use Rattle.command_facts.specs.declared.found.Limit.{Limit}

-- behind so many statements, however long they take
abbrev pub behind : ℕ → Limit
behind n = record { bound = n; seconds = None }

-- behind so many statements, and in so many seconds, if any are asked for
abbrev pub asked_of : MeaningWords → Limit
asked_of w = record { bound = w.bound; seconds = w.seconds }

-- behind fewer statements than are asked for, by some seconds that are
pub record IsOutOfTime (w : MeaningWords) (l : Limit) : Type 0 where
  pub seconds : ℕ
  pub asked : w.seconds ≡ Some seconds
  pub ended : l.seconds ≡ Some seconds
  pub fewer : l.bound < w.bound

-- Where a run ends that is asked for so: behind all its statements, where there is time for them, and else behind fewer.
abbrev pub IsLimitOf : MeaningWords → Limit → Type 0
IsLimitOf w l = (l ≡ behind w.bound) ⊎ IsOutOfTime w l
