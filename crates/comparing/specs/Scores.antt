-- How the second of two programs does on some inputs.
use Rattle.std.specs.Prelude.{ℕ, ◌+◌, max, Bool, true, false, ◌&&◌, if◌then◌else◌, List, [], ◌∷◌, Option, Some, None, is_none, length}
use Rattle.std.specs.List.{filter}
use Rattle.comparing.specs.declared.difference.Difference.{Difference}
use Rattle.comparing.specs.declared.difference.Difference.TheVariants as differ
use Rattle.comparing.specs.declared.difference.Ending.{Ending}
use Rattle.comparing.specs.declared.difference.Ending.TheVariants as ending
use Rattle.comparing.specs.declared.score.Score.{Score}
use Rattle.comparing.specs.declared.trial.Trial.{Trial}
use Rattle.comparing.specs.Differences.{Run, ending_of}

-- ---- one input

-- what is found on it, by what differs first and by the second program's run
abbrev pub trial_of : Option Difference → Run → Trial
trial_of d b = record { difference = d; ending = ending_of b.verdict; time = b.time; work = b.work }

abbrev pub has_ended : Ending → Bool
has_ended ending.Ended = true
has_ended (ending.Faulted fault) = false
has_ended ending.GoesOn = false

abbrev pub has_faulted : Ending → Bool
has_faulted ending.Ended = false
has_faulted (ending.Faulted fault) = true
has_faulted ending.GoesOn = false

abbrev pub has_gone_on : Ending → Bool
has_gone_on ending.Ended = false
has_gone_on (ending.Faulted fault) = false
has_gone_on ending.GoesOn = true

-- all comes to the same, and more is taken than allowed
abbrev pub is_excess : Option Difference → Bool
is_excess None = false
is_excess (Some (differ.Endings e f)) = false
is_excess (Some (differ.Output item x y)) = false
is_excess (Some (differ.Cell cell x y)) = false
is_excess (Some (differ.Time taken limit)) = true
is_excess (Some (differ.Work taken limit)) = true

-- nothing differs, and the second program ends
abbrev pub is_correct : Trial → Bool
is_correct t = is_none t.difference && has_ended t.ending

abbrev pub is_faulted : Trial → Bool
is_faulted t = has_faulted t.ending

abbrev pub is_going_on : Trial → Bool
is_going_on t = has_gone_on t.ending

abbrev pub is_above : Trial → Bool
is_above t = is_excess t.difference

-- ---- some inputs

abbrev pub how_many : (Trial → Bool) → List Trial → ℕ
how_many is ts = length (filter is ts)

abbrev pub most : (Trial → ℕ) → List Trial → ℕ
most taken [] = 0
most taken (t ∷ ts) = max (taken t) (most taken ts)

-- on how many the second program is correct, faults, goes on or is above a limit, and the most that its runs take
abbrev pub score_of : List Trial → Score
score_of ts = record {
  correct = how_many is_correct ts;
  faulted = how_many is_faulted ts;
  going_on = how_many is_going_on ts;
  above = how_many is_above ts;
  most_time = most (λ t. t.time) ts;
  most_work = most (λ t. t.work) ts;
}

-- ---- one input more

abbrev pub counted : Bool → ℕ → ℕ
counted is count = if is then count + 1 else count

abbrev pub scored : Trial → Score → Score
scored t s = record {
  correct = counted (is_correct t) s.correct;
  faulted = counted (is_faulted t) s.faulted;
  going_on = counted (is_going_on t) s.going_on;
  above = counted (is_above t) s.above;
  most_time = max s.most_time t.time;
  most_work = max s.most_work t.work;
}
