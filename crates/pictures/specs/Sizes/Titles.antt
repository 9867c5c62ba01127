-- What a mark says where it is pointed at: `n 8 time 17`.
use Rattle.std.specs.Prelude.{ℕ, List, [], codes}
use Rattle.svg_texts.specs.Plain.{numbered}
use Rattle.svg_texts.specs.Shapes.{Words, Letters, Then}
use Rattle.sweeps.specs.SweptTables.{number}
use Rattle.sweeps.specs.declared.measure.Measure.{Measure}
use Rattle.sweeps.specs.declared.measure.Measure.TheVariants.{Time, Work}
use Rattle.sweeps.specs.declared.size_row.Counts.{Counts}
use Rattle.sweeps.specs.declared.size_row.Ending.{Ending}
use Rattle.sweeps.specs.declared.size_row.Ending.TheVariants.{Ended, GoesOn, Faulted, Refused}
use Rattle.sweeps.specs.declared.size_row.SizeRow.{SizeRow}

abbrev pub word : Measure → List ℕ
word Time = codes " time "
word Work = codes " work "

-- a number behind a word, and how the run came out
abbrev pub told : (word : List ℕ) → ℕ → (how : List ℕ) → Words
told word n how = Then (numbered word n) (Letters how)

-- ` time 17`, and how the run came out, where it didn't end
abbrev pub number_words : Measure → Counts → List ℕ → Words
number_words m c how = told (word m) (number m c) how

abbrev pub fault_words : Measure → Counts → List ℕ → Words
fault_words m c fault = Then (number_words m c (codes " ")) (Letters fault)

abbrev pub refusal_words : List ℕ → Words
refusal_words refusal = Then (Letters (codes " ")) (Letters refusal)

abbrev pub ending_words : Measure → Ending → Words
ending_words m (Ended c) = number_words m c []
ending_words m (GoesOn c) = number_words m c (codes " goes on")
ending_words m (Faulted c fault) = fault_words m c fault.items
ending_words m (Refused refusal) = refusal_words refusal.items

abbrev pub row_words : Measure → SizeRow → Words
row_words m row = Then (numbered (codes " ") row.size) (ending_words m row.ending)

-- `n 8 time 17`
abbrev pub title_words : List ℕ → Measure → SizeRow → Words
title_words name m row = Then (Letters name) (row_words m row)
