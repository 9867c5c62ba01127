-- What JSON says of a sweep over sizes.
use Rattle.std.specs.Prelude.{ℕ, ◌||◌, if◌then◌else◌, List, [], ◌∷◌, ◌++◌, codes, map}
use Rattle.serde_json.specs.Data.{Data}
use Rattle.json_texts.specs.Facts.{Field, count, large, letters, object_of, word}
use Rattle.sweeps.specs.declared.growth.Growth.{Growth}
use Rattle.sweeps.specs.GrowthText.{growth_words, is_told}
use Rattle.sweeps.specs.declared.growths.Growths.{Growths}
use Rattle.sweeps.specs.declared.size_row.Counts.{Counts}
use Rattle.sweeps.specs.declared.size_row.Ending.{Ending}
use Rattle.sweeps.specs.declared.size_row.Ending.TheVariants.{Ended, GoesOn, Faulted, Refused}
use Rattle.sweeps.specs.declared.size_row.SizeRow.{SizeRow}
use Rattle.json_texts.specs.CostFacts.{most_fields}

abbrev pub count_fields : Counts → List Field
count_fields c =
    (codes "time", count c.time) ∷ (codes "work", large c.work) ∷ (codes "width", count c.width) ∷ (codes "reads", large c.reads)
    ∷ (codes "writes", large c.writes) ∷ []

-- how a run came out that didn't fault, and what it costs
abbrev pub run_fields : (way : List ℕ) → Counts → List Field
run_fields way c = (codes "outcome", word way) ∷ (most_fields c.most_exchanges c.most_words ++ count_fields c)

-- of a fault neither exchanges nor words are told
abbrev pub fault_fields : Counts → List ℕ → List Field
fault_fields c fault = (codes "outcome", word (codes "fault")) ∷ (codes "fault", letters fault) ∷ count_fields c

abbrev pub refusal_fields : List ℕ → List Field
refusal_fields refusal = (codes "outcome", word (codes "refused")) ∷ (codes "refusal", letters refusal) ∷ []

abbrev pub ending_fields : Ending → List Field
ending_fields (Ended c) = run_fields (codes "ended") c
ending_fields (GoesOn c) = run_fields (codes "goes on") c
ending_fields (Faulted c fault) = fault_fields c fault.items
ending_fields (Refused refusal) = refusal_fields refusal.items

-- a size by its name and its value, and what the run at it comes to
abbrev pub row_facts : List ℕ → SizeRow → Data
row_facts name row = object_of ((codes "size", letters name) ∷ (codes "value", large row.size) ∷ ending_fields row.ending)

abbrev pub told_fields : (what n : List ℕ) → Growth → List Field
told_fields what n g = (what, letters (growth_words n g)) ∷ []

-- how what is named grows with n, where it is told
abbrev pub growth_fields : (what n : List ℕ) → Growth → List Field
growth_fields what n g = if is_told g then told_fields what n g else []

abbrev pub growths_fields : List ℕ → Growths → List Field
growths_fields n g = growth_fields (codes "time") n g.time ++ growth_fields (codes "work") n g.work

abbrev pub growths_facts : List ℕ → Growths → Data
growths_facts n g = object_of ((codes "at", word (codes "these sizes")) ∷ growths_fields n g)

-- where nothing is told, there is no such line
abbrev pub last_facts : List ℕ → Growths → List Data
last_facts n g = if is_told g.time || is_told g.work then growths_facts n g ∷ [] else []

-- a line a size, and how time and work grow
abbrev pub sweep_facts : List ℕ → List SizeRow → Growths → List Data
sweep_facts name rows g = map (row_facts name) rows ++ last_facts name g
