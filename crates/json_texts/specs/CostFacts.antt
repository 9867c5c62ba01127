-- What JSON says of the costs of a run.
use Rattle.std.specs.Prelude.{ℕ, List, [], ◌∷◌, ◌++◌, Bool, true, false, Option, Some, None, codes, map}
use Rattle.serde_json.specs.Data.{Data}
use Rattle.json_texts.specs.Facts.{Field, count, large, list, object_of}
use Rattle.pram_model.specs.Layout.{SharedEntry}
use Rattle.write_rules.specs.Verdict.{Verdict, Ended, Faulted, GoesOn}
use Rattle.costs.specs.declared.cost.Cost.{Cost}
use Rattle.costs.specs.declared.line_cost.LineCost.{LineCost}
use Rattle.json_texts.specs.OutcomeFacts.{outcome_fields}

abbrev pub work_fields : Cost → List Field
work_fields c =
    (codes "time", count c.time) ∷ (codes "work", large c.work) ∷ (codes "width", count c.width) ∷ (codes "reads", large c.reads)
    ∷ (codes "writes", large c.writes) ∷ []

-- the most exchanges, and the most words where a number of workers was given
abbrev pub most_fields : (exchanges : ℕ) (words : Option ℕ) → List Field
most_fields exchanges None = (codes "exchanges_at_most", large exchanges) ∷ []
most_fields exchanges (Some words) = (codes "exchanges_at_most", large exchanges) ∷ (codes "words_at_most", large words) ∷ []

-- both are told where the run doesn't fault
abbrev pub bound_fields : Verdict → Cost → List Field
bound_fields (Ended output memory) c = most_fields c.most_exchanges c.most_words
bound_fields (Faulted fault output) c = []
bound_fields (GoesOn output) c = most_fields c.most_exchanges c.most_words

-- the rounds on so many processors, and what Brent's principle allows
abbrev pub round_fields : Cost → Option ℕ → List Field
round_fields c None = []
round_fields c (Some q) =
    (codes "processors", count q) ∷ (codes "rounds", large c.rounds) ∷ (codes "rounds_at_most", large c.most_rounds) ∷ []

-- what a line costs
abbrev pub line_facts : LineCost → Data
line_facts c =
    object_of ((codes "line", count c.line) ∷ (codes "times", count c.times) ∷ (codes "work", large c.work) ∷ (codes "reads", large c.reads)
    ∷ (codes "writes", large c.writes) ∷ [])

-- what each line costs, where that is asked for
abbrev pub line_fields : Cost → Bool → List Field
line_fields c true = (codes "lines", list (map line_facts c.lines.items)) ∷ []
line_fields c false = []

-- what a run costs, and then its outcome
abbrev pub cost_fields : List SharedEntry → Verdict → Cost → Option ℕ → (lines : Bool) → List Field
cost_fields layout v c schedule lines =
    work_fields c ++ (bound_fields v c ++ (round_fields c schedule ++ (line_fields c lines ++ outcome_fields layout v)))

abbrev pub cost_facts : List SharedEntry → Verdict → Cost → Option ℕ → (lines : Bool) → Data
cost_facts layout v c schedule lines = object_of (cost_fields layout v c schedule lines)
