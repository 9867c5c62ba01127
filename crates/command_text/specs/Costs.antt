-- What the run of a program costs, and the text of it.
use Rattle.std.specs.Prelude.{ℕ, List, ◌++◌, Option, Bool, [], true, false}
use Rattle.costs.specs.declared.cost.Cost.{Cost}
use Rattle.write_rules.specs.Verdict.{Verdict}
use Rattle.costs.specs.CostText.{cost_text, lines_text}

-- a text where it is asked for
abbrev pub if_asked : Bool → List ℕ → List ℕ
if_asked true text = text
if_asked false text = []

-- the costs of a run, and where it is asked for those of each line
abbrev pub costs_text : Verdict → Cost → Option ℕ → Bool → List ℕ
costs_text v c schedule lines = cost_text v c schedule ++ if_asked lines (lines_text c.lines.items)
