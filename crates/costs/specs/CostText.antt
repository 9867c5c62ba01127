-- How the costs of a run are written.
use Rattle.std.specs.Prelude.{ℕ, List, [], ◌∷◌, ◌++◌, Option, Some, None, codes, decimal}
use Rattle.write_rules.specs.Verdict.{Verdict, Ended, Faulted, GoesOn}
use Rattle.costs.specs.declared.cost.Cost.{Cost}
use Rattle.costs.specs.declared.line_cost.LineCost.{LineCost}

-- a number in decimal behind some words, and the end of its line
abbrev pub fact : List ℕ → ℕ → List ℕ
fact words number = words ++ (decimal number ++ codes "\n")

abbrev pub work_lines : Cost → List ℕ
work_lines c = fact (codes "time ") c.time ++ (fact (codes "work ") c.work ++ fact (codes "width ") c.width)

abbrev pub access_lines : Cost → List ℕ
access_lines c = fact (codes "reads ") c.reads ++ fact (codes "writes ") c.writes

-- `words at most 25`, where a number of workers was given
abbrev pub words_line : Option ℕ → List ℕ
words_line None = []
words_line (Some words) = fact (codes "words at most ") words

-- `exchanges at most 10`, and the words behind it
abbrev pub most_lines : Cost → List ℕ
most_lines c = fact (codes "exchanges at most ") c.most_exchanges ++ words_line c.most_words

-- both are told where the run doesn't fault
abbrev pub bound_lines : Verdict → Cost → List ℕ
bound_lines (Ended output memory) c = most_lines c
bound_lines (Faulted fault output) c = []
bound_lines (GoesOn output) c = most_lines c

-- `rounds on 4: 17`, and what Brent's principle allows
abbrev pub round_lines : Cost → ℕ → List ℕ
round_lines c q = fact (codes "rounds on " ++ (decimal q ++ codes ": ")) c.rounds ++ fact (codes "at most ") c.most_rounds

abbrev pub schedule_lines : Cost → Option ℕ → List ℕ
schedule_lines c None = []
schedule_lines c (Some q) = round_lines c q

-- each fact on a line of its own
abbrev pub cost_text : Verdict → Cost → Option ℕ → List ℕ
cost_text v c schedule = work_lines c ++ (access_lines c ++ (bound_lines v c ++ schedule_lines c schedule))

-- `line 4 times 2 work 9 reads 8 writes 8`
abbrev pub line_text : LineCost → List ℕ
line_text c =
    codes "line " ++ (decimal c.line ++ (codes " times " ++ (decimal c.times ++ (codes " work " ++ (decimal c.work
    ++ (codes " reads " ++ (decimal c.reads ++ (codes " writes " ++ (decimal c.writes ++ codes "\n")))))))))

-- each of these lines
abbrev pub lines_text : List LineCost → List ℕ
lines_text [] = []
lines_text (c ∷ cs) = line_text c ++ lines_text cs
