-- What is counted of a run, time step by time step.
use Rattle.std.specs.Prelude.{ℕ, ◌+◌, max, List, [], ◌∷◌}
use Rattle.costs.specs.declared.time_step.TimeStep.{TimeStep}
use Rattle.costs.specs.Cost.{rounds_for}

-- what was counted so far, where rounds are those on some number of processors
pub record Totals : Type 0 where
  pub time : ℕ
  pub work : ℕ
  pub width : ℕ
  pub reads : ℕ
  pub writes : ℕ
  pub rounds : ℕ

-- before the first time step
abbrev pub nothing : Totals
nothing = record { time = 0; work = 0; width = 0; reads = 0; writes = 0; rounds = 0 }

-- one time step more
abbrev pub added : ℕ → TimeStep → Totals → Totals
added q s t = record {
  time = t.time + 1;
  work = t.work + s.processors;
  width = max t.width s.processors;
  reads = t.reads + s.reads;
  writes = t.writes + s.writes;
  rounds = t.rounds + rounds_for q s.processors;
}

abbrev pub added_all : ℕ → List TimeStep → Totals → Totals
added_all q [] t = t
added_all q (s ∷ ss) t = added_all q ss (added q s t)
