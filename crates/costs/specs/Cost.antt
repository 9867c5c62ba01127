-- What a run costs, as sums over its time steps.
-- Time and work of an algorithm, and Brent's scheduling principle: JáJá, An Introduction to Parallel Algorithms, chapter 1.
use Rattle.std.specs.Prelude.{ℕ, ◌+◌, ◌-◌, ◌/◌, ◌≤◌, ◌<◌, max, List, [], ◌∷◌, length, map, Bool, nat_eq, nat_lt}
use Rattle.std.specs.List.{filter, sum_by}
use Rattle.pram_meaning.specs.Store.{numbers}
use Rattle.costs.specs.declared.line_cost.LineCost.{LineCost}
use Rattle.costs.specs.declared.time_step.TimeStep.{TimeStep}

-- how many statements ran
abbrev pub time : List TimeStep → ℕ
time ss = length ss

-- for each of them one for each processor that executed it
abbrev pub work : List TimeStep → ℕ
work ss = sum_by (λ s. s.processors) ss

-- the most processors at once
abbrev pub most_processors : List TimeStep → ℕ
most_processors [] = 0
most_processors (s ∷ ss) = max s.processors (most_processors ss)

abbrev pub reads : List TimeStep → ℕ
reads ss = sum_by (λ s. s.reads) ss

abbrev pub writes : List TimeStep → ℕ
writes ss = sum_by (λ s. s.writes) ss

-- the rounds in which q processors do what k processors do at once: k / q, rounded up, and at least one
abbrev pub rounds_for : ℕ → ℕ → ℕ
rounds_for q k = 1 + (k - 1) / q

-- those of a whole run
abbrev pub rounds : ℕ → List TimeStep → ℕ
rounds q ss = sum_by (λ s. rounds_for q s.processors) ss

-- the time steps of a line
abbrev pub on_line : List TimeStep → ℕ → List TimeStep
on_line ss l = filter (λ s. nat_eq s.line l) ss

-- how often a line ran, and the work and the accesses of its time steps
abbrev pub line_cost : List TimeStep → ℕ → LineCost
line_cost ss l = record {
  line = l;
  times = time (on_line ss l);
  work = work (on_line ss l);
  reads = reads (on_line ss l);
  writes = writes (on_line ss l);
}

abbrev pub has_run : List TimeStep → ℕ → Bool
has_run ss l = nat_lt 0 (time (on_line ss l))

-- the last line of any time step
abbrev pub last_line : List TimeStep → ℕ
last_line [] = 0
last_line (s ∷ ss) = max s.line (last_line ss)

-- of each line that ran what it costs, in ascending order
abbrev pub line_costs : List TimeStep → List LineCost
line_costs ss = map (line_cost ss) (filter (has_run ss) (numbers 0 (last_line ss + 1)))

-- Brent's principle: q processors need no more rounds than the work divided by q, and the time.
abbrev pub BrentsPrinciple : Type 0
BrentsPrinciple = (q : ℕ) (ss : List TimeStep) → 0 < q → rounds q ss ≤ work ss / q + time ss
