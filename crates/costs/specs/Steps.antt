-- What a run takes, moment by moment.
-- A run as a sequence of time units, in each of which some processors act: JáJá, An Introduction to Parallel Algorithms, chapter 1 (the
-- work-time presentation). What counts as one statement is this project's own profile.
use Rattle.std.specs.Prelude.{ℕ, ◌+◌, List, [], ◌∷◌, Option, Some, None, ℤ, length}
use Rattle.std.specs.List.{flat_map, sum_by}
use Rattle.pram_check.specs.Checked.{Checked}
use Rattle.pram_meaning.specs.declared.key.Key.{Key}
use Rattle.pram_meaning.specs.Attempt.{Attempt, Gives, Fails, Trail, Effect}
use Rattle.pram_meaning.specs.Conflict.{Part, trail_of}
use Rattle.pram_meaning.specs.Moments.{Moment, Alone, Together, Closed, run_moments}
use Rattle.costs.specs.declared.time_step.TimeStep.{TimeStep}

-- ---- the shared accesses of one processor

-- the reads of a trail
abbrev pub reads_on : Trail → ℕ
reads_on [] = 0
reads_on (None ∷ t) = reads_on t
reads_on (Some c ∷ t) = 1 + reads_on t

-- the write of a value that goes to a cell
abbrev pub writes_to : Option ℕ → ℕ
writes_to None = 0
writes_to (Some c) = 1

abbrev pub effect_writes : Effect → ℕ
effect_writes g = writes_to g.cell

abbrev pub part_reads : Part → ℕ
part_reads x = reads_on (trail_of x.attempt)

abbrev pub attempt_writes : Attempt Effect → ℕ
attempt_writes (Gives t g) = effect_writes g
attempt_writes (Fails t k) = 0

abbrev pub part_writes : Part → ℕ
part_writes x = attempt_writes x.attempt

-- ---- one statement: where it faults, none of its accesses counts

-- so many processors act, and access no shared memory
abbrev pub acting : ℕ → ℕ → TimeStep
acting line k = record { line = line; processors = k; reads = 0; writes = 0 }

-- by the one processor outside pardo
abbrev pub by_one : ℕ → Attempt (Option ℕ) → TimeStep
by_one line (Gives t c) = record { line = line; processors = 1; reads = reads_on t; writes = writes_to c }
by_one line (Fails t k) = acting line 1

-- by a set
abbrev pub by_set : ℕ → List Part → Option Key → TimeStep
by_set line xs None = record { line = line; processors = length xs; reads = sum_by part_reads xs; writes = sum_by part_writes xs }
by_set line xs (Some k) = acting line (length xs)

-- ---- a run

-- each statement that begins takes a time step
abbrev pub steps_of : Moment → List TimeStep
steps_of (Alone here act before a after) = by_one here.line a ∷ []
steps_of (Together here act before xs k after) = by_set here.line xs k ∷ []
steps_of Closed = []

-- those of a program's run on an input, of at most n statements
abbrev pub run_steps : Checked → List ℤ → ℕ → List TimeStep
run_steps p input n = flat_map steps_of (run_moments p input n)
