-- What the marks of refused memory and of a passed reserve do to a run, whatever its code.
use Rattle.std.specs.Prelude.{◌≡◌, ℕ, suc, ◌+◌, ◌<◌, ◌≤◌, List, [], ◌∷◌, drop, Option, Some, None, ℤ, false}
use Rattle.std.specs.List.{range_with_len}
use Rattle.write_rules.specs.Verdict.{Verdict}
use Rattle.superstep_machine.specs.declared.mark.HeaderMark.{HeaderMark}
use Rattle.superstep_machine.specs.declared.mark.HeaderMark.TheVariants.{Clear, OutOfMemory}
use Rattle.superstep_machine.specs.Marks.{mark_among}
use Rattle.superstep_machine.specs.Setting.{Setting, workers}
use Rattle.superstep_machine.specs.Words.{Message}
use Rattle.superstep_machine.specs.Machine.{phase, phases, run}
use Rattle.superstep_machine.specs.Run.{State, mark_now, stopped, ready, message_of, mark_of, after, is_over, bsp, opening, outcome_by}

-- a worker with other marks to come
abbrev pub with_marks : List HeaderMark → State → State
with_marks marks s = record s { refusals = marks }

-- of these marks the first alone says what a stretch sends ..
abbrev pub FirstIsSent : Type 0
FirstIsSent = (t : Setting) (w : ℕ) (s : State) (mark : HeaderMark) (one other : List HeaderMark) (j : ℕ) →
    message_of t w (with_marks (mark ∷ one) s) j ≡ message_of t w (with_marks (mark ∷ other) s) j

-- .. and where neither it nor a header that comes is a mark, the rest is left to what follows, and nothing else is changed
abbrev pub RestIsLeft : Type 0
RestIsLeft = (t : Setting) (w : ℕ) (s : State) (rest : List HeaderMark) (column : List Message) → mark_of column ≡ Clear →
    after t w (ready t w (with_marks (Clear ∷ rest) s)) column ≡ with_marks rest (after t w (ready t w (with_marks [] s)) column)

-- the marks of all workers in the stretch that comes, together
abbrev pub mark_of_all : Setting → (ℕ → State) → HeaderMark
mark_of_all t ws = mark_among (λ w. mark_now (ws w).refusals) (range_with_len 0 (workers t))

-- the mark of any worker counts, refused memory goes first, and no worker's mark is made up
abbrev pub AnyMarkCounts : Type 0
AnyMarkCounts = (t : Setting) (ws : ℕ → State) (w : ℕ) → w < workers t → mark_of_all t ws ≡ Clear → mark_now (ws w).refusals ≡ Clear

abbrev pub MemoryGoesFirst : Type 0
MemoryGoesFirst = (t : Setting) (ws : ℕ → State) (w : ℕ) → w < workers t → mark_now (ws w).refusals ≡ OutOfMemory →
    mark_of_all t ws ≡ OutOfMemory

abbrev pub MarkIsAWorkers : Type 0
MarkIsAWorkers = (t : Setting) (ws : ℕ → State) → (mark_of_all t ws ≡ Clear → ⊥) →
    (w : ℕ) × (w < workers t) × (mark_now (ws w).refusals ≡ mark_of_all t ws)

-- Whatever the states of the workers: where one of them has a mark, all have stopped behind the exchange ..
abbrev pub MarksStopAll : Type 0
MarksStopAll = (t : Setting) (ws : ℕ → State) → (mark_of_all t ws ≡ Clear → ⊥) → (w : ℕ) →
    phase (bsp t) (workers t) ws w ≡ stopped (mark_of_all t ws)

-- .. and a run that isn't over has no outcome.
abbrev pub MarkedRunsEnd : Type 0
MarkedRunsEnd = (t : Setting) (ws : ℕ → State) → (mark_of_all t ws ≡ Clear → ⊥) → is_over (ws 0).way ≡ false → (n : ℕ) →
    run (bsp t) (workers t) (suc (suc n)) ws ≡ Some None

-- ---- whole runs

-- the workers at the beginning, with the marks of each
abbrev pub opening_with : Setting → List ℤ → (ℕ → List HeaderMark) → ℕ → State
opening_with t input marks w = with_marks (marks w) (opening t input w)

-- in the first n stretches no worker has a mark
abbrev pub AreClearBefore : Setting → (ℕ → List HeaderMark) → ℕ → Type 0
AreClearBefore t marks n = (k w : ℕ) → k < n → w < workers t → mark_now (drop k (marks w)) ≡ Clear

-- the marks of stretch n, numbered from 0, together
abbrev pub mark_at : Setting → (ℕ → List HeaderMark) → ℕ → HeaderMark
mark_at t marks n = mark_among (λ w. mark_now (drop n (marks w))) (range_with_len 0 (workers t))

-- up to the first mark the run is that without marks ..
abbrev pub SameBeforeMarks : Type 0
SameBeforeMarks = (t : Setting) (input : List ℤ) (marks : ℕ → List HeaderMark) (n : ℕ) → AreClearBefore t marks n → (w : ℕ) →
    w < workers t →
    phases (bsp t) (workers t) n (opening_with t input marks) w ≡ with_marks (drop n (marks w))
    (phases (bsp t) (workers t) n (opening t input) w)

-- .. with the outcome of that where it is over by then; ..
abbrev pub SameOutcomeBefore : Type 0
SameOutcomeBefore = (t : Setting) (input : List ℤ) (marks : ℕ → List HeaderMark) (n : ℕ) → 0 < workers t →
    AreClearBefore t marks n → (outcome : Option Verdict) →
    outcome_by t (suc n) input ≡ Some outcome → run (bsp t) (workers t) (suc n) (opening_with t input marks) ≡ Some outcome

-- .. and at that mark all stop, without an outcome if the run isn't over.
abbrev pub AllStopAtAMark : Type 0
AllStopAtAMark = (t : Setting) (input : List ℤ) (marks : ℕ → List HeaderMark) (n : ℕ) → AreClearBefore t marks n →
    (mark_at t marks n ≡ Clear → ⊥) →
    (w : ℕ) → phases (bsp t) (workers t) (suc n) (opening_with t input marks) w ≡ stopped (mark_at t marks n)

abbrev pub NoOutcomeAtAMark : Type 0
NoOutcomeAtAMark = (t : Setting) (input : List ℤ) (marks : ℕ → List HeaderMark) (n : ℕ) → AreClearBefore t marks n →
    (mark_at t marks n ≡ Clear → ⊥) →
    outcome_by t (suc n) input ≡ None → (m : ℕ) → n + 2 ≤ m → run (bsp t) (workers t) m (opening_with t input marks) ≡ Some None
