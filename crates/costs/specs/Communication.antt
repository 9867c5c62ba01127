-- How many words p workers send for a run, at most, by the shared reads and writes that the run's costs count: work bounds communication.
use Rattle.std.specs.Prelude.{◌≡◌, ℕ, ◌+◌, ◌*◌, ◌≤◌, List, [], ◌∷◌, Option, Some, None, ℤ}
use Rattle.std.specs.List.{flat_map}
use Rattle.pram_model.specs.declared.rule.Rule.{Rule}
use Rattle.pram_model.specs.declared.rule.Rule.TheVariants.{Sum}
use Rattle.write_rules.specs.declared.fault.Fault.{Fault}
use Rattle.write_rules.specs.Verdict.{Verdict, Faulted}
use Rattle.pram_check.specs.Checked.{Checked}
use Rattle.pram_meaning.specs.Moments.{Moment, Alone, Together, Closed, run_moments}
use Rattle.pram_meaning.specs.Outcome.{IsOutcome}
use Rattle.exchange_bound.specs.Accesses.{words}
use Rattle.exchange_bound.specs.Events.{events_of}
use Rattle.costs.specs.declared.time_step.TimeStep.{TimeStep}
use Rattle.costs.specs.Cost.{reads, writes}
use Rattle.costs.specs.Steps.{by_one, by_set, run_steps}

-- the time steps of the statements of sets, inside pardo ..
abbrev pub steps_inside : Moment → List TimeStep
steps_inside (Together here act before xs k after) = by_set here.line xs k ∷ []
steps_inside (Alone here act before a after) = []
steps_inside Closed = []

-- .. and of those of the one processor outside
abbrev pub steps_outside : Moment → List TimeStep
steps_outside (Together here act before xs k after) = []
steps_outside (Alone here act before a after) = by_one here.line a ∷ []
steps_outside Closed = []

abbrev pub inside : Checked → List ℤ → ℕ → List TimeStep
inside p input n = flat_map steps_inside (run_moments p input n)

abbrev pub outside : Checked → List ℤ → ℕ → List TimeStep
outside p input n = flat_map steps_outside (run_moments p input n)

-- With p workers, where a write takes k words: 2 r + k w for r reads and w writes inside pardo, and 2 p u + k v for u reads and v writes
-- outside.
abbrev pub words_at_most : Checked → (workers write : ℕ) → List ℤ → ℕ → ℕ
words_at_most p workers write input n =
    (2 * reads (inside p input n) + write * writes (inside p input n))
    + (2 * workers * reads (outside p input n) + write * writes (outside p input n))

-- the words of a write: the cell, the writer and the value, which has two under the rule sum
abbrev pub write_words : Rule → ℕ
write_words Sum = 4
write_words rule = 3

-- That for a number of workers, where one is given.
abbrev pub most_words : Checked → (workers : Option ℕ) → List ℤ → ℕ → Option ℕ
most_words p None input n = None
most_words p (Some workers) input n = Some (words_at_most p workers (write_words p.rule) input n)

-- In a run that doesn't fault the words of its accesses are no more than that.
abbrev pub AccessesAreCounted : Type 0
AccessesAreCounted = (p : Checked) (input : List ℤ) (n : ℕ) (verdict : Verdict) → IsOutcome p input n verdict →
    ((fault : Fault) (output : List ℤ) → ¬ (verdict ≡ Faulted fault output)) → (workers write : ℕ) →
    words workers write (events_of p input n) ≤ words_at_most p workers write input n

-- Inside and outside together there are as many reads and writes as the run's costs count.
abbrev pub InsideAndOutsideAreAll : Type 0
InsideAndOutsideAreAll = (p : Checked) (input : List ℤ) (n : ℕ) →
    (reads (inside p input n) + reads (outside p input n) ≡ reads (run_steps p input n))
    × (writes (inside p input n) + writes (outside p input n) ≡ writes (run_steps p input n))
