-- What events spend: exchanges, and the words of their accesses by the weight of the run.
use Rattle.std.specs.Prelude.{ℕ, ◌+◌, ◌*◌, List, [], ◌∷◌, length, Bool, false, Some}
use Rattle.flat_stretches.specs.Along.{Run}
use Rattle.exchange_words.specs.Accesses.{of_write}
use Rattle.pram_names.specs.declared.body.Expression.{Expression}
use Rattle.plain_form.specs.Formulas.{Formula, formula_of, nesting, reads}
use Rattle.exchange_bound.specs.Events.{Event, Runs, Cut, Votes, levels}
use Rattle.exchange_bound.specs.Events as event
use Rattle.exchange_bound.specs.Accesses.{words_by}
use Rattle.exchange_bound.specs.Spent.{spent_by, held_after}

abbrev pub weighs : Run → Event → ℕ
weighs t (Runs levels writes set reads) = t.weight * words_by t.workers (of_write t.code.rule) (Runs levels writes set reads)
weighs t Cut = 0
weighs t Votes = 0

abbrev pub spent : Run → List Event → Bool → ℕ
spent t [] held = 0
spent t (e ∷ es) held = spent_by e held + weighs t e + spent t es (held_after e held)

-- ---- what the code of a formula spends: two exchanges for each level of its reads, and the words of these

-- outside pardo
abbrev pub evaluating : Run → Formula → ℕ
evaluating t f = 2 * nesting f + t.weight * (2 * t.workers * reads f)

-- and by k processors
abbrev pub evaluating_on : Run → (k : ℕ) → Formula → ℕ
evaluating_on t k f = 2 * nesting f + t.weight * (2 * k * reads f)

-- a write, of one processor
abbrev pub write_weighs : Run → ℕ
write_weighs t = t.weight * of_write t.code.rule

abbrev pub writes_weigh : Run → (k : ℕ) → ℕ
writes_weigh t k = t.weight * (of_write t.code.rule * k)

-- ---- the test of a set: its event, and what its code spends

abbrev pub tests_on : List ℕ → Expression → Event
tests_on vs e = Runs (levels e) false (Some (length vs)) (event.reads e)

abbrev pub testing_costs : Run → List ℕ → Expression → ℕ
testing_costs t vs e = evaluating_on t (length vs) (formula_of e)
