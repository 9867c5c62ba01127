use Rattle.std.proofs.Common.{◌≡◌, ℕ, length}
use Rattle.superstep_machine.specs.Parts.{fresh}
use Rattle.flat_run.specs.Views.{own_of}
use Rattle.flat_run.proofs.instruct.fresh_processors.Given as goal

abbrev pub invariant-loop : goal.invariant-loop
invariant-loop l = (length l.all.items ≡ l.counter) × ((v : ℕ) → own_of l.all.items v ≡ fresh)
