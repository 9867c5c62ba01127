-- Words that are told of costs are enough for a run.
use Rattle.std.proofs.Common.{◌≡◌, ◌∙◌, ℕ, Option, Some, None, ap, arith, sym}
use Rattle.program_runs.specs.Law.{communication}
use Rattle.program_runs.proofs.Bounded.{accesses_within, costs_tell_communication}
use Rattle.command_runs.specs.CostLaws.{CostsBoundWords}

abbrev value : Option ℕ → ℕ
value None = 0
value (Some k) = k

pub costs_bound_words : CostsBoundWords
costs_bound_words program input options reserve v exchanges run meaning fine schedule c cost told is =
    let sent = run.ran.words fine in
    let within = accesses_within program input options.bound v meaning.outcome fine options.workers in
    let bound : told ≡ communication program options.workers input options.bound =
    ap value (sym is ∙ cost.2 ∙ costs_tell_communication program options.workers input options.bound) in
    omega (arith, sent, within, bound)
