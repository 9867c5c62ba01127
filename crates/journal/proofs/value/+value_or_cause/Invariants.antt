use Rattle.std.proofs.Common.{◌≡◌, drop}
use Rattle.pram_meaning.specs.Runs.{view_is}
use Rattle.journal.specs.FoundCauses.{value_or_cause}
use Rattle.journal.proofs.Links.{items_or_cause}
use Rattle.journal.proofs.value.+value_or_cause.Given as goal

-- what is left gives what the whole gives
abbrev pub invariant-loop-link : goal.invariant-loop-link
invariant-loop-link l =
    value_or_cause (view_is l.view) l.e ≡ items_or_cause (view_is l.view) (drop l.link-index l.link-items) l.value
