use Rattle.std.proofs.Common.{◌≡◌, drop}
use Rattle.pram_meaning.specs.Attempt.{attempt}
use Rattle.pram_meaning.specs.Runs.{view_is}
use Rattle.pram_meaning.proofs.Links.{attempt_items}
use Rattle.pram_meaning.proofs.attempt.+value_of.Given as goal

-- what is left gives what the whole gives
abbrev pub invariant-loop-link : goal.invariant-loop-link
invariant-loop-link l =
    attempt (view_is l.view) l.e l.fn.trail.items ≡ attempt_items (view_is l.view) (drop l.link-index l.link-items) l.trail.items l.value
