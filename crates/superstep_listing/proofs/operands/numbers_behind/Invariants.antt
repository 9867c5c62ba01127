use Rattle.std.proofs.Common.{◌≡◌, ◌++◌, length}
use Rattle.std.specs.List.{AllByRecursion}
use Rattle.superstep_instructions.specs.Code.{Wide}
use Rattle.superstep_listing.specs.Cutting.{behind_word, spaced}
use Rattle.superstep_instructions.specs.Limits.{Fits}
use Rattle.superstep_listing.proofs.operands.numbers_behind.Given as goal

abbrev pub invariant-loop-left : goal.invariant-loop-left
invariant-loop-left l = record {
  read : behind_word l.fn.behind ≡ spaced l.found.items ++ behind_word l.left;
  fit : AllByRecursion (λ z. Fits (Wide z)) l.found.items;
}

abbrev pub decreases-loop-left : goal.decreases-loop-left
decreases-loop-left l = length (behind_word l.left)
