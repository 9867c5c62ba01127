use Rattle.std.proofs.Common.{◌≡◌, ◌+◌, ◌++◌, drop, map}
use Rattle.help.specs.Hints.{before}
use Rattle.diagnoses.proofs.fitting.fronts.Given as goal

-- the rest of the blocks is still to come
abbrev pub invariant-loop-block : goal.invariant-loop-block
invariant-loop-block l =
    l.found.items ++ map (λ b. before b.at l.offsets + 1) (drop l.block-index l.block-items)
    ≡ map (λ b. before b.at l.offsets + 1) l.block-items
