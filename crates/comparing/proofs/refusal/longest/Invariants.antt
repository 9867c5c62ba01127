use Rattle.std.proofs.Common.{◌≡◌, ℤ, List, drop, length, map, max}
use Rattle.std.specs.List.{fold}
use Rattle.comparing.specs.Found.{longest, values_of}
use Rattle.comparing.proofs.refusal.longest.Given as goal

-- with those that are left, it comes to the most of all
abbrev pub invariant-loop-input : goal.invariant-loop-input
invariant-loop-input l =
    fold max l.most (map (λ (input : List ℤ). length input) (map values_of (drop l.input-index l.fn.inputs)))
    ≡ longest (map values_of l.fn.inputs)
