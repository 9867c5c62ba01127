use Rattle.std.proofs.Common.{◌≡◌, List, ℤ, take}
use Rattle.pram_model.specs.Layout.{total_size}
use Rattle.all_inputs.specs.Overall.{Cover, Hold}
use Rattle.abstract_runs.proofs.hulls.hulls.Given as goal

-- the declarations so far, and where the next one's cells begin
abbrev pub invariant-loop-entry : goal.invariant-loop-entry
invariant-loop-entry l = (l.first ≡ total_size (take l.entry l.layout))
    × ((memory : List ℤ) → Cover l.cells memory → Hold (take l.entry l.layout) l.found.items memory)
