use Rattle.std.proofs.Common.{◌≡◌, ◌+◌, drop, take}
use Rattle.pram_model.specs.Layout.{total_size}
use Rattle.comparing.specs.Common.{front_cells}
use Rattle.comparing.proofs.common.front_cells.Given as goal

-- the cells of the declarations so far, and those at the front of what is left
abbrev pub invariant-loop-i : goal.invariant-loop-i
invariant-loop-i l =
    front_cells l.fn.first l.fn.second
    ≡ total_size (take l.i l.fn.first) + front_cells (drop l.i l.fn.first) (drop l.i l.fn.second)
