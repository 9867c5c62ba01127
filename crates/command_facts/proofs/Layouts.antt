-- Code has few declarations.
use Rattle.std.proofs.Common.{◌≡◌, ◌≤◌, List, [], ◌∷◌, Option, Some, None, ℤ, arith}
use Rattle.std.specs.Prelude.{length, true, int_le}
use Rattle.std.specs.List.{AllByRecursion}
use Rattle.std.proofs.lemmas.Int.{ints}
use Rattle.pram_model.specs.Layout.{SharedEntry, size, total_size, most_cells}
use Rattle.superstep_instructions.specs.Code.{SuperstepCode}
use Rattle.superstep_instructions.specs.Limits.{AreBounds, IsCode, IsEntry}

has_cells : (b : Option (ℤ × ℤ)) → AreBounds b → 1 ≤ size b
has_cells None h = omega (arith)
has_cells (Some (low, high)) h = let ordered : int_le low high ≡ true = grind (arith, ints, h.2) in rw ordered (omega (arith))

few_entries : (layout : List SharedEntry) → AllByRecursion IsEntry layout → length layout ≤ total_size layout
few_entries [] h = omega (arith)
few_entries (e ∷ es) h =
    let one = has_cells e.bounds h.0.are_bounds in
    let rest = few_entries es h.1 in
    omega (arith, one, rest)

pub few_in : (code : SuperstepCode) → IsCode code → length code.layout ≤ most_cells
few_in code h = let few = few_entries code.layout h.layout.entries in let cells = h.layout.cells in omega (arith, few, cells)
