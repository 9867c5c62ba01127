-- Accesses whose cells ascend, so that no two of them go to one cell.
use Rattle.std.specs.Prelude.{◌≡◌, ◌≤◌, ◌+◌, ℕ, ℤ, ⊤, false, List, [], ◌∷◌, Option, Some, None, slice_set}
use Rattle.pram_model.specs.declared.rule.Rule.{Rule}
use Rattle.write_rules.specs.Rule.{is_sum}
use Rattle.pram_meaning.specs.declared.access.Access.{Access}
use Rattle.pram_meaning.specs.Attempt.{Attempt, Gives, Fails, Effect}

-- a cell is `least` or comes behind it, and `next` is the one behind it; where there is none, nothing changes
abbrev pub IsPast : ℕ → Option ℕ → ℕ → Type 0
IsPast least None next = next ≡ least
IsPast least (Some c) next = (least ≤ c) × (next ≡ c + 1)

-- each cell comes behind the one before, and the first one is `least` or comes behind it
abbrev pub AscendFrom : ℕ → List Access → Type 0
AscendFrom least [] = ⊤
AscendFrom least (a ∷ bs) = (least ≤ a.cell) × AscendFrom (a.cell + 1) bs

-- writes of which each leaves its own value in its cell
pub record AreApart (rule : Rule) (all : List Access) : Type 0 where
  pub plain : is_sum rule ≡ false
  pub ascend : AscendFrom 0 all

-- the cell that an attempt writes
abbrev pub cell_written : Attempt Effect → Option ℕ
cell_written (Gives t x) = x.cell
cell_written (Fails t k) = None

-- a cell gets the value, if there is one
abbrev pub with_write : Option ℕ → ℤ → List ℤ → List ℤ
with_write None v cells = cells
with_write (Some c) v cells = slice_set cells c v
