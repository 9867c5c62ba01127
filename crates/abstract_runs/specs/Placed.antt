-- Where subscripts lead.
use Rattle.std.specs.Prelude.{◌≡◌, ℕ, true, Option, Some, None}
use Rattle.abstract_runs.specs.declared.placing.Place.{Place}
use Rattle.abstract_runs.specs.Tried.{IsReadIn}

-- a cell that is reached, or no cell where a subscript may be outside
abbrev pub IsPlacedBy : Place → Option ℕ → Type 0
IsPlacedBy place None = place.may_be_outside ≡ true
IsPlacedBy place (Some c) = IsReadIn place.reach (Some c)
