-- The order of places (this project's own profile).
use Rattle.std.specs.Prelude.{Bool, true, false, int_lt, nat_lt}
use Rattle.pram_values.specs.declared.place.Place.{Place}
use Rattle.pram_values.specs.declared.place.Place.TheVariants.{All, Processor, Cell}

-- `all` comes first, then the processors by index, then the cells by number
abbrev pub is_place_before : Place → Place → Bool
is_place_before All All = false
is_place_before All (Processor j) = true
is_place_before All (Cell d) = true
is_place_before (Processor i) All = false
is_place_before (Processor i) (Processor j) = int_lt i j
is_place_before (Processor i) (Cell d) = true
is_place_before (Cell c) All = false
is_place_before (Cell c) (Processor j) = false
is_place_before (Cell c) (Cell d) = nat_lt c d
