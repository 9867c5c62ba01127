-- The nearest of some names to another one.
use Rattle.std.specs.Prelude.{ℕ, List, Option, map}
use Rattle.std.specs.Option.{option_map}
use Rattle.help.specs.InScope.{Known}
use Rattle.help.specs.Nearness.{nearest}
use Rattle.help.specs.declared.known.Sort.TheVariants.{Variable}

-- a name of which nothing more is known
abbrev pub plain : List ℕ → Known
plain name = record { name = name; line = 0; sort = Variable }

-- the nearest of those that are near enough, and of equally near ones the first
abbrev pub nearest_name : List (List ℕ) → List ℕ → Option (List ℕ)
nearest_name names name = option_map (λ k. k.name) (nearest (map plain names) name)
