-- The puts and the asks of a module that any words are, each with the offset of its cell.
use Rattle.std.specs.Prelude.{◌≡◌, ℕ, ◌<◌, List, map, Option, Some, None}
use Rattle.pram_model.specs.declared.rule.Rule.{Rule}
use Rattle.address_map.specs.Lawful.{Shape, IsOf}
use Rattle.superstep_machine.specs.Words.{CellPut, CellAsk}
use Rattle.superstep_machine.specs.WordReading.{puts_in, asks_in}
use Rattle.combining.specs.declared.words.PlacedPut.{PlacedPut}
use Rattle.combining.specs.declared.words.PlacedAsk.{PlacedAsk}

abbrev pub placed : Shape → CellPut → PlacedPut
placed m x = record { cell = x.cell; offset = m.offset x.cell; entry = x.entry }

abbrev pub placed_if : Shape → Option CellPut → Option PlacedPut
placed_if m None = None
placed_if m (Some x) = Some (placed m x)

abbrev pub puts_placed : Rule → Shape → ℕ → List ℕ → List PlacedPut
puts_placed rule m j words = map (placed m) (puts_in rule m j words)

abbrev pub ask_placed : Shape → CellAsk → PlacedAsk
ask_placed m x = record { cell = x.cell; offset = m.offset x.cell; read = x.read; twice = x.twice }

abbrev pub ask_placed_if : Shape → Option CellAsk → Option PlacedAsk
ask_placed_if m None = None
ask_placed_if m (Some x) = Some (ask_placed m x)

abbrev pub asks_placed : Shape → ℕ → List ℕ → List PlacedAsk
asks_placed m j words = map (ask_placed m) (asks_in m j words)

-- a cell of module j, and its offset there
pub record IsPlaced (m : Shape) (j cell offset : ℕ) : Type 0 where
  pub of : IsOf m j cell
  pub is : offset ≡ m.offset cell
  pub within : offset < m.width j
