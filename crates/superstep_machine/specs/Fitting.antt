-- Which puts, asks and writes fit in words, and which messages to a module there can be.
use Rattle.std.specs.Prelude.{◌≡◌, ℕ, ◌^◌, ◌<◌, ◌≤◌, [], length, Option, Some, None, ℤ, FitsSigned}
use Rattle.std.specs.List.{AllByRecursion}
use Rattle.std.specs.Int.{w64, w128}
use Rattle.pram_model.specs.declared.rule.Rule.{Rule}
use Rattle.pram_model.specs.declared.rule.Rule.TheVariants.{Sum}
use Rattle.address_map.specs.Lawful.{Shape, IsOf}
use Rattle.superstep_machine.specs.Setting.{Setting}
use Rattle.superstep_machine.specs.Parts.{Read, PrivatePart}
use Rattle.superstep_machine.specs.Words.{CellPut, CellAsk, Message}
use Rattle.superstep_machine.specs.Worker.{HeldWrite, Worker}
use Rattle.superstep_machine.specs.Run.{Purpose, Sends, Replies}

-- a cell of 20 bits, a writer of 64, and a value of 64, or a sum of 128
abbrev pub FitsValue : Rule → ℤ → Type 0
FitsValue Sum z = FitsSigned w128 z
FitsValue rule z = FitsSigned w64 z

pub record FitsPut (rule : Rule) (x : CellPut) : Type 0 where
  pub cell : x.cell < 2 ^ 20
  pub owner : FitsSigned w64 x.entry.owner
  pub value : FitsValue rule x.entry.value

-- at most eight reads
pub record FitsAsk (x : CellAsk) : Type 0 where
  pub cell : x.cell < 2 ^ 20
  pub read : x.read < 2 ^ 3

-- a put that fits in words, for module j
pub record IsPutFor (rule : Rule) (m : Shape) (j : ℕ) (x : CellPut) : Type 0 where
  pub fits : FitsPut rule x
  pub of : IsOf m j x.cell

-- an ask that fits in a word, for module j
pub record IsAskFor (m : Shape) (j : ℕ) (x : CellAsk) : Type 0 where
  pub fits : FitsAsk x
  pub of : IsOf m j x.cell

-- a write of 64 bits to a cell of 20
pub record FitsWrite (w : HeldWrite) : Type 0 where
  pub cell : w.cell < 2 ^ 20
  pub processor : FitsSigned w64 w.processor
  pub value : FitsSigned w64 w.value

-- a send carries puts and asks for the module, a reply values that fit, and the others nothing
abbrev pub CanBeSent : Rule → Shape → ℕ → Purpose → Message → Type 0
CanBeSent rule m j Sends x = AllByRecursion (IsPutFor rule m j) x.puts × AllByRecursion (IsAskFor m j) x.asks × (x.values ≡ [])
CanBeSent rule m j Replies x = (x.puts ≡ []) × (x.asks ≡ []) × AllByRecursion (FitsSigned w64) x.values
CanBeSent rule m j purpose x = (x.puts ≡ []) × (x.asks ≡ []) × (x.values ≡ [])

-- ---- a worker whose values fit

-- no cell, or one of the map
abbrev pub IsCellBelow : ℕ → Option ℕ → Type 0
IsCellBelow n None = Unit {0}
IsCellBelow n (Some c) = c < n

-- Its writes fit and are to cells of the map, which has cells of 20 bits; it holds at most eight reads, of such cells; and the cells
-- of its module have values of 64 bits.
pub record FitsWorker (t : Setting) (s : Worker) : Type 0 where
  pub small : t.map.count ≤ 2 ^ 20
  pub writes : AllByRecursion FitsWrite s.held
  pub written : AllByRecursion (λ (x : HeldWrite). x.cell < t.map.count) s.held
  pub few : length s.uniform.asks ≤ 2 ^ 3
  pub asks : AllByRecursion (λ (read : Read). IsCellBelow t.map.count read.cell) s.uniform.asks
  pub own_asks : AllByRecursion (λ (x : PrivatePart). AllByRecursion (IsCellBelow t.map.count) x.asks) s.own
  pub cells : AllByRecursion (FitsSigned w64) s.cells
