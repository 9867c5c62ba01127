-- The asks of a worker, added read by read to what is held.
use Rattle.std.specs.Prelude.{◌≡◌, ℕ, ◌+◌, ◌^◌, ◌<◌, pos, List, Option, [], ◌∷◌, ◌++◌, map}
use Rattle.std.specs.List.{AllByRecursion}
use Rattle.superstep_machine.specs.Setting.{Setting}
use Rattle.superstep_machine.specs.Parts.{Read, PrivatePart}
use Rattle.superstep_machine.specs.Words.{CellAsk}
use Rattle.superstep_machine.specs.Worker.{Worker}
use Rattle.superstep_machine.specs.Fitting.{FitsWorker}
use Rattle.superstep_machine.specs.Sides.{HaveOneSide}
use Rattle.superstep_machine.specs.Sending.{cell_at, present, asks_held}
use Rattle.combining.specs.Asked.{HeldAsk, IsAskBelow, ask}

-- the cells of read k: the uniform part's, then those of the processors in order
abbrev pub cells_added : Worker → Read → ℕ → List ℕ
cells_added s read k = present (read.cell ∷ map (λ (x : PrivatePart). cell_at k x.asks) s.own)

-- read by read from number k on, the number of the read with each cell
abbrev pub asked_from : Worker → ℕ → List Read → List (ℕ × ℕ)
asked_from s k [] = []
asked_from s k (read ∷ rest) = map (λ (c : ℕ). (k, c)) (cells_added s read k) ++ asked_from s (k + 1) rest

abbrev pub asked_by : Worker → List (ℕ × ℕ)
asked_by s = asked_from s 0 s.uniform.asks

-- cells that are asked for by a read of that number
abbrev pub by_read : ℕ → List (Option ℕ) → List (ℕ × ℕ)
by_read k cells = map (λ (c : ℕ). (k, c)) (present cells)

-- what is held after some asks, one by one
abbrev pub asked_after : List (ℕ × ℕ) → List HeldAsk → List HeldAsk
asked_after [] held = held
asked_after (a ∷ rest) held = asked_after rest (ask a.0 a.1 held)

-- an ask for which no value came
abbrev pub unanswered : CellAsk → HeldAsk
unanswered x = record { ask = x; value = pos 0 }

-- What a worker's reads ask for, added to nothing, is what the machine's worker holds, with no value yet. The premise is needed: a cell
-- that the uniform part and one processor ask for by the same read would be marked here, and the machine counts processors alone.
abbrev pub AddedAsksAreTheMachines : Type 0
AddedAsksAreTheMachines = (s : Worker) → HaveOneSide s.own 0 s.uniform.asks → AllByRecursion (λ (a : ℕ × ℕ). a.1 < 2 ^ 20) (asked_by s) →
    asked_after (asked_by s) [] ≡ map unanswered (asks_held s)

-- of a worker that fits, each is of one of eight reads and of a cell of the map; ..
abbrev pub AsksCanBeAdded : Type 0
AsksCanBeAdded = (t : Setting) (s : Worker) → FitsWorker t s →
    AllByRecursion (λ (a : ℕ × ℕ). (a.0 < 2 ^ 3) × (a.1 < t.map.count)) (asked_by s)

-- .. so what is held after them is the machine's
abbrev pub FittingAsksAreTheMachines : Type 0
FittingAsksAreTheMachines = (t : Setting) (s : Worker) → FitsWorker t s → HaveOneSide s.own 0 s.uniform.asks →
    asked_after (asked_by s) [] ≡ map unanswered (asks_held s)

-- asks of cells below n leave those of cells below n
abbrev pub CellsStayBelow : Type 0
CellsStayBelow = (n : ℕ) (asks : List (ℕ × ℕ)) (held : List HeldAsk) → AllByRecursion (λ (a : ℕ × ℕ). a.1 < n) asks →
    AllByRecursion (IsAskBelow n) held → AllByRecursion (IsAskBelow n) (asked_after asks held)
