-- A run of all workers to its end.
use Rattle.std.specs.Prelude.{◌≡◌, ℕ, ◌<◌, List, [], ◌∷◌, map, length, Option, Some, None, true, false, ℤ, pos, slice_get, slice_index_or}
use Rattle.std.specs.List.{range_with_len}
use Rattle.pram_model.specs.Layout.{total_size}
use Rattle.address_map.specs.Lawful.{Shape}
use Rattle.superstep_instructions.specs.Code.{SuperstepCode}
use Rattle.superstep_machine.specs.Setting.{workers}
use Rattle.superstep_machine.specs.Run.{bsp, opening, is_over, setting}
use Rattle.superstep_machine.specs.Trace.{Exchange, AreBspExchanges}
use Rattle.write_rules.specs.declared.outcome.Outcome.{Outcome}
use Rattle.write_rules.specs.Verdict.{Verdict, verdict_of}
use Rattle.worker_exchange.specs.Reached.{most_instructions}
use Rattle.worker_exchange.specs.Shown.{way_is, is_stopped}
use Rattle.worker_exchange.specs.Equipped.{most_words, left, IsRunnable}
use Rattle.exchange_counts.specs.declared.count.Count.{Count}
use Rattle.exchange_counts.specs.Tallies.{rows_of}
use Rattle.worker_histories.specs.Histories.{GoesOn}
use Rattle.bsp_machine.specs.declared.counted.CountedWorker.{CountedWorker}
use Rattle.bsp_machine.specs.Workers.{AreBehind, AreTogether, AreSheets}
use Rattle.bsp_machine.specs.declared.sheet.Sheet.{Sheet}

-- how many instructions and exchanges may still come before worker 0's run is over
abbrev pub left_first : SuperstepCode → ℕ → List CountedWorker → ℕ
left_first code bound [] = 0
left_first code bound (x ∷ workers) = left code bound x.local

module _ (code : SuperstepCode) (m : Shape) (bound : ℕ) where
  -- They are the workers of the run from an input, behind so many exchanges; before, worker 0's run wasn't over.
  pub record AreRunning (input : List ℤ) (workers : List CountedWorker) : Type 0 where
    pub exchanges : ℕ
    pub behind : AreBehind code m bound input exchanges workers
    pub together : AreTogether workers
    pub before : (n : ℕ) → most_instructions code bound < n →
        GoesOn (bsp (setting code m bound n)) m.parts exchanges (opening (setting code m bound n) input)

  -- the same, from some input
  pub record AreOnWay (workers : List CountedWorker) : Type 0 where
    pub input : List ℤ
    pub running : AreRunning input workers

  -- Workers and rows with which a run can be done.
  pub record CanRun (workers : List CountedWorker) (sheets : List Sheet) : Type 0 where
    pub runnable : IsRunnable code m
    pub opened : AreOnWay workers
    pub long : length workers ≡ m.parts
    pub rows : AreSheets m.parts (most_words code m) sheets

-- They are the workers of a run within some bound.
pub record HaveRun (code : SuperstepCode) (m : Shape) (workers : List CountedWorker) : Type 0 where
  pub bound : ℕ
  pub running : AreOnWay code m bound workers

-- worker 0's run is over
abbrev pub IsFirstOver : List CountedWorker → Type 0
IsFirstOver workers = (x : CountedWorker) → slice_get workers 0 ≡ Some x → is_over (way_is x.local.way) ≡ true

-- worker 0 has stopped
abbrev pub IsFirstStopped : List CountedWorker → Type 0
IsFirstStopped workers = (x : CountedWorker) → slice_get workers 0 ≡ Some x → is_stopped x.local.way ≡ true

-- worker 0 hasn't stopped
abbrev pub IsFirstUnstopped : List CountedWorker → Type 0
IsFirstUnstopped workers = (x : CountedWorker) → slice_get workers 0 ≡ Some x → is_stopped x.local.way ≡ false

-- ---- what they come to

abbrev pub cells_of : Option CountedWorker → List ℤ
cells_of None = []
cells_of (Some x) = x.local.cells

-- each has the cells of its module
abbrev pub AreWide : Shape → List CountedWorker → Type 0
AreWide m workers = (w : ℕ) (x : CountedWorker) → slice_get workers w ≡ Some x → length x.local.cells ≡ m.width w

-- the value of a cell, which its module has
abbrev pub value_of : Shape → List CountedWorker → ℕ → ℤ
value_of m workers c = slice_index_or (cells_of (slice_get workers (m.part c))) (m.offset c) (pos 0)

-- all cells of the layout, by number
abbrev pub memory_of : SuperstepCode → Shape → List CountedWorker → List ℤ
memory_of code m workers = map (value_of m workers) (range_with_len 0 (total_size code.layout))

-- the verdict of an outcome, if there is one
abbrev pub verdict_in : Option Outcome → Option Verdict
verdict_in None = None
verdict_in (Some outcome) = Some (verdict_of outcome)

-- what each worker counted, where it keeps that
abbrev pub counts_of : List CountedWorker → List (List Count)
counts_of = map (λ (x : CountedWorker). rows_of x.counts)

-- The exchanges of a run with this outcome: these, where they are kept; else there are such.
abbrev pub AreExchanges : SuperstepCode → Shape → List ℤ → ℕ → Verdict → Option (List Exchange) → Type 0
AreExchanges code m input bound verdict None = (exchanges : List Exchange) × AreBspExchanges code m input bound verdict exchanges
AreExchanges code m input bound verdict (Some exchanges) = AreBspExchanges code m input bound verdict exchanges
