-- What a worker of a run shows of the state of the machine's worker.
use Rattle.std.specs.Prelude.{◌≡◌, ℕ, ◌+◌, List, [], ◌∷◌, map, Bool, true, false, slice_index_or}
use Rattle.address_map.specs.Lawful.{Shape}
use Rattle.superstep_machine.specs.Setting.{Setting}
use Rattle.superstep_machine.specs.Words.{CellAsk}
use Rattle.superstep_machine.specs.Worker.{Worker}
use Rattle.superstep_machine.specs.WordReading.{asks_in}
use Rattle.superstep_machine.specs.Run as machine
use Rattle.superstep_machine.specs.Refusals.{with_marks}
use Rattle.combining.specs.AllModules.{column}
use Rattle.combining.specs.Adding.{unanswered}
use Rattle.worker_steps.specs.Shown.{Shows}
use Rattle.worker_exchange.specs.Sends.{words_of}
use Rattle.superstep_machine.specs.Purposes.{purpose_is}
use Rattle.worker_exchange.specs.declared.way.Way.{Way}
use Rattle.worker_exchange.specs.declared.way.Way.TheVariants as ways
use Rattle.worker_exchange.specs.declared.local.Local.{Local}
use Rattle.worker_exchange.specs.Reached.{IsReached}

-- ---- the definition's words

abbrev pub way_is : Way → machine.Way
way_is ways.On = machine.On
way_is (ways.Ending ended) = machine.Ending ended
way_is (ways.Past key ended) = machine.Past key ended
way_is (ways.Stopped mark) = machine.Refused mark

abbrev pub is_stopped : Way → Bool
is_stopped (ways.Stopped mark) = true
is_stopped way = false

-- the place behind an exchange: a run that ends stays where it is
abbrev pub place_behind : Way → ℕ → ℕ
place_behind ways.On place = place + 1
place_behind way place = place

-- a state with the mark of a worker that has stopped, for the stretch that comes
abbrev pub marked : Way → machine.State → machine.State
marked (ways.Stopped mark) s = with_marks (mark ∷ []) s
marked way s = s

-- ---- a worker

-- the cells that some ask words are for, of module w
abbrev pub cells_asked : Shape → ℕ → List ℕ → List ℕ
cells_asked m w words = map (λ (x : CellAsk). x.cell) (asks_in m w words)

-- The definition's worker is shown, with the cells of its module; the asks that it sent have no value yet; and those of each worker
-- that it took are the words that came.
pub record ShowsWorker (t : Setting) (w : ℕ) (x : Local) (s : Worker) : Type 0 where
  pub shows : Shows t.code.rule x.steps s
  pub cells : s.cells ≡ x.cells
  pub sent : x.sent.held ≡ map unanswered s.wanted
  pub taken : (j : ℕ) → slice_index_or s.taken j [] ≡ cells_asked t.map w (column (words_of x.asked.items) j)

-- Between two exchanges it shows a state that worker w may come to, in which it wasn't refused memory.
pub record IsShown (t : Setting) (w : ℕ) (x : Local) (s : machine.State) : Type 0 where
  pub exchanges : ℕ
  pub reached : IsReached t w exchanges s
  pub way : s.way ≡ way_is x.way
  pub place : s.place ≡ x.steps.place
  pub clear : s.refusals ≡ []
  pub worker : ShowsWorker t w x s.worker

-- At an exchange it shows where the definition's worker stands that was in state s before: what the exchange is for, and the state behind
-- it if it brings nothing and decides nothing.
pub record IsAtExchange (t : Setting) (w : ℕ) (x : Local) (s : machine.State) : Type 0 where
  pub exchanges : ℕ
  pub reached : IsReached t w exchanges s
  pub purpose : (machine.ready t w s).purpose ≡ purpose_is x.purpose
  pub way : (machine.ready t w s).state.way ≡ way_is x.way
  pub place : (machine.ready t w s).state.place ≡ place_behind x.way x.steps.place
  pub clear : s.refusals ≡ []
  pub worker : ShowsWorker t w x (machine.ready t w s).state.worker
