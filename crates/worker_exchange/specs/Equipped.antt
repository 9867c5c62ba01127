-- What a worker of a run has room for, and what it may take for granted.
use Rattle.std.specs.Prelude.{◌≡◌, ℕ, ◌+◌, ◌-◌, ◌*◌, ◌/◌, ◌<◌, ◌≤◌, List, length, map, Some, false, Vec, vec_capacity, slice_get}
use Rattle.std.specs.Global.{Global}
use Rattle.std.specs.List.{AllByRecursion}
use Rattle.address_map.specs.Lawful.{Shape}
use Rattle.superstep_instructions.specs.declared.instr.Side.TheVariants.{Uniform, Private}
use Rattle.superstep_instructions.specs.declared.instr.Instr.{Instr}
use Rattle.superstep_instructions.specs.declared.instr.Instr.TheVariants.{Send, Reply, Vote, Halt}
use Rattle.superstep_instructions.specs.Code.{SuperstepCode}
use Rattle.superstep_machine.specs.Run.{State, setting, is_over}
use Rattle.superstep_machine.specs.Fitting.{IsCellBelow}
use Rattle.instruction_steps.specs.declared.read.Read.{Read}
use Rattle.bsp_verify.specs.WellFormed.{IsWellFormed}
use Rattle.flat_machine.specs.Flatness.{IsMapFor}
use Rattle.machine_limits.specs.Within.{words_for_each}
use Rattle.combining.specs.AllModules.{column, room_at}
use Rattle.combining.specs.Asked.{IsAskBelow}
use Rattle.worker_exchange.specs.Sends.{words_of}
use Rattle.worker_steps.specs.Shown.{cells_at}
use Rattle.worker_steps.specs.Fitted.{IsFitted}
use Rattle.worker_steps.specs.Met.{IsVerifiedAt}
use Rattle.worker_steps.specs.Stretch.{rank}
use Rattle.worker_exchange.specs.declared.way.Way.{Way}
use Rattle.superstep_machine.specs.declared.purpose.Purpose.{Purpose}
use Rattle.superstep_machine.specs.declared.purpose.Purpose.TheVariants as purposes
use Rattle.worker_exchange.specs.declared.way.Way.TheVariants as ways
use Rattle.worker_exchange.specs.declared.buffers.Buffers.{Buffers}
use Rattle.worker_exchange.specs.declared.local.Local.{Local}
use Rattle.worker_exchange.specs.Reached.{most_instructions}
use Rattle.worker_exchange.specs.Shown.{way_is, IsShown}

-- no message has more words: for each processor that a worker can have, those of its reads and of a put
abbrev pub most_words : SuperstepCode → Shape → ℕ
most_words code m = words_for_each code.rule * ((code.procs + (m.parts - 1)) / m.parts)

-- a list of words for each of p workers, with room for so many
pub record HaveRoom (p most : ℕ) (columns : List (Vec ℕ Global)) : Type 0 where
  pub count : length columns ≡ p
  pub room : (j : ℕ) → j < p → room_at (map vec_capacity columns) j ≡ most

pub record AreBuffers (p most : ℕ) (buffers : Buffers) : Type 0 where
  pub words : HaveRoom p most buffers.words.items
  pub counts : length buffers.counts.items ≡ p
  pub reply : vec_capacity buffers.reply ≡ most

-- It has room for its processors, for what it sends and is asked, and for a value of each processor; it is one of as many workers as the
-- map has modules; it has the cells of its module; and what it sent asks for cells of the map.
pub record IsEquipped (code : SuperstepCode) (m : Shape) (x : Local) : Type 0 where
  pub fitted : IsFitted code x.steps
  pub workers : x.steps.bank.workers ≡ m.parts
  pub sent : 8 * (x.steps.bank.masks.most + 1) ≤ x.sent.room
  pub cells : length x.cells ≡ m.width x.steps.bank.worker
  pub asked : HaveRoom m.parts (most_words code m) x.asked.items
  pub few : (j : ℕ) → length (column (words_of x.asked.items) j) ≤ most_words code m
  pub buffers : AreBuffers m.parts (most_words code m) x.buffers
  pub values : length x.values.items ≡ x.steps.bank.masks.most
  pub below : AllByRecursion (IsAskBelow m.count) x.sent.held

-- Verified code and a map with a place for each cell.
pub record IsRunnable (code : SuperstepCode) (m : Shape) : Type 0 where
  pub formed : IsWellFormed code
  pub map : IsMapFor code m

-- A worker between two exchanges that isn't over: while it goes on, a path of control comes to its place; no more statements began than
-- may; and it shows a state of a run.
pub record MayGoOn (code : SuperstepCode) (m : Shape) (bound : ℕ) (x : Local) : Type 0 where
  pub runnable : IsRunnable code m
  pub equipped : IsEquipped code m x
  pub going : is_over (way_is x.way) ≡ false
  pub count : x.steps.uniform.count ≤ bound
  pub verified : x.way ≡ ways.On → IsVerifiedAt code x.steps
  pub enough : ℕ
  pub is_enough : most_instructions code bound < enough
  pub state : State
  pub shown : IsShown (setting code m bound enough) x.steps.bank.worker x state

-- the instruction that an exchange is for, if its run doesn't end with it
abbrev pub instr_of : Purpose → Instr
instr_of purposes.Send = Send
instr_of purposes.Reply = Reply
instr_of (purposes.Vote d) = Vote d
instr_of purposes.Close = Halt

-- A read that awaits an answer, of a worker with so many private registers and so many processors: its cell is one of so many, the
-- register of a private read is there, and a uniform read is awaited where there are no processors.
pub record IsAwaited (cells registers many : ℕ) (r : Read) : Type 0 where
  pub cell : IsCellBelow cells r.cell
  pub register : r.side ≡ Private → r.destination < registers
  pub alone : r.side ≡ Uniform → many ≡ 0

-- a register that gets the value of a cell is among the first n
abbrev pub HasPlace : ℕ → Read → Type 0
HasPlace n r = (cell : ℕ) → r.cell ≡ Some cell → r.destination < n

-- At most eight reads await an answer, the uniform registers that get one have a place, and the cells that the processors asked for are of
-- the map.
pub record AwaitsAnswers (m : Shape) (x : Local) : Type 0 where
  pub few : length x.steps.uniform.awaited.items ≤ 8
  pub places : AllByRecursion (HasPlace (length x.steps.uniform.registers.items)) x.steps.uniform.awaited.items
  pub reads : AllByRecursion (IsAwaited m.count (length x.steps.bank.columns.items) x.steps.bank.masks.many) x.steps.uniform.awaited.items
  pub own : (j : ℕ) → j < x.steps.bank.masks.many →
      AllByRecursion (IsCellBelow m.count) (cells_at (length x.steps.uniform.awaited.items) x.steps.awaited.items j)

-- for which exchanges there is which way: what goes on doesn't close, and what ends sends first what is held
abbrev pub GoesWith : Way → Purpose → Type 0
GoesWith ways.On purposes.Close = ⊥
GoesWith ways.On purpose = Unit {0}
GoesWith (ways.Ending ended) purposes.Send = Unit {0}
GoesWith (ways.Ending ended) purposes.Close = Unit {0}
GoesWith way purpose = ⊥

-- A worker at an exchange, at whose place that stands; at a send at most eight reads are held, and a reply answers what is awaited.
pub record IsAtStep (code : SuperstepCode) (m : Shape) (bound : ℕ) (x : Local) : Type 0 where
  pub equipped : IsEquipped code m x
  pub going : is_over (way_is x.way) ≡ false
  pub count : x.steps.uniform.count ≤ bound
  pub verified : x.way ≡ ways.On → IsVerifiedAt code x.steps
  pub stands : x.way ≡ ways.On → slice_get code.instructions x.steps.place ≡ Some (instr_of x.purpose)
  pub goes : GoesWith x.way x.purpose
  pub few : x.purpose ≡ purposes.Send → length x.steps.uniform.asks.items ≤ 8
  pub awaited : x.purpose ≡ purposes.Reply → AwaitsAnswers m x

-- how many instructions and exchanges may still come before the run is over
abbrev pub left_by : Way → ℕ → ℕ
left_by ways.On rank = rank + 2
left_by (ways.Ending ended) rank = 1
left_by way rank = 0

abbrev pub left : SuperstepCode → ℕ → Local → ℕ
left code bound x = left_by x.way (rank code bound x.steps)

-- how many may still come for a worker that stands at an exchange: one that ends sends first what is held
abbrev pub left_at_by : Way → Purpose → ℕ → ℕ
left_at_by ways.On purpose rank = rank + 2
left_at_by (ways.Ending ended) purposes.Send rank = 2
left_at_by (ways.Ending ended) purpose rank = 1
left_at_by way purpose rank = 0

abbrev pub left_at : SuperstepCode → ℕ → Local → ℕ
left_at code bound x = left_at_by x.way x.purpose (rank code bound x.steps)
