-- A worker of a run goes on up to its next exchange.
use Rattle.std.specs.Prelude.{◌≡◌, ℕ, ◌^◌, ◌<◌, ◌≤◌, length, map, Bool, vec_capacity, if◌then◌else◌}
use Rattle.pram_model.specs.declared.rule.Rule.{Rule}
use Rattle.address_map.specs.Lawful.{Shape}
use Rattle.superstep_instructions.specs.Code.{SuperstepCode}
use Rattle.superstep_machine.specs.Run.{State, setting, ready, is_held}
use Rattle.instruction_steps.specs.Views.{put_is}
use Rattle.worker_bank.specs.Bank.{IsBank}
use Rattle.combining.specs.AllModules.{column, room_at}
use Rattle.worker_steps.specs.declared.stretch_end.StretchEnd.{StretchEnd}
use Rattle.worker_steps.specs.declared.stretch_end.StretchEnd.TheVariants as ends
use Rattle.worker_exchange.specs.Sends.{words_of, CanBeWritten}
use Rattle.superstep_machine.specs.declared.purpose.Purpose.{Purpose}
use Rattle.superstep_machine.specs.declared.purpose.Purpose.TheVariants as purposes
use Rattle.worker_exchange.specs.declared.way.Way.{Way}
use Rattle.worker_exchange.specs.declared.way.Way.TheVariants as ways
use Rattle.worker_exchange.specs.declared.local.Local.{Local}
use Rattle.worker_exchange.specs.Reached.{most_instructions}
use Rattle.worker_exchange.specs.Shown.{IsShown, IsAtExchange}
use Rattle.worker_exchange.specs.Equipped.{IsAtStep, left, left_at}

-- what the exchange is for at which a worker stops: a close sends first what is held
abbrev pub purpose_at : StretchEnd → Bool → Purpose
purpose_at ends.Send held = purposes.Send
purpose_at ends.Reply held = purposes.Reply
purpose_at (ends.Vote d) held = purposes.Vote d
purpose_at (ends.Close ended) held = if held then purposes.Send else purposes.Close

abbrev pub way_at : StretchEnd → Way → Way
way_at (ends.Close ended) way = ways.Ending ended
way_at stop way = way

abbrev pub stopped_at : StretchEnd → Local → Local
stopped_at stop x = record x { way = way_at stop x.way; purpose = purpose_at stop (is_held (put_is x.steps.uniform.put)) }

-- In b the worker is at the exchange that it comes to from a: whatever state a shows, b shows where the definition's worker stands then.
pub record HasArrived (code : SuperstepCode) (m : Shape) (bound : ℕ) (a b : Local) : Type 0 where
  pub at : IsAtStep code m bound b
  pub shown : (n : ℕ) (s : State) → most_instructions code bound < n → IsShown (setting code m bound n) a.steps.bank.worker a s →
      IsAtExchange (setting code m bound n) a.steps.bank.worker b s
  pub worker : b.steps.bank.worker ≡ a.steps.bank.worker
  pub falls : left_at code bound b ≤ left code bound a

-- Whatever state it shows, the definition's worker has printed more than so many items where it comes to its next exchange.
abbrev pub ComesPast : SuperstepCode → Shape → ℕ → Local → ℕ → Type 0
ComesPast code m bound x items = (n : ℕ) (s : State) → most_instructions code bound < n →
    IsShown (setting code m bound n) x.steps.bank.worker x s →
    items < length (ready (setting code m bound n) x.steps.bank.worker s).state.worker.uniform.output

-- It can write its messages to rows of that room.
pub record CanTell (rule : Rule) (m : Shape) (room : ℕ) (x : Local) : Type 0 where
  pub worker : x.steps.bank.worker < m.parts
  pub bank : IsBank x.steps.bank
  pub cells : length x.cells ≡ m.width x.steps.bank.worker
  pub asked : length x.asked.items ≡ m.parts
  pub few : (j : ℕ) → length (column (words_of x.asked.items) j) ≤ vec_capacity x.buffers.reply
  pub reply : vec_capacity x.buffers.reply ≤ room
  pub short : vec_capacity x.buffers.reply < 2 ^ 32
  pub counts : length x.buffers.counts.items ≡ m.parts
  pub rooms : (j : ℕ) → j < m.parts → room_at (map vec_capacity x.buffers.words.items) j ≤ room
  pub held : x.purpose ≡ purposes.Send → CanBeWritten rule m (map vec_capacity x.buffers.words.items) x.steps.puts.held x.steps.asks.held
