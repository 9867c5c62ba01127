-- What the messages of an exchange leave of a worker between two exchanges.
use Rattle.std.specs.Prelude.{◌≡◌, [], Option, None}
use Rattle.superstep_machine.specs.declared.key.Key.{Key}
use Rattle.superstep_machine.specs.Keys.{least}
use Rattle.superstep_machine.specs.Sending.{uniform_sent}
use Rattle.instruction_steps.specs.declared.uniform.UniformState.{UniformState}
use Rattle.instruction_steps.specs.Views.{uniform_of, KeepsReserve}
use Rattle.worker_steps.specs.declared.worker.WorkerState.{WorkerState}
use Rattle.worker_exchange.specs.declared.local.Local.{Local}

-- the uniform part: what was held is on its way
pub record IsSentPart (u v : UniformState) : Type 0 where
  pub shown : uniform_of v ≡ uniform_sent (uniform_of u)
  pub asks : v.asks.items ≡ []
  pub awaited : v.awaited.items ≡ u.asks.items
  pub put : v.put ≡ None
  pub count : v.count ≡ u.count
  pub width : v.width ≡ u.width
  pub output : v.output ≡ u.output
  pub reserve : KeepsReserve u v

-- The worker: nothing is held any more, the cells of the reads are awaited, and the key is the least of its own and of what its module
-- noted.
pub record IsSentWorker (x y : WorkerState) (noted : Option Key) : Type 0 where
  pub uniform : IsSentPart x.uniform y.uniform
  pub bank : y.bank ≡ x.bank
  pub asked : y.asked ≡ x.awaited
  pub awaited : y.awaited ≡ x.asked
  pub written : y.written ≡ x.written
  pub asks : y.asks.held ≡ []
  pub puts : y.puts.held ≡ []
  pub puts_room : y.puts.room ≡ x.puts.room
  pub key : y.key ≡ least x.key noted
  pub place : y.place ≡ x.place

-- What no message changes: which worker it is, how it stands with its run, its place, how many statements began, the output, and whatever
-- room there is.
pub record StandsStill (x y : Local) : Type 0 where
  pub worker : y.steps.bank.worker ≡ x.steps.bank.worker
  pub way : y.way ≡ x.way
  pub place : y.steps.place ≡ x.steps.place
  pub count : y.steps.uniform.count ≡ x.steps.uniform.count
  pub output : y.steps.uniform.output ≡ x.steps.uniform.output
  pub reserve : KeepsReserve x.steps.uniform y.steps.uniform
