-- A worker to which something comes at every exchange, whatever it is.
use Rattle.std.specs.Prelude.{◌≡◌, ℕ, ◌≤◌, List, length}
use Rattle.address_map.specs.Lawful.{Shape}
use Rattle.superstep_code.specs.Code.{SuperstepCode}
use Rattle.superstep_machine.specs.Run.{State}
use Rattle.worker_exchange.specs.Equipped.{most_words, IsRunnable}
use Rattle.worker_histories.specs.Shares.{Share}
use Rattle.bsp_machine.specs.declared.counted.CountedWorker.{CountedWorker}
use Rattle.bsp_machine.specs.Workers.{IsBetween}

-- worker 0 is somewhere in a run, or in what would be one
pub record IsSomewhere (code : SuperstepCode) (m : Shape) (x : CountedWorker) : Type 0 where
  pub states : ℕ → State
  pub told : ℕ → List Share
  pub between : IsBetween code m 9 states told 0 x

-- one of two workers, with room for what it sends, to which no more words come than may
pub record CanBeFlooded (code : SuperstepCode) (m : Shape) (x : CountedWorker) (room : ℕ) (words : List ℕ) : Type 0 where
  pub runnable : IsRunnable code m
  pub somewhere : IsSomewhere code m x
  pub two : m.parts ≡ 2
  pub enough : most_words code m ≤ room
  pub few : length words ≤ most_words code m
