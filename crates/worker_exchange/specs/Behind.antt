-- A worker behind an exchange.
use Rattle.std.specs.Prelude.{◌≡◌, ℕ, ◌<◌, List, Bool, true, false}
use Rattle.address_map.specs.Lawful.{Shape}
use Rattle.superstep_instructions.specs.Code.{SuperstepCode}
use Rattle.superstep_machine.specs.Run.{State, setting, ready, after, after_exchange, is_over}
use Rattle.worker_exchange.specs.Rows.{WrittenMessage}
use Rattle.worker_exchange.specs.declared.local.Local.{Local}
use Rattle.worker_exchange.specs.Reached.{most_instructions}
use Rattle.superstep_machine.specs.Purposes.{purpose_is}
use Rattle.worker_exchange.specs.Shown.{way_is, ShowsWorker, IsShown, IsAtExchange}
use Rattle.worker_exchange.specs.Equipped.{MayGoOn}
use Rattle.worker_exchange.specs.declared.progress.Progress.{Progress}
use Rattle.worker_exchange.specs.declared.progress.Progress.TheVariants.{GoOn, Over}
use Rattle.worker_exchange.specs.Received.{messages_to}

-- whatever is so for each state at whose exchange x stands, in a setting that has enough instructions
abbrev pub ForEachState : SuperstepCode → Shape → ℕ → Local → (ℕ → State → Type 0) → Type 0
ForEachState code m bound x Holds = (n : ℕ) (s : State) → most_instructions code bound < n →
    IsAtExchange (setting code m bound n) x.steps.bank.worker x s → Holds n s

-- by the messages that came z shows the worker behind the exchange at which x stands
abbrev pub ShowsTaken : SuperstepCode → Shape → ℕ → List WrittenMessage → Local → Local → Type 0
ShowsTaken code m bound came x z = ForEachState code m bound x (λ n s.
    ShowsWorker (setting code m bound n) x.steps.bank.worker z
    (after_exchange (setting code m bound n) x.steps.bank.worker (purpose_is x.purpose)
    (ready (setting code m bound n) x.steps.bank.worker s).state.worker
    (messages_to code.rule m x.steps.bank.worker (purpose_is x.purpose) came)))

-- .. and the state behind it
abbrev pub ShowsBehind : SuperstepCode → Shape → ℕ → List WrittenMessage → Local → Local → Type 0
ShowsBehind code m bound came x z = ForEachState code m bound x (λ n s.
    IsShown (setting code m bound n) x.steps.bank.worker z (after (setting code m bound n) x.steps.bank.worker
    (ready (setting code m bound n) x.steps.bank.worker s)
    (messages_to code.rule m x.steps.bank.worker (purpose_is x.purpose) came)))

-- where it isn't over it may go on
abbrev pub MayGoOnBehind : SuperstepCode → Shape → ℕ → Local → Local → Type 0
MayGoOnBehind code m bound x z = is_over (way_is z.way) ≡ false → ForEachState code m bound x (λ n s. MayGoOn code m bound z)

abbrev pub is_the_end : Progress → Bool
is_the_end GoOn = false
is_the_end Over = true
