-- One moment that is heard, timed.
use Rattle.std.proofs.Common.{◌≡◌, ◌+◌, ◌∷◌, [], List, ℕ, Option, arith}
use Rattle.std.specs.Prelude.{Some, None, length}
use Rattle.pram_tokens.specs.declared.token.Location.{Location}
use Rattle.pram_meaning.specs.declared.key.Key.{Key}
use Rattle.pram_meaning.specs.Attempt.{Attempt, Gives, Fails}
use Rattle.pram_meaning.specs.Conflict.{Part}
use Rattle.pram_meaning.specs.Moments.{Action, Alone, StepAction, Together}
use Rattle.pram_meaning.specs.Store.{State}
use Rattle.costs.specs.declared.taken.TimeAndWork.{TimeAndWork}
use Rattle.costs.specs.Timed.{HasTimed}

pub alone_timed : (a b : TimeAndWork) (here : Location) (act : Action) (before after : State) (x : Attempt (Option ℕ)) →
    b.time ≡ a.time + 1 → b.work ≡ a.work + 1 → HasTimed a (Alone here act before x after ∷ []) b
alone_timed a b here act before after (Gives t c) time work = (time, omega (arith, work))
alone_timed a b here act before after (Fails t k) time work = (time, omega (arith, work))

pub set_timed : (a b : TimeAndWork) (here : Location) (act : StepAction) (before after : State) (xs : List Part) (k : Option Key) (n : ℕ) →
    n ≡ length xs → b.time ≡ a.time + 1 → b.work ≡ a.work + n → HasTimed a (Together here act before xs k after ∷ []) b
set_timed a b here act before after xs None n is time work = (time, omega (arith, is, work))
set_timed a b here act before after xs (Some k) n is time work = (time, omega (arith, is, work))
