-- What a thread gives back.
use Rattle.std.specs.Prelude.{◌≡◌, Option, Some, None}
use Rattle.turnstile.specs.Runners.{RunnerState}
use Rattle.turnstile.specs.declared.start.told.Told.TheVariants.{Stop, Go}

-- of tasks, of which something comes that is done
module _ {T A : Type 0} (done : T → A → Type 0) where
  -- what the runner heard, and what came of it
  abbrev pub CameOf : RunnerState T → Option A → Type 0
  CameOf after None = after.heard ≡ Stop
  CameOf after (Some y) = (task : T) × (after.heard ≡ Go task) × done task y

  -- what a thread gives back whose runner was `before`
  pub record IsReportOf (before after : RunnerState T) (played : Option A) : Type 0 where
    pub table : after.table ≡ before.table
    pub at : after.at ≡ before.at
    pub came : CameOf after played
