-- What a call leaves on its streams.
use Rattle.std.specs.Prelude.{◌≡◌, ℕ, List, Option, Result, Err}
use Rattle.text_out.specs.Out.{OutState, with_bytes}
use Rattle.write_rules.specs.declared.outcome.Outcome.{Outcome}
use Rattle.program_texts.specs.Status.{status_of}
use Rattle.program_texts.specs.declared.status.Status.{Status}
use Rattle.program_texts.specs.declared.status.Status.TheVariants as status
use Rattle.program_texts.specs.declared.stop.Stop.{Stop}
use Rattle.diagnoses.specs.declared.about.About.TheVariants as about
use Rattle.command_facts.specs.declared.found.Found.{Found}
use Rattle.command_facts.specs.declared.found.Found.TheVariants as found
use Rattle.command_facts.specs.declared.found.FoundSteps.{FoundSteps}
use Rattle.command_facts.specs.declared.found.Settled.{Settled}
use Rattle.command_facts.specs.Statuses.{status_of_found}
use Rattle.command_facts.specs.Found.{EndsIn, IsOutcomeOf, cut_at, with_outcome}
use Rattle.command_text.specs.declared.terminal.Terminal.{Terminal}
use Rattle.command_text.specs.Explained.{IsExplained, IsRefusalReported, IsRunExplained}
use Rattle.command_facts.specs.Written.{WroteSome}
use Rattle.command_text.specs.Stepped.{IsCutOff, IsToldText}
use Rattle.command_text.specs.Texts.{IsTextOf}

-- Both streams after what was found is told, with the exit status: it stands on standard output, whole, and on standard error nothing, but
-- a fault where that is to be explained; or standard output failed in it, and that is told.
pub data LeavesFound (on : Terminal) (words : List (List ℕ)) (f : Found) (out out_new err err_new : OutState) : Status → Type 0 where
  Told : (s : Settled) (text : List ℕ) → f ≡ found.Settled s → IsTextOf s text → out_new ≡ with_bytes out text
      → IsExplained on.errors s err err_new → LeavesFound on words f out out_new err err_new (status_of_found s)
  CutOff : (s : Settled) (why : Stop) → f ≡ found.Settled s → WroteSome (status_of_found s) ⊥ (IsTextOf s) out out_new (Err why)
      → IsRefusalReported on words why about.Nothing err err_new → LeavesFound on words f out out_new err err_new status.Refused
  -- a run is told statement by statement as it goes, up to where it ends: the outcome is that of the program, and it gives the status
  ToldAsItRan : (s : FoundSteps) (k : ℕ) (o : Outcome) (text : List ℕ) → f ≡ found.Stepped s → EndsIn s k → IsOutcomeOf (cut_at s k) o
      → IsToldText on (cut_at s k) o text → out_new ≡ with_bytes out text
      → IsRunExplained on.errors (with_outcome (cut_at s k) o) o err err_new → LeavesFound on words f out out_new err err_new (status_of o)
  BrokenOff : (s : FoundSteps) (k : ℕ) (why : Stop) → f ≡ found.Stepped s → EndsIn s k → IsCutOff on (cut_at s k) out out_new why
      → IsRefusalReported on words why about.Nothing err err_new → LeavesFound on words f out out_new err err_new status.Refused
