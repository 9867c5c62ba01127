-- What a call that tells its facts as JSON leaves on its streams.
use Rattle.std.specs.Prelude.{◌≡◌, ◌⊎◌, ℕ, List, [], ◌∷◌, ◌++◌, Option, Some, None, Result, Ok, Err, codes, decimal}
use Rattle.json_texts.specs.Lines.{IsJson}
use Rattle.text_out.specs.Out.{OutState, with_bytes}
use Rattle.diagnoses.specs.declared.about.About.{About}
use Rattle.diagnoses.specs.declared.about.About.TheVariants as about
use Rattle.diagnoses.specs.RefusedLines.{stop_as_it_stands}
use Rattle.program_texts.specs.declared.from_text.Refusal.TheVariants as refusal
use Rattle.write_rules.specs.declared.outcome.Outcome.{Outcome}
use Rattle.write_rules.specs.declared.outcome.Outcome.TheVariants.{GoesOn}
use Rattle.program_texts.specs.Status.{status_of}
use Rattle.program_texts.specs.declared.status.Status.{Status}
use Rattle.program_texts.specs.declared.status.Status.TheVariants as status
use Rattle.program_texts.specs.declared.stop.Stop.{Stop}
use Rattle.program_texts.specs.declared.stop.Stop.TheVariants as stop
use Rattle.command_facts.specs.declared.found.Found.{Found}
use Rattle.command_facts.specs.declared.found.Found.TheVariants as found
use Rattle.command_facts.specs.declared.found.FoundSteps.{FoundSteps}
use Rattle.command_facts.specs.declared.found.Limit.{Limit}
use Rattle.command_facts.specs.declared.found.Settled.{Settled}
use Rattle.command_facts.specs.declared.found.Settled.TheVariants as settled
use Rattle.command_facts.specs.Statuses.{status_of_found}
use Rattle.command_facts.specs.Found.{EndsIn, IsOutcomeOf, cut_at}
use Rattle.command_facts.specs.Written.{IsReported}
use Rattle.json_texts.specs.MessageFacts.{refusal_facts}
use Rattle.json_texts.specs.RefusalFacts.{stop_facts}
use Rattle.help.specs.Messages.{Message}
use Rattle.command_facts.specs.Messages.{IsMessageFor}
use Rattle.diagnoses.specs.Stops.{bytes_in, name_in}
use Rattle.command_json.specs.Facts.{IsJsonOf, WritesFound}
use Rattle.command_json.specs.Stepped.{IsCutOff, all_facts}

-- ---- standard error

-- The line of a refusal, with its message and its place in the file of the text that was refused. The words are those of the call.
abbrev pub IsRefusalLine : (words : List (List ℕ)) → Stop → About → List ℕ → Type 0
IsRefusalLine words why a line =
    (m : Message) × IsMessageFor words why a m × IsJson (refusal_facts (name_in a) (bytes_in a) (stop_as_it_stands a why) m ∷ []) line

-- It stands there, as far as it is taken.
pub record IsRefusalTold (words : List (List ℕ)) (why : Stop) (a : About) (old new : OutState) : Type 0 where
  pub line : List ℕ
  pub told : IsRefusalLine words why a line
  pub reported : IsReported old new line

-- Memory was refused, and that is told.
pub record IsMemoryTold (old new : OutState) : Type 0 where
  pub line : List ℕ
  pub json : IsJson (stop_facts [] (stop.Refused refusal.OutOfMemory) ∷ []) line
  pub reported : IsReported old new line

-- so it is; or memory for its line was refused
abbrev pub IsRefusalSaid : (words : List (List ℕ)) → Stop → About → OutState → OutState → Type 0
IsRefusalSaid words why a old new = IsRefusalTold words why a old new ⊎ IsMemoryTold old new

-- Of a file that is written nothing is said: its input stands in the object on standard output.
abbrev pub IsUnsaid : (name : List ℕ) → OutState → OutState → Type 0
IsUnsaid name old new = new ≡ old

-- `{"bound":123456,"seconds":5}`
abbrev pub time_line : (seconds bound : ℕ) → List ℕ
time_line seconds bound = codes "{\"bound\":" ++ (decimal bound ++ (codes ",\"seconds\":" ++ (decimal seconds ++ codes "}\n")))

abbrev pub IsLimitTold : (seconds : Option ℕ) → (bound : ℕ) → OutState → OutState → Type 0
IsLimitTold None bound old new = new ≡ old
IsLimitTold (Some seconds) bound old new = IsReported old new (time_line seconds bound)

-- where time was over for a run, behind how many statements it was
abbrev pub IsTimeTold : Outcome → Limit → OutState → OutState → Type 0
IsTimeTold (GoesOn output) limit old new = IsLimitTold limit.seconds limit.bound old new
IsTimeTold _ limit old new = new ≡ old

abbrev pub IsFoundInTime : Settled → OutState → OutState → Type 0
IsFoundInTime (settled.Run r told) old new = IsTimeTold r.outcome r.limit old new
IsFoundInTime (settled.Costed r told costs) old new = IsTimeTold r.outcome r.limit old new
IsFoundInTime (settled.Traced r told exchanges) old new = IsTimeTold r.outcome r.limit old new
IsFoundInTime _ old new = new ≡ old

-- ---- both streams

-- After what was found is told, with the exit status: its facts stand on standard output, whole, and on standard error nothing but that its
-- time was over; or why not.
pub data LeavesFound (words : List (List ℕ)) (f : Found) (out out_new err err_new : OutState) : Status → Type 0 where
  Told : (s : Settled) (text : List ℕ) → f ≡ found.Settled s → IsJsonOf s text → out_new ≡ with_bytes out text
      → IsFoundInTime s err err_new → LeavesFound words f out out_new err err_new (status_of_found s)
  CutOff : (s : Settled) (why : Stop) → f ≡ found.Settled s → WritesFound s out out_new (Err why)
      → IsRefusalSaid words why about.Nothing err err_new → LeavesFound words f out out_new err err_new status.Refused
  -- a run is told statement by statement as it goes, up to where it ends: the outcome is that of the program, and it gives the status
  ToldAsItRan : (s : FoundSteps) (k : ℕ) (o : Outcome) (text : List ℕ) → f ≡ found.Stepped s → EndsIn s k → IsOutcomeOf (cut_at s k) o
      → IsJson (all_facts (cut_at s k) o) text → out_new ≡ with_bytes out text → IsTimeTold o (cut_at s k).limit err err_new
      → LeavesFound words f out out_new err err_new (status_of o)
  BrokenOff : (s : FoundSteps) (k : ℕ) (why : Stop) → f ≡ found.Stepped s → EndsIn s k → IsCutOff (cut_at s k) out out_new why
      → IsRefusalSaid words why about.Nothing err err_new → LeavesFound words f out out_new err err_new status.Refused
