-- What is said on standard error.
use Rattle.std.specs.Prelude.{◌≡◌, ◌⊎◌, ℕ, ℤ, List, [], ◌++◌, Bool, true, false, Option, Some, None, codes, decimal}
use Rattle.text_out.specs.Out.{OutState}
use Rattle.text_places.specs.Escaped.{escaped}
use Rattle.pram_check.specs.Checked.{Checked}
use Rattle.endless_runs.specs.Endless.{HasCycle, NeverEnds}
use Rattle.endless_runs.specs.declared.cycle.Cycle.{Cycle}
use Rattle.write_rules.specs.declared.fault.Fault.{Fault}
use Rattle.write_rules.specs.declared.outcome.Outcome.{Outcome}
use Rattle.write_rules.specs.declared.outcome.Outcome.TheVariants.{Faulted, GoesOn}
use Rattle.program_texts.specs.declared.stop.Stop.{Stop}
use Rattle.program_texts.specs.declared.stop.Stop.TheVariants as stop
use Rattle.pram_model.specs.Layout.{SharedEntry}
use Rattle.diagnoses.specs.declared.about.About.{About}
use Rattle.diagnoses.specs.declared.source.Source.{Source}
use Rattle.diagnoses.specs.FalseLines.{false_note}
use Rattle.diagnoses.specs.FaultTexts.{fault_diagnosis, fault_sentence}
use Rattle.diagnoses.specs.Reasons.{Reason, run_reason, unknown}
use Rattle.diagnoses.specs.RefusedLines.{stop_line}
use Rattle.diagnoses.specs.Stops.{IsSaid}
use Rattle.command_facts.specs.Editors.{IsForEditors}
use Rattle.command_facts.specs.declared.found.FoundCode.{FoundCode}
use Rattle.command_facts.specs.declared.found.FoundRun.{FoundRun}
use Rattle.command_facts.specs.declared.found.Settled.{Settled}
use Rattle.command_facts.specs.declared.found.Settled.TheVariants as settled
use Rattle.command_facts.specs.Written.{IsReported}
use Rattle.command_requests.specs.Sentences.{word_fault}
use Rattle.command_requests.specs.Values.{IsWrong}
use Rattle.command_requests.specs.declared.given.Given.{Given}
use Rattle.command_text.specs.declared.terminal.Terminal.{Terminal}

-- ---- refusals

-- of a word of the command line the first option of the call that doesn't take it
abbrev pub IsWrongOf : (words : List (List ℕ)) → Stop → Option Given → Type 0
IsWrongOf words (stop.Number word) wrong = IsWrong words word.now wrong
IsWrongOf words _ wrong = wrong ≡ None

-- what is said behind the line of a refusal: of such a word by that option, and of anything else by what is known besides
abbrev pub IsSaidBehind : (words : List (List ℕ)) → Stop → About → List ℕ → Type 0
IsSaidBehind words (stop.Number word) a text = (wrong : Option Given) × IsWrong words word.now wrong × (text ≡ word_fault wrong word.now)
IsSaidBehind words why a text = IsSaid why a text

-- the line of a refusal, with its offset in the file, and where it is asked for what is said behind it
abbrev pub IsInWords : (explains : Bool) → (words : List (List ℕ)) → Stop → About → List ℕ → Type 0
IsInWords false words why a text = text ≡ stop_line why a
IsInWords true words why a text = (said : List ℕ) × IsSaidBehind words why a said × (text ≡ stop_line why a ++ said)

-- that, or the lines that editors read
abbrev pub IsTold : (gnu explains : Bool) → (words : List (List ℕ)) → Stop → About → List ℕ → Type 0
IsTold true explains words why a text = IsForEditors words why a text
IsTold false explains words why a text = IsInWords explains words why a text

-- It stands on standard error, as far as that takes it. The words are those of the call.
pub record IsRefusalReported (on : Terminal) (words : List (List ℕ)) (why : Stop) (a : About) (old new : OutState) : Type 0 where
  pub text : List ℕ
  pub told : IsTold on.gnu on.errors words why a text
  pub reported : IsReported old new text

-- ---- faults

-- `why isn't told: memory to find it was refused`
abbrev pub no_reason : List ℕ
no_reason = codes "why isn't told: memory to find it was refused\n"

-- a fault by the reason that was found, or that none was looked for to the end
abbrev pub fault_said : Source → List SharedEntry → Fault → Option Reason → List ℕ
fault_said source layout fault (Some why) = fault_diagnosis source layout fault why
fault_said source layout fault None = fault_diagnosis source layout fault unknown ++ no_reason

-- why a run faults is told, or that memory to find it was refused
abbrev pub IsFaultSaid : FoundRun → Fault → List ℕ → Type 0
IsFaultSaid r fault text =
    let why = run_reason r.loaded.program r.input.items r.limit.bound in
    (text ≡ fault_said r.loaded.source r.loaded.program.layout fault (Some why))
    ⊎ (text ≡ fault_said r.loaded.source r.loaded.program.layout fault None)

-- `the run met its bound of 1000000 statements: --bound N gives it others`
abbrev pub bound_sentence : ℕ → List ℕ
bound_sentence bound = codes "the run met its bound of " ++ (decimal bound ++ codes " statements: --bound N gives it others\n")

-- `--seconds 5 ended the run after statement 123456`
abbrev pub time_sentence : (seconds bound : ℕ) → List ℕ
time_sentence seconds bound =
    codes "--seconds " ++ (decimal seconds ++ (codes " ended the run after statement " ++ (decimal bound ++ codes "\n")))

-- `wrote the input to bad.in`
abbrev pub written_line : (name : List ℕ) → List ℕ
written_line name = codes "wrote the input to " ++ (escaped name ++ codes "\n")

-- it stands on standard error, as far as that takes it
abbrev pub IsWrittenSaid : (name : List ℕ) → OutState → OutState → Type 0
IsWrittenSaid name old new = IsReported old new (written_line name)

-- `this never ends: the loop of line 9 comes back to the same state after 4 statements`
abbrev pub cycle_sentence : Cycle → List ℕ
cycle_sentence c = codes "this never ends: the loop of line " ++ (decimal c.line
    ++ (codes " comes back to the same state after " ++ (decimal c.statements ++ codes " statements\n")))

abbrev pub cycle_text : Option Cycle → List ℕ
cycle_text None = []
cycle_text (Some c) = cycle_sentence c

-- It is said of a program that never ends on an input, of a loop of its run that comes back. Of others nothing is said, nor of one of which
-- that isn't known.
abbrev pub IsCycleSaid : Checked → (input : List ℤ) → List ℕ → Type 0
IsCycleSaid p input text = (text ≡ []) ⊎ ((c : Cycle) × NeverEnds p input × HasCycle p input c × (text ≡ cycle_sentence c))

-- a run met its bound, and what is known of it without one
abbrev pub IsBoundSaid : FoundRun → OutState → OutState → Type 0
IsBoundSaid r old new = (said : List ℕ) × IsCycleSaid r.loaded.program r.input.items said
    × IsReported old new (bound_sentence r.limit.bound ++ said)

-- why a run within a bound goes on: there was no more time, which is always said, or it met its bound
abbrev pub IsLimitSaid : (explains : Bool) → (seconds : Option ℕ) → FoundRun → OutState → OutState → Type 0
IsLimitSaid explains (Some seconds) r old new = IsReported old new (time_sentence seconds r.limit.bound)
IsLimitSaid true None r old new = IsBoundSaid r old new
IsLimitSaid false None r old new = new ≡ old

-- of a program's run a fault is explained with its line of the text, and with why it came
abbrev pub IsFaultExplained : Bool → FoundRun → Fault → OutState → OutState → Type 0
IsFaultExplained true r fault old new =
    (said : List ℕ) × IsFaultSaid r fault said × IsReported old new said
IsFaultExplained false r fault old new = new ≡ old

-- and that its bound was met, or its time over
abbrev pub IsRunExplained : Bool → FoundRun → Outcome → OutState → OutState → Type 0
IsRunExplained explains r (Faulted fault output) old new = IsFaultExplained explains r fault old new
IsRunExplained explains r (GoesOn output) old new = IsLimitSaid explains r.limit.seconds r old new
IsRunExplained explains r _ old new = new ≡ old

-- of a listing's code what happened is said, since its lines aren't the program's
abbrev pub IsCodeExplained : Bool → FoundCode → Outcome → OutState → OutState → Type 0
IsCodeExplained true c (Faulted fault output) old new = IsReported old new (fault_sentence c.code.layout fault unknown)
IsCodeExplained _ c o old new = new ≡ old

-- of an accepted program a comment is told that begins as a size line and is none
abbrev pub IsAcceptedExplained : Bool → Source → OutState → OutState → Type 0
IsAcceptedExplained true s old new = IsReported old new (false_note s)
IsAcceptedExplained false s old new = new ≡ old

-- Where that is asked for, the fault of what was found is explained; and nothing is said where there is none.
abbrev pub IsExplained : Bool → Settled → OutState → OutState → Type 0
IsExplained explains (settled.Run r told) old new = IsRunExplained explains r r.outcome old new
IsExplained explains (settled.Costed r told costs) old new = IsRunExplained explains r r.outcome old new
IsExplained explains (settled.Traced r told exchanges) old new = IsRunExplained explains r r.outcome old new
IsExplained explains (settled.Accepted l) old new = IsAcceptedExplained explains l.source old new
IsExplained explains (settled.Executed c) old new = IsCodeExplained explains c c.outcome old new
IsExplained explains _ old new = new ≡ old
