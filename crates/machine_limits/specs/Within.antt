-- What the runs of code keep within: values of 64 bits, and messages that can be sent in few words.
use Rattle.std.specs.Prelude.{◌≡◌, ℕ, ◌+◌, ◌-◌, ◌*◌, ◌/◌, ◌<◌, ◌≤◌, List, length, Bool, Option, Some, ℤ, FitsSigned}
use Rattle.std.specs.List.{AllByRecursion}
use Rattle.std.specs.Int.{w64}
use Rattle.pram_model.specs.declared.rule.Rule.{Rule}
use Rattle.pram_model.specs.declared.rule.Rule.TheVariants.{Sum}
use Rattle.write_rules.specs.declared.entry.Entry.{Entry}
use Rattle.write_rules.specs.Verdict.{Verdict, Ended, Faulted, GoesOn}
use Rattle.superstep_machine.specs.declared.mark.HeaderMark.{HeaderMark}
use Rattle.superstep_instructions.specs.Code.{SuperstepCode}
use Rattle.superstep_instructions.specs.Limits.{IsCode}
use Rattle.superstep_machine.specs.Setting.{Setting, workers}
use Rattle.superstep_machine.specs.Parts.{Registers, PrivatePart}
use Rattle.superstep_machine.specs.Steps.{index_of}
use Rattle.superstep_machine.specs.Sending.{settled, verdict_on}
use Rattle.superstep_machine.specs.Words.{words}
use Rattle.superstep_machine.specs.Worker.{Worker}
use Rattle.superstep_machine.specs.Machine.{phases}
use Rattle.superstep_machine.specs.Run.{State, ready, message_of, bsp, IsBspOutcome}
use Rattle.superstep_machine.specs.Refusals.{opening_with}
use Rattle.superstep_machine.specs.Fitting.{CanBeSent}
use Rattle.superstep_machine.specs.WordLaws.{IsReadBack}
use Rattle.bsp_verify.specs.WellFormed.{IsWellFormed}
use Rattle.bsp_verify.specs.Moments.{moment}
use Rattle.flat_machine.specs.Flat.{Flat}
use Rattle.flat_machine.specs.ByExchanges.{opening}
use Rattle.flat_machine.specs.ByInstructions.{steps}
use Rattle.flat_machine.specs.Flatness.{IsMapFor}

-- ---- values

-- values of 64 bits
abbrev pub AreValues : List ℤ → Type 0
AreValues = AllByRecursion (FitsSigned w64)

abbrev pub HaveValues : Registers → Type 0
HaveValues registers = (r : ℕ) → FitsSigned w64 (registers r)

-- all that a worker has: on both sides, in its module, and what was printed
pub record IsOfValues (x : Worker) : Type 0 where
  pub uniform : HaveValues x.uniform.registers
  pub own : AllByRecursion (λ (y : PrivatePart). HaveValues y.registers) x.own
  pub cells : AreValues x.cells
  pub output : AllByRecursion (λ (item : ℕ × ℤ). FitsSigned w64 item.1) x.uniform.output

-- a run on the workers of a map with a place for each cell, from an input of values
pub record IsGiven (t : Setting) (input : List ℤ) : Type 0 where
  pub code : IsCode t.code
  pub room : IsMapFor t.code t.map
  pub values : AreValues input

-- at every moment, for every code
abbrev pub ValuesFit : Type 0
ValuesFit = (t : Setting) (input : List ℤ) → IsGiven t input → (n m w place : ℕ) (x : Worker) →
    moment t input n m w ≡ Some (place, x) → IsOfValues x

-- the output and the memory of an outcome
abbrev pub IsVerdictOfValues : Verdict → Type 0
IsVerdictOfValues (Ended output memory) = AreValues output × AreValues memory
IsVerdictOfValues (Faulted fault output) = AreValues output
IsVerdictOfValues (GoesOn output) = AreValues output

-- so are the outcomes of every code
abbrev pub OutcomesFit : Type 0
OutcomesFit = (t : Setting) (input : List ℤ) → IsGiven t input → (verdict : Verdict) →
    IsBspOutcome t.code t.map input t.bound verdict → IsVerdictOfValues verdict

-- ---- values on one memory

-- all registers, and those of the range's processors; their indices; all cells; and what was printed
pub record IsFlatOfValues (f : Flat) : Type 0 where
  pub uniform : HaveValues f.uniform.registers
  pub own : (v : ℕ) → v < f.uniform.width → HaveValues (f.own v).registers
  pub indices : (v : ℕ) → v < f.uniform.width → FitsSigned w64 (index_of f.uniform v)
  pub memory : (c : ℕ) → FitsSigned w64 (f.memory c)
  pub output : AllByRecursion (λ (item : ℕ × ℤ). FitsSigned w64 item.1) f.uniform.output

-- after any number of instructions, whichever exchanges decide, for every code
abbrev pub FlatValuesFit : Type 0
FlatValuesFit = (code : SuperstepCode) → IsCode code → (input : List ℤ) → AreValues input → (bound : ℕ) (judges : ℕ → Bool) (n : ℕ) →
    IsFlatOfValues (steps code bound judges n (opening input)).flat

-- and so it is of a cell behind a send, whatever is held for it
abbrev pub WrittenValuesFit : Type 0
WrittenValuesFit = (rule : Rule) (held : Option Entry) (old : ℤ) → FitsSigned w64 old → FitsSigned w64 (settled (verdict_on rule held) old)

-- ---- messages

-- the most processors that a worker has: those of the code by the workers, rounded up
abbrev pub share : Setting → ℕ
share t = (t.code.procs + (workers t - 1)) / workers t

-- for each of them there are at most so many words: eight reads, and a put
abbrev pub words_for_each : Rule → ℕ
words_for_each Sum = 12
words_for_each rule = 11

-- worker w after n exchanges of a run in which these marks come: of refused memory, or of a passed reserve
abbrev pub marked_after : Setting → List ℤ → (ℕ → List HeaderMark) → ℕ → ℕ → State
marked_after t input marks n w = phases (bsp t) (workers t) n (opening_with t input marks) w

-- Every message of worker w to module j in the exchange behind n others, whatever marks come: it can be sent, ..
abbrev pub MessagesCanBeSent : Type 0
MessagesCanBeSent = (t : Setting) (input : List ℤ) → IsGiven t input → IsWellFormed t.code →
    (marks : ℕ → List HeaderMark) (n w j : ℕ) → w < workers t →
    let s = marked_after t input marks n w in CanBeSent t.code.rule t.map j (ready t w s).purpose (message_of t w s j)

-- .. is read back from its header and its words, ..
abbrev pub MessagesAreReadBack : Type 0
MessagesAreReadBack = (t : Setting) (input : List ℤ) → IsGiven t input → IsWellFormed t.code →
    (marks : ℕ → List HeaderMark) (n w j : ℕ) → w < workers t →
    let s = marked_after t input marks n w in IsReadBack t.code.rule t.map j (ready t w s).purpose (message_of t w s j)

-- .. and has few words.
abbrev pub MessagesAreShort : Type 0
MessagesAreShort = (t : Setting) (input : List ℤ) → IsGiven t input → IsWellFormed t.code →
    (marks : ℕ → List HeaderMark) (n w j : ℕ) → w < workers t →
    length (words t.code.rule (message_of t w (marked_after t input marks n w) j)) ≤ words_for_each t.code.rule * share t
