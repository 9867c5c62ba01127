-- What a run of a text's program by workers is, and why a text is not run.
use Rattle.std.specs.Prelude.{ℕ, ◌<◌, ◌≤◌, List, length, ℤ, Result, Ok, Err}
use Rattle.pram_model.specs.Layout.{total_size}
use Rattle.address_map.specs.Lawful.{IsLawful, Shape, Spreads}
use Rattle.address_map.specs.Outcome.{IsOdd, IsWorkers}
use Rattle.address_map.specs.declared.fault.MapFault.{MapFault}
use Rattle.address_map.specs.declared.fault.MapFault.TheVariants as fault
use Rattle.address_map.specs.Permutation.{affine, same}
use Rattle.write_rules.specs.Verdict.{Verdict}
use Rattle.superstep_instructions.specs.Code.{SuperstepCode}
use Rattle.superstep_machine.specs.Run.{IsBspOutcome}
use Rattle.superstep_machine.specs.Trace.{AreBspExchanges, Exchange}
use Rattle.fusing.specs.Fusing.{IsFaultless}
use Rattle.pram_check.specs.Checked.{Checked}
use Rattle.exchange_bound.specs.Bound.{exchange_bound}
use Rattle.exchange_words.specs.Sent.{words_sent}
use Rattle.compiled_meaning.specs.PlainForm.{word_bound}
use Rattle.pram_tokens.specs.Plain.{IsPlain}
use Rattle.program_texts.specs.Report.{HasBreach, HasTooFewCells, IsProgramOf, IsTextRefusal}
use Rattle.program_texts.specs.declared.from_text.Refusal.{Refusal}
use Rattle.program_texts.specs.declared.from_text.Refusal.TheVariants as refusal
use Rattle.program_runs.specs.Compiled.{IsCodeOf}
use Rattle.run_options.specs.Places.{IsLeastPower}
use Rattle.run_options.specs.declared.map_choice.MapChoice.{MapChoice}
use Rattle.run_options.specs.declared.map_choice.MapChoice.TheVariants as choice
use Rattle.run_options.specs.declared.options.Options.{Options}

-- ---- the map

-- the map of that choice has so many places, in the modules of so many workers
abbrev pub IsMapOf : MapChoice → ℕ → ℕ → Shape → Type 0
IsMapOf choice.Identity places workers m = Spreads m places workers same
IsMapOf (choice.Affine factor shift) places workers m = Spreads m places workers (affine places factor shift)

-- there is such a map, for any power of two of places: what it multiplies by is odd
abbrev pub IsChoice : MapChoice → Type 0
IsChoice choice.Identity = Unit {0}
IsChoice (choice.Affine factor shift) = IsOdd factor

-- how so many cells lie: with the least power of two of places that is enough
pub record AreLaidOut (cells : ℕ) (options : Options) (m : Shape) : Type 0 where
  pub workers : IsWorkers options.workers
  pub least : IsLeastPower cells m.count
  pub is_map : IsMapOf options.map m.count options.workers m
  pub lawful : IsLawful m

-- ---- the run

-- Code was run by so many workers, up to that verdict and with these exchanges.
pub record IsCodeRun (code : SuperstepCode) (input : List ℤ) (options : Options) (verdict : Verdict)
    (exchanges : List Exchange) : Type 0 where
  pub shape : Shape
  pub laid_out : AreLaidOut (total_size code.layout) options shape
  pub fits : length input ≤ total_size code.layout
  pub outcome : IsBspOutcome code shape input options.bound verdict
  pub made : AreBspExchanges code shape input options.bound verdict exchanges

-- So was the code of a program. Where the verdict is no fault there are at most as many exchanges as the program's bound says, and in all
-- of
-- them the workers sent at most as many words as the accesses of the program's run take.
pub record IsProgramRun (program : Checked) (input : List ℤ) (options : Options) (verdict : Verdict)
    (exchanges : List Exchange) : Type 0 where
  pub code : SuperstepCode
  pub is_code : IsCodeOf program code
  pub run : IsCodeRun code input options verdict exchanges
  pub few : IsFaultless verdict → length exchanges ≤ exchange_bound program input options.bound
  pub words : IsFaultless verdict → words_sent exchanges ≤ word_bound program options.workers input options.bound

-- So was that of the accepted program of a text.
pub record IsRunByWorkers (text : List ℕ) (input : List ℤ) (options : Options) (verdict : Verdict)
    (exchanges : List Exchange) : Type 0 where
  pub program : Checked
  pub is_program : IsProgramOf text program
  pub ran : IsProgramRun program input options verdict exchanges

-- ---- refusals

-- why there is no map for so many workers
abbrev pub IsNoMap : Options → MapFault → Type 0
IsNoMap options fault.BadWorkers = ¬ (IsWorkers options.workers)
IsNoMap options fault.BadMap = IsWorkers options.workers × ¬ (IsChoice options.map)

-- Each refusal of code says what is wrong: first with the number of workers, then with the map, then with the input. Memory is asked for
-- only where nothing is.
abbrev pub IsCodeRefused : SuperstepCode → List ℤ → Options → Refusal → Type 0
IsCodeRefused code input options refusal.BadWorkers = ¬ (IsWorkers options.workers)
IsCodeRefused code input options refusal.BadMap = IsWorkers options.workers × ¬ (IsChoice options.map)
IsCodeRefused code input options refusal.InputTooLong =
    IsWorkers options.workers × IsChoice options.map × (total_size code.layout < length input)
IsCodeRefused code input options refusal.OutOfMemory =
    IsWorkers options.workers × IsChoice options.map × (length input ≤ total_size code.layout)
IsCodeRefused code input options _ = ⊥

-- So does each of a program. It is compiled first, and of want of memory there nothing is said.
abbrev pub IsProgramRefused : Checked → List ℤ → Options → Refusal → Type 0
IsProgramRefused program input options refusal.BadWorkers = ¬ (IsWorkers options.workers)
IsProgramRefused program input options refusal.BadMap = IsWorkers options.workers × ¬ (IsChoice options.map)
IsProgramRefused program input options refusal.InputTooLong =
    IsWorkers options.workers × IsChoice options.map × (total_size program.layout < length input)
IsProgramRefused program input options refusal.OutOfMemory = Unit {0}
IsProgramRefused program input options _ = ⊥

-- the text is that of an accepted program
abbrev pub IsAcceptedText : List ℕ → Type 0
IsAcceptedText text = (program : Checked) × IsProgramOf text program

-- Each refusal of a text says what is wrong: first with the text itself.
abbrev pub IsRunRefused : {X : Type 0} → List ℕ → List ℤ → Options → Result X Refusal → Type 0
IsRunRefused text input options (Ok x) = Unit {0}
IsRunRefused text input options (Err (refusal.Text fault)) = IsTextRefusal text fault
IsRunRefused text input options (Err (refusal.Program breach)) = HasBreach text breach
IsRunRefused text input options (Err refusal.BadWorkers) = IsAcceptedText text × ¬ (IsWorkers options.workers)
IsRunRefused text input options (Err refusal.BadMap) = IsAcceptedText text × IsWorkers options.workers × ¬ (IsChoice options.map)
IsRunRefused text input options (Err refusal.InputTooLong) =
    IsWorkers options.workers × IsChoice options.map × HasTooFewCells text input
IsRunRefused text input options (Err refusal.OutOfMemory) = IsPlain text
IsRunRefused text input options (Err refusal.OutOfReserve) = ⊥
