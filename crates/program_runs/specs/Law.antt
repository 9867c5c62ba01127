-- Work bounds communication.
use Rattle.std.specs.Prelude.{◌≡◌, ℕ, ◌+◌, ◌*◌, ◌≤◌, List, Some, ℤ}
use Rattle.write_rules.specs.Verdict.{Verdict}
use Rattle.address_map.specs.Lawful.{Shape}
use Rattle.superstep_instructions.specs.Code.{SuperstepCode}
use Rattle.superstep_machine.specs.Trace.{Exchange, AreBspExchanges}
use Rattle.flat_machine.specs.Flatness.{IsMapFor}
use Rattle.fusing.specs.Fusing.{IsFaultless}
use Rattle.exchange_words.specs.Accesses.{of_write}
use Rattle.exchange_words.specs.Sent.{words_sent}
use Rattle.pram_check.specs.Checked.{Checked}
use Rattle.pram_meaning.specs.Outcome.{IsOutcome}
use Rattle.compiled_meaning.specs.PlainForm.{IsInputFor}
use Rattle.compiled_meaning.specs.Supersteps.{IsFusedForm}
use Rattle.costs.specs.Communication.{inside, most_words, outside}
use Rattle.costs.specs.Cost.{reads, writes}

-- For p workers: two words for each read inside pardo and three for each write there; outside, where each worker makes each read, two for
-- each worker, and three for each write. Four for three under the rule sum.
abbrev pub communication : Checked → (workers : ℕ) → List ℤ → ℕ → ℕ
communication p workers input n =
    2 * reads (inside p input n) + of_write p.rule * writes (inside p input n) + 2 * workers * reads (outside p input n)
    + of_write p.rule * writes (outside p input n)

-- In a run of a compiled program that doesn't fault, on the workers of every lawful map, all words of all exchanges are at most that.
abbrev pub WorkBoundsCommunication : Type 0
WorkBoundsCommunication = (p : Checked) (code : SuperstepCode) → IsFusedForm p code → (map : Shape) → IsMapFor code map →
    (input : List ℤ) → IsInputFor p input → (bound : ℕ) (verdict : Verdict) → IsOutcome p input bound verdict → IsFaultless verdict →
    (made : List Exchange) → AreBspExchanges code map input bound verdict made → words_sent made ≤ communication p map.parts input bound

-- That is what the costs of a run tell for so many workers.
abbrev pub CostsTellCommunication : Type 0
CostsTellCommunication = (p : Checked) (workers : ℕ) (input : List ℤ) (bound : ℕ) →
    most_words p (Some workers) input bound ≡ Some (communication p workers input bound)
