-- How many supersteps the workers of a machine take for a compiled program, at most.
use Rattle.std.specs.Prelude.{ℕ, ◌≤◌, List, length, Bool, ℤ}
use Rattle.write_rules.specs.Verdict.{Verdict}
use Rattle.address_map.specs.Lawful.{Shape}
use Rattle.superstep_instructions.specs.Code.{SuperstepCode}
use Rattle.superstep_machine.specs.Trace.{Exchange, AreBspExchanges}
use Rattle.flat_machine.specs.Flatness.{IsMapFor}
use Rattle.exchange_words.specs.Sent.{words_sent}
use Rattle.fusing.specs.Fusing.{Fuses, IsFaultless}
use Rattle.pram_check.specs.Checked.{Checked}
use Rattle.pram_check.specs.Bounded.{IsBounded}
use Rattle.pram_meaning.specs.Outcome.{IsOutcome}
use Rattle.plain_form.specs.PlainForm.{form_of}
use Rattle.exchange_bound.specs.Bound.{exchange_bound}
use Rattle.compiled_meaning.specs.PlainForm.{IsInputFor, IsPlainForm, word_bound}

-- the workers of every lawful map make at most so many exchanges, each with its words, up to a verdict of the program that is no fault
abbrev pub KeepsTheBound : Checked → SuperstepCode → Type 0
KeepsTheBound p code = (map : Shape) → IsMapFor code map → (input : List ℤ) → IsInputFor p input → (bound : ℕ) (verdict : Verdict) →
    IsOutcome p input bound verdict → IsFaultless verdict → (made : List Exchange) → AreBspExchanges code map input bound verdict made →
    length made ≤ exchange_bound p input bound

-- Work bounds communication: in these exchanges they send at most as many words as the accesses of the program's run take, with as many
-- workers as the map has.
abbrev pub SendsWithinWork : Checked → SuperstepCode → Type 0
SendsWithinWork p code = (map : Shape) → IsMapFor code map → (input : List ℤ) → IsInputFor p input → (bound : ℕ) (verdict : Verdict) →
    IsOutcome p input bound verdict → IsFaultless verdict → (made : List Exchange) → AreBspExchanges code map input bound verdict made →
    words_sent made ≤ word_bound p map.parts input bound

-- it means what the program means, and keeps the bound on exchanges and that on words
pub record IsFusedForm (p : Checked) (code : SuperstepCode) : Type 0 where
  pub form : IsPlainForm p code
  pub supersteps : KeepsTheBound p code
  pub communication : SendsWithinWork p code

-- so does the plain form of every program within bounds once it is fused
abbrev pub FusedFormsArePlain : Type 0
FusedFormsArePlain = (keep : Bool) (p : Checked) (code : SuperstepCode) → IsBounded p → Fuses (form_of keep p) code → IsFusedForm p code
