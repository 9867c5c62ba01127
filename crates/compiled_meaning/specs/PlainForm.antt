-- What makes code a compiled program: on every machine it comes out as the program does.
use Rattle.std.specs.Prelude.{◌≡◌, ◌↔◌, ℕ, ◌≤◌, List, length, Bool, ℤ}
use Rattle.pram_model.specs.Layout.{total_size}
use Rattle.write_rules.specs.Verdict.{Verdict}
use Rattle.address_map.specs.Lawful.{Shape}
use Rattle.superstep_instructions.specs.Code.{SuperstepCode}
use Rattle.superstep_machine.specs.Run.{IsBspOutcome}
use Rattle.flat_machine.specs.Flatness.{IsMapFor}
use Rattle.flat_machine.specs.Exchanges.{exchanges_of, but_empty}
use Rattle.fusing.specs.Fusing.{IsFaultless}
use Rattle.pram_check.specs.Checked.{Checked}
use Rattle.pram_check.specs.Bounded.{IsBounded}
use Rattle.pram_meaning.specs.Outcome.{IsOutcome}
use Rattle.pram_meaning.specs.Values.{AreValues}
use Rattle.plain_form.specs.PlainForm.{form_of}
use Rattle.exchange_bound.specs.Bound.{exchange_bound}
use Rattle.exchange_bound.specs.Events.{events_of}
use Rattle.exchange_bound.specs.Accesses.{words}
use Rattle.exchange_words.specs.Accesses.{of_write, words_of}

-- at most one value for each cell, of 64 bits each
pub record IsInputFor (p : Checked) (input : List ℤ) : Type 0 where
  pub few : length input ≤ total_size p.layout
  pub values : AreValues input

-- the words that the accesses of a program's run take, with so many workers
abbrev pub word_bound : Checked → (workers : ℕ) → List ℤ → ℕ → ℕ
word_bound p workers input n = words workers (of_write p.rule) (events_of p input n)

-- The code has the program's rule, number of processors and layout. On the workers of every lawful map with a place for each cell, for
-- every input and every bound, its outcomes are the program's, and no other. And where the outcome is no fault, the exchanges of its run,
-- without each send at which nothing is held, are at most the program's bound; and the words of its accesses those of the program's.
pub record IsPlainForm (p : Checked) (code : SuperstepCode) : Type 0 where
  pub rule : code.rule ≡ p.rule
  pub procs : code.procs ≡ p.procs
  pub layout : code.layout ≡ p.layout
  pub outcomes : (map : Shape) → IsMapFor code map → (input : List ℤ) → IsInputFor p input → (bound : ℕ) (verdict : Verdict) →
      IsBspOutcome code map input bound verdict ↔ IsOutcome p input bound verdict
  pub few : (input : List ℤ) → IsInputFor p input → (bound : ℕ) (verdict : Verdict) → IsOutcome p input bound verdict →
      IsFaultless verdict → length (but_empty (exchanges_of code bound input)) ≤ exchange_bound p input bound
  pub words : (input : List ℤ) → IsInputFor p input → (bound : ℕ) (verdict : Verdict) → IsOutcome p input bound verdict →
      IsFaultless verdict → (workers : ℕ) → words_of code bound workers input ≤ word_bound p workers input bound

-- the plain form of every program within bounds, with its empty sends and without
abbrev pub FormsArePlain : Type 0
FormsArePlain = (keep : Bool) (p : Checked) → IsBounded p → IsPlainForm p (form_of keep p)
