-- When the verdict of verified code is fixed, and that there is one.
use Rattle.std.specs.Prelude.{◌≡◌, ℕ, ◌+◌, ◌*◌, ◌<◌, ◌≤◌, List, length, Bool, true, false, Option, Some, ℤ, slice_get}
use Rattle.write_rules.specs.Verdict.{Verdict, Faulted}
use Rattle.address_map.specs.Lawful.{Shape}
use Rattle.superstep_instructions.specs.declared.instr.Instr.{Instr}
use Rattle.superstep_instructions.specs.declared.instr.Instr.TheVariants.{Mark, Halt}
use Rattle.superstep_machine.specs.declared.key.Key.{Key}
use Rattle.superstep_instructions.specs.Code.{SuperstepCode}
use Rattle.superstep_machine.specs.Keys.{least}
use Rattle.superstep_machine.specs.Run.{IsBspOutcome, On, fault_of, items_below}
use Rattle.bsp_verify.specs.WellFormed.{IsWellFormed}
use Rattle.flat_machine.specs.Flat.{Flat, owed}
use Rattle.flat_machine.specs.Flatness.{IsMapFor}
use Rattle.flat_machine.specs.ByExchanges.{opening}
use Rattle.flat_machine.specs.ByInstructions.{steps, everywhere, outcome_within, IsOutcomeBy, IsFlatOutcome}

-- the least key among those noted and those that the held write owes: its conflicts, which are noted when it is sent
abbrev pub told : SuperstepCode → Flat → Option Key
told code f = least f.key (owed code f)

-- the key is told, and its statement is over
pub record IsLate (code : SuperstepCode) (key : Key) (f : Flat) : Type 0 where
  pub told : told code f ≡ Some key
  pub over : key.count < f.uniform.count

-- a mark, or a halt: there the statement before is over
abbrev pub ends_statement : Option Instr → Bool
ends_statement (Some (Mark line)) = true
ends_statement (Some Halt) = true
ends_statement _ = false

-- A key is for good: where a run of well-formed code comes to a mark or to a halt, whichever exchanges decided so far, the least key that
-- is noted or owed is its verdict, whatever comes later, with the output of the statements before.
abbrev pub AKeyIsForGood : Type 0
AKeyIsForGood = (code : SuperstepCode) → IsWellFormed code → (judges : ℕ → Bool) (input : List ℤ) (bound n : ℕ) (key : Key) →
    let s = steps code bound judges n (opening input) in
    s.way ≡ On → ends_statement (slice_get code.instructions s.place) ≡ true → told code s.flat ≡ Some key →
    IsFlatOutcome code input bound (Faulted (fault_of key) (items_below key.count s.flat.uniform.output))

-- A verdict may be told late: where a run goes on, at any place, with a key that is told and whose statement is over, that key is the
-- verdict, within (bound + 1) * N instructions, N those of the code; whichever exchanges decided so far, and whichever decide.
abbrev pub AVerdictMayBeLate : Type 0
AVerdictMayBeLate = (code : SuperstepCode) → IsWellFormed code → (judges others : ℕ → Bool) (input : List ℤ) (bound n : ℕ) (key : Key) →
    let s = steps code bound judges n (opening input) in
    s.way ≡ On → IsLate code key s.flat →
    outcome_within code bound others ((bound + 1) * length code.instructions) input
    ≡ Some (Faulted (fault_of key) (items_below key.count s.flat.uniform.output))

-- The time of the verdict doesn't matter: the exchanges of any places may decide, or the closing one alone.
abbrev pub AnyTimeOfVerdict : Type 0
AnyTimeOfVerdict = (code : SuperstepCode) → IsWellFormed code → (judges : ℕ → Bool) (input : List ℤ) (bound : ℕ) (verdict : Verdict) →
    (IsOutcomeBy judges code input bound verdict → IsFlatOutcome code input bound verdict)
    × (IsFlatOutcome code input bound verdict → IsOutcomeBy judges code input bound verdict)

-- A verdict that stands after (bound + 1) * N instructions, N those of the code, and after any greater number. It is the only one, of the
-- flat machine and on the workers of every map.
pub record HasOneOutcome (code : SuperstepCode) (input : List ℤ) (bound : ℕ) : Type 0 where
  pub verdict : Verdict
  pub lasts : (n : ℕ) → (bound + 1) * length code.instructions ≤ n → outcome_within code bound everywhere n input ≡ Some verdict
  pub only : (other : Verdict) → IsFlatOutcome code input bound other → other ≡ verdict
  pub on_workers : (map : Shape) → IsMapFor code map → IsBspOutcome code map input bound verdict
  pub alone : (map : Shape) → IsMapFor code map → (other : Verdict) → IsBspOutcome code map input bound other → other ≡ verdict

abbrev pub OneOutcome : Type 0
OneOutcome = (code : SuperstepCode) → IsWellFormed code → (input : List ℤ) (bound : ℕ) → HasOneOutcome code input bound
