-- What differs between a run of a first program and one of a second, in the order in which it is told.
use Rattle.std.specs.Prelude.{ℕ, min, nat_eq, nat_lt, ℤ, Bool, true, false, if◌then◌else◌, List, [], ◌∷◌, ◌++◌, Option, Some, None}
use Rattle.std.specs.Prelude.{slice_get}
use Rattle.std.specs.Option.{option_map}
use Rattle.pram_check.specs.Checked.{Checked}
use Rattle.pram_values.specs.declared.kind.Kind.{Kind}
use Rattle.write_rules.specs.Verdict.{Verdict, Ended, Faulted, GoesOn}
use Rattle.costs.specs.Cost.{time, work}
use Rattle.costs.specs.Steps.{run_steps}
use Rattle.scopes.specs.Firsts.{kind_number}
use Rattle.scopes.specs.Runs.{is_end, verdict_on}
use Rattle.comparing.specs.declared.compared.CommonRange.{CommonRange}
use Rattle.comparing.specs.declared.compared.Compared.{Compared}
use Rattle.comparing.specs.declared.compared.Limits.{Limits}
use Rattle.comparing.specs.declared.difference.Difference.{Difference}
use Rattle.comparing.specs.declared.difference.Difference.TheVariants as differ
use Rattle.comparing.specs.declared.difference.Ending.{Ending}
use Rattle.comparing.specs.declared.difference.Ending.TheVariants as ending
use Rattle.comparing.specs.Ends.{cell_differences, output_differences}

-- ---- a run

-- what it comes to, and its time and work
pub record Run : Type 0 where
  pub verdict : Verdict
  pub time : ℕ
  pub work : ℕ

-- that of a program on an input, within so many statements
abbrev pub run_on : Checked → ℕ → List ℤ → Run
run_on p n input =
    record { verdict = verdict_on p n input; time = time (run_steps p input n); work = work (run_steps p input n) }

-- ---- how it came out

abbrev pub ending_of : Verdict → Ending
ending_of (Ended output memory) = ending.Ended
ending_of (Faulted fault output) = ending.Faulted fault
ending_of (GoesOn output) = ending.GoesOn

abbrev pub same_kind : Kind → Kind → Bool
same_kind k l = nat_eq (kind_number k) (kind_number l)

-- of faults their kinds are compared
abbrev pub same_ending : Ending → Ending → Bool
same_ending ending.Ended ending.Ended = true
same_ending (ending.Faulted f) (ending.Faulted g) = same_kind f.kind g.kind
same_ending ending.GoesOn ending.GoesOn = true
same_ending _ _ = false

abbrev pub ending_differences : Ending → Ending → List Difference
ending_differences e f = if same_ending e f then [] else differ.Endings e f ∷ []

-- ---- two ends

-- of two ends the output, where it is compared, and then the cells
abbrev pub end_differences : (output : Bool) → List CommonRange → Verdict → Verdict → List Difference
end_differences output rs (Ended o m) (Ended p q) = (if output then output_differences o p else []) ++ cell_differences rs m q
end_differences output rs _ _ = []

-- ---- the limits of the second run

-- the limit, where more is taken
abbrev pub exceeded : ℕ → Option ℕ → Option ℕ
exceeded taken None = None
exceeded taken (Some limit) = if nat_lt limit taken then Some limit else None

-- the most statements of the second program's runs: no more than its limit of time has, where it stops there
abbrev pub at_most : ℕ → Option ℕ → ℕ
at_most n None = n
at_most n (Some limit) = min n limit

abbrev pub second_bound : Limits → ℕ → ℕ
second_bound limits n = if limits.stops then at_most n limits.time else n

abbrev pub listed : Option Difference → List Difference
listed None = []
listed (Some d) = d ∷ []

abbrev pub excesses : Limits → (time work : ℕ) → List Difference
excesses limits time work =
    listed (option_map (differ.Time time) (exceeded time limits.time)) ++ listed (option_map (differ.Work work) (exceeded work limits.work))

abbrev pub limit_differences : Limits → Run → List Difference
limit_differences limits b = if is_end b.verdict then excesses limits b.time b.work else []

-- ---- all of it

abbrev pub differences : Compared → Verdict → Run → List Difference
differences c v b =
    ending_differences (ending_of v) (ending_of b.verdict)
    ++ (end_differences c.output c.ranges.items v b.verdict ++ limit_differences c.limits b)

-- the first, if there is any
abbrev pub first_difference : Compared → Verdict → Run → Option Difference
first_difference c v b = slice_get (differences c v b) 0
