-- What is found of the runs of a program on inputs.
use Rattle.std.specs.Global.{Global}
use Rattle.std.specs.Prelude.{ℕ, ◌+◌, min, max, Bool, if◌then◌else◌, Option, Some, None, List, [], ◌∷◌, ℤ, Vec, map, length, slice_get}
use Rattle.std.specs.List.{filter, filter_map, fold}
use Rattle.std.specs.Option.{option_map, option_or}
use Rattle.pram_check.specs.Checked.{Checked}
use Rattle.costs.specs.Cost.{time, work}
use Rattle.costs.specs.Steps.{run_steps}
use Rattle.write_rules.specs.declared.fault.Fault.{Fault}
use Rattle.write_rules.specs.Verdict.{Verdict, Ended, Faulted, GoesOn}
use Rattle.scopes.specs.declared.findings.Findings.{Findings}
use Rattle.scopes.specs.declared.findings.FoundFault.{FoundFault}
use Rattle.scopes.specs.declared.findings.Span.{Span}
use Rattle.scopes.specs.declared.specification.Specification.{Specification}
use Rattle.scopes.specs.Firsts.{Met, firsts, noted}
use Rattle.scopes.specs.Runs.{fault_of, is_end, is_going_on, verdict_on}
use Rattle.scopes.specs.Specified.{counting, counts, failing, fails}

-- ---- the runs on some inputs

-- the fault that is met on an input
abbrev pub met_on : Checked → ℕ → List ℤ → Option Met
met_on p n input = option_map (λ f. record { fault = f; input = input }) (fault_of (verdict_on p n input))

-- the inputs on which the run ends
abbrev pub ending : Checked → ℕ → List (List ℤ) → List (List ℤ)
ending p n inputs = filter (λ input. is_end (verdict_on p n input)) inputs

-- those on which it goes on
abbrev pub going_on : Checked → ℕ → List (List ℤ) → List (List ℤ)
going_on p n inputs = filter (λ input. is_going_on (verdict_on p n input)) inputs

-- the faults that are met on them
abbrev pub met : Checked → ℕ → List (List ℤ) → List Met
met p n inputs = filter_map (met_on p n) inputs

-- the least and the greatest of some numbers
abbrev pub span_of : List ℕ → Option Span
span_of [] = None
span_of (k ∷ ks) = Some (record { least = fold min k ks; greatest = fold max k ks })

abbrev pub times : Checked → ℕ → List (List ℤ) → List ℕ
times p n inputs = map (λ input. time (run_steps p input n)) (ending p n inputs)

abbrev pub works : Checked → ℕ → List (List ℤ) → List ℕ
works p n inputs = map (λ input. work (run_steps p input n)) (ending p n inputs)

pub record Found : Type 0 where
  pub inputs : ℕ
  pub counting : ℕ
  pub ended : ℕ
  pub faulted : ℕ
  pub go_on : ℕ
  pub failed : ℕ
  pub faults : List Met
  pub goes_on_at : Option (List ℤ)
  pub fails_at : Option (List ℤ)
  pub time : Option Span
  pub work : Option Span

-- of a program's runs on these inputs, all of so many that count, within so many statements each; the first on which the run goes on is
-- told, and the first on which it fails
abbrev pub found_of_counting : Option Checked → Checked → (n many : ℕ) → List (List ℤ) → Found
found_of_counting post p n many inputs = record {
  inputs = many;
  counting = length inputs;
  ended = length (ending p n inputs);
  faulted = length (met p n inputs);
  go_on = length (going_on p n inputs);
  failed = length (failing post p n inputs);
  faults = firsts (met p n inputs);
  goes_on_at = slice_get (going_on p n inputs) 0;
  fails_at = slice_get (failing post p n inputs) 0;
  time = span_of (times p n inputs);
  work = span_of (works p n inputs);
}

-- of its runs on those of these inputs that count
abbrev pub found : Specification → Checked → ℕ → List (List ℤ) → Found
found s p n inputs = found_of_counting s.postcondition p n (length inputs) (counting s.precondition n inputs)

-- the same, where there are so many inputs
abbrev pub of_so_many : ℕ → Found → Found
of_so_many many f = record f { inputs = many }

-- ---- what the code has found

abbrev pub met_is : FoundFault → Met
met_is f = record { fault = f.fault; input = f.input.items }

abbrev pub values_of : Vec ℤ Global → List ℤ
values_of input = input.items

abbrev pub found_is : Findings → Found
found_is f = record {
  inputs = f.inputs;
  counting = f.counting;
  ended = f.ended;
  faulted = f.faulted;
  go_on = f.go_on;
  failed = f.failed;
  faults = map met_is f.faults.items;
  goes_on_at = option_map values_of f.goes_on_at;
  fails_at = option_map values_of f.fails_at;
  time = f.time;
  work = f.work;
}

-- ---- one input more

-- nothing yet
abbrev pub nothing : Found
nothing = record {
  inputs = 0;
  counting = 0;
  ended = 0;
  faulted = 0;
  go_on = 0;
  failed = 0;
  faults = [];
  goes_on_at = None;
  fails_at = None;
  time = None;
  work = None;
}

abbrev pub widened : ℕ → Option Span → Option Span
widened k None = Some (record { least = k; greatest = k })
widened k (Some s) = Some (record { least = min s.least k; greatest = max s.greatest k })

-- one that doesn't count
abbrev pub skipped : Found → Found
skipped f = record f { inputs = f.inputs + 1 }

abbrev pub ended_more : (time work : ℕ) → Found → Found
ended_more t w f =
    record f {
      inputs = f.inputs + 1;
      counting = f.counting + 1;
      ended = f.ended + 1;
      time = widened t f.time;
      work = widened w f.work;
    }

-- whether the run that ended fails
abbrev pub ended_so : (fails : Bool) → List ℤ → Found → Found
ended_so fails input f =
    if fails then record f { failed = f.failed + 1; fails_at = option_or f.fails_at (Some input) } else f

abbrev pub faulted_more : Fault → List ℤ → Found → Found
faulted_more k input f =
    record f {
      inputs = f.inputs + 1;
      counting = f.counting + 1;
      faulted = f.faulted + 1;
      faults = noted f.faults (record { fault = k; input = input });
    }

abbrev pub going_on_more : List ℤ → Found → Found
going_on_more input f =
    record f {
      inputs = f.inputs + 1;
      counting = f.counting + 1;
      go_on = f.go_on + 1;
      goes_on_at = option_or f.goes_on_at (Some input);
    }

-- by how the run came out, its time and its work, and whether it fails
abbrev pub added : Verdict → (time work : ℕ) → (fails : Bool) → List ℤ → Found → Found
added (Ended output memory) t w fails input f = ended_so fails input (ended_more t w f)
added (Faulted fault output) t w fails input f = faulted_more fault input f
added (GoesOn output) t w fails input f = going_on_more input f

-- one input more that counts, by the run on it
abbrev pub with_run : Option Checked → Checked → ℕ → List ℤ → Found → Found
with_run post p n input f =
    added (verdict_on p n input) (time (run_steps p input n)) (work (run_steps p input n)) (fails post p n input) input f

-- one input more
abbrev pub with_input : Specification → Checked → ℕ → List ℤ → Found → Found
with_input s p n input f = if counts s.precondition n input then with_run s.postcondition p n input f else skipped f
