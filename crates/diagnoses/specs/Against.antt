-- What the checker has against a name, by its role and by what it stands for.
use Rattle.std.specs.Prelude.{◌≡◌, ℕ, Bool, true, false, List, [], ◌++◌, Some, ◌↔◌}
use Rattle.pram_names.specs.declared.fault.Cause.{Cause}
use Rattle.pram_names.specs.declared.scope.Meaning.{Meaning}
use Rattle.pram_names.specs.declared.scope.Meaning.TheVariants.{Uniform, Cell, Array, Index, Local}
use Rattle.pram_check.specs.Faults.{element_causes, is_loop_variable, target_causes, use_causes, variable_causes}
use Rattle.help.specs.declared.known.Sort.{Sort}
use Rattle.help.specs.declared.known.Sort.TheVariants as sort
use Rattle.diagnoses.specs.declared.fitting.Role.{Role}
use Rattle.diagnoses.specs.declared.fitting.Role.TheVariants as role
use Rattle.diagnoses.specs.Fitting.{may_stand}

-- as what it is declared
abbrev pub sort_of : Meaning → Sort
sort_of (Uniform k) = sort.Variable
sort_of (Cell k) = sort.Cell
sort_of (Array k) = sort.Array
sort_of Index = sort.Index
sort_of (Local k) = sort.Local

-- All that is wrong with a name of that role, inside pardo or outside, in the loops of these variables. An element may be read or assigned.
-- No other shared read of the statement stands before it, so that the limit of reads is not met.
abbrev pub causes_against : Role → (inside : Bool) → (loops : List ℕ) → Meaning → List Cause
causes_against role.Element inside loops m = element_causes loops (Some m) ++ use_causes (Some m) true 0
causes_against role.Target inside loops m = target_causes inside loops (Some m)
causes_against role.Counter inside loops m = variable_causes loops (Some m)
causes_against role.Value inside loops m = use_causes (Some m) false 0

-- What may stand there is what the checker has nothing against.
abbrev pub IsAsJudged : Role → (inside : Bool) → (loops : List ℕ) → Meaning → Type 0
IsAsJudged r inside loops m =
    (may_stand r inside (is_loop_variable loops (Some m)) (sort_of m) ≡ true) ↔ (causes_against r inside loops m ≡ [])
