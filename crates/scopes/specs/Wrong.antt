-- What goes wrong on an input.
use Rattle.std.specs.Prelude.{ℕ, nat_eq, Bool, false, not, ◌&&◌, ◌||◌, Option, Some, None, List, ℤ, int_le, length}
use Rattle.std.specs.List.{list_all}
use Rattle.pram_check.specs.Checked.{Checked}
use Rattle.write_rules.specs.declared.fault.Fault.{Fault}
use Rattle.write_rules.specs.Verdict.{Verdict}
use Rattle.scopes.specs.declared.scope.Scope.{Scope}
use Rattle.scopes.specs.declared.specification.Specification.{Specification}
use Rattle.scopes.specs.declared.wrong.Wrong.{Wrong}
use Rattle.scopes.specs.declared.wrong.Wrong.TheVariants.{Faults, GoesOn, Fails}
use Rattle.scopes.specs.Firsts.{are_alike}
use Rattle.scopes.specs.Lists.{are_apart}
use Rattle.scopes.specs.Runs.{fault_of, is_going_on, verdict_on}
use Rattle.scopes.specs.Specified.{counts, is_failing}

-- ---- inputs of a scope

-- a value from low to high
abbrev pub is_within : (low high : ℤ) → ℤ → Bool
is_within low high x = int_le low x && int_le x high

-- so many values, each of the interval, and apart where they are to be
abbrev pub is_input : Scope → List ℤ → Bool
is_input s xs = nat_eq (length xs) s.count && (list_all (is_within s.low s.high) xs && (not s.apart || are_apart xs))

-- ---- what goes wrong

-- a fault of that kind at that line
abbrev pub is_like : Fault → Option Fault → Bool
is_like f None = false
is_like f (Some g) = are_alike f g

-- how a run on an input came out is wrong in this way: it has such a fault, it goes on, or it fails
abbrev pub is_wrong : Wrong → Option Checked → Checked → ℕ → List ℤ → Verdict → Bool
is_wrong (Faults f) q p n input v = is_like f (fault_of v)
is_wrong GoesOn q p n input v = is_going_on v
is_wrong Fails q p n input v = is_failing q p n input v

-- an input of the scope that counts, on which the run is wrong in this way
abbrev pub goes_wrong : Scope → Specification → Checked → ℕ → Wrong → List ℤ → Bool
goes_wrong scope s p n wrong input =
    is_input scope input && (counts s.precondition n input && is_wrong wrong s.postcondition p n input (verdict_on p n input))
