-- Faults that are told of what was found.
use Rattle.std.proofs.Common.{◌≡◌, ◌≤◌, ℕ, true, Option, Some, None, IfSome, IsSome, if◌then◌else◌, refl, sym, subst}
use Rattle.std.proofs.Common.{arith, tests}
use Rattle.pram_values.specs.declared.kind.Kind.{Kind}
use Rattle.all_inputs.specs.declared.faults.Faults.{Faults}
use Rattle.all_inputs.specs.Faulting.{May, reason_for}
use Rattle.abstract_runs.specs.declared.finding.Finding.{Finding}
use Rattle.abstract_runs.specs.declared.findings.Findings.{Findings}
use Rattle.abstract_runs.specs.Finding.{IsBy, MayBy, found_for, is_within, reason_within}

-- a position by the last one, where there is one
abbrev pub IsWithin : Option ℕ → ℕ → Type 0
IsWithin last at = IfSome last (λ l. at ≤ l)

within : (last : Option ℕ) (at : ℕ) (n : Finding) → n.position ≤ at → IsWithin last at → is_within last n.position ≡ true
within None at n by w = refl
within (Some l) at n by w = grind (arith, tests, by, w)

reason_there : (found : Option Finding) (last : Option ℕ) (at : ℕ) → IsBy at found → IsWithin last at → IsSome (reason_within last found)
reason_there None last at by w = absurd by
reason_there (Some n) last at by w =
    subst (λ b. IsSome (if b then Some n.reason else None)) (sym (within last at n by w)) refl

-- what may come at a position may come later
pub by_later : (found : Option Finding) (at later : ℕ) → IsBy at found → at ≤ later → IsBy later found
by_later None at later by l = by
by_later (Some n) at later by l = omega (arith, by, l)

-- the faults that are told of what was found by a last position
abbrev pub IsTold : Findings → Option ℕ → Faults → Type 0
IsTold f last all = (kind : Kind) → reason_for kind all ≡ reason_within last (found_for kind f)

pub may_within : (f : Findings) (last : Option ℕ) (all : Faults) (kind : Kind) (at : ℕ) → IsTold f last all → MayBy kind at f →
    IsWithin last at → May kind all
may_within f last all kind at told may w = subst IsSome (sym (told kind)) (reason_there (found_for kind f) last at may w)
