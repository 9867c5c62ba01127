-- What may stand at a place is what the checker has nothing against.
use Rattle.std.proofs.Common.{◌≡◌, [], true, false, Bool, List, ℕ, refl}
use Rattle.std.specs.Prelude.{◌↔◌, nat_eq, not}
use Rattle.std.specs.List.{list_any}
use Rattle.pram_names.specs.declared.fault.Cause.TheVariants.{AssignedLoopVariable}
use Rattle.pram_names.specs.declared.scope.Meaning.{Meaning}
use Rattle.pram_names.specs.declared.scope.Meaning.TheVariants.{Uniform, Cell, Array, Index, Local}
use Rattle.pram_check.specs.Faults.{when}
use Rattle.diagnoses.specs.Against.{IsAsJudged}
use Rattle.diagnoses.specs.declared.fitting.Role.{Role}
use Rattle.diagnoses.specs.declared.fitting.Role.TheVariants as role

-- the variable of a `for`, unless it is that of one around
by_loop : (counts : Bool) → (not counts ≡ true) ↔ (when counts AssignedLoopVariable ≡ [])
by_loop true = (λ e. absurd (cc e), λ e. absurd (cc e))
by_loop false = (λ e. refl, λ e. refl)

target : (inside : Bool) (loops : List ℕ) (m : Meaning) → IsAsJudged role.Target inside loops m
target true loops (Uniform k) = (λ e. absurd (cc e), λ e. absurd (cc e))
target true loops (Cell k) = (λ e. refl, λ e. refl)
target true loops (Array k) = (λ e. absurd (cc e), λ e. absurd (cc e))
target true loops Index = (λ e. absurd (cc e), λ e. absurd (cc e))
target true loops (Local k) = (λ e. refl, λ e. refl)
target false loops (Uniform k) = by_loop (list_any (nat_eq k) loops)
target false loops (Cell k) = (λ e. refl, λ e. refl)
target false loops (Array k) = (λ e. absurd (cc e), λ e. absurd (cc e))
target false loops Index = (λ e. absurd (cc e), λ e. absurd (cc e))
target false loops (Local k) = (λ e. absurd (cc e), λ e. absurd (cc e))

element : (inside : Bool) (loops : List ℕ) (m : Meaning) → IsAsJudged role.Element inside loops m
element inside loops (Array k) = (λ e. refl, λ e. refl)
element inside loops (Uniform k) = (λ e. absurd (cc e), λ e. absurd (cc e))
element inside loops (Cell k) = (λ e. absurd (cc e), λ e. absurd (cc e))
element inside loops Index = (λ e. absurd (cc e), λ e. absurd (cc e))
element inside loops (Local k) = (λ e. absurd (cc e), λ e. absurd (cc e))

counter : (inside : Bool) (loops : List ℕ) (m : Meaning) → IsAsJudged role.Counter inside loops m
counter inside loops (Uniform k) = by_loop (list_any (nat_eq k) loops)
counter inside loops (Cell k) = (λ e. absurd (cc e), λ e. absurd (cc e))
counter inside loops (Array k) = (λ e. absurd (cc e), λ e. absurd (cc e))
counter inside loops Index = (λ e. absurd (cc e), λ e. absurd (cc e))
counter inside loops (Local k) = (λ e. absurd (cc e), λ e. absurd (cc e))

value : (inside : Bool) (loops : List ℕ) (m : Meaning) → IsAsJudged role.Value inside loops m
value inside loops (Array k) = (λ e. absurd (cc e), λ e. absurd (cc e))
value inside loops (Uniform k) = (λ e. refl, λ e. refl)
value inside loops (Cell k) = (λ e. refl, λ e. refl)
value inside loops Index = (λ e. refl, λ e. refl)
value inside loops (Local k) = (λ e. refl, λ e. refl)

pub as_judged : (r : Role) (inside : Bool) (loops : List ℕ) (m : Meaning) → IsAsJudged r inside loops m
as_judged role.Element = element
as_judged role.Target = target
as_judged role.Counter = counter
as_judged role.Value = value
