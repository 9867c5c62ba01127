-- The cause that is told at each kind of place is the lowest of those that apply there.
use Rattle.std.proofs.Common.{◌≡◌, ℕ, ◌+◌, ◌<◌, Bool, true, false, ◌&&◌, not, nat_eq, nat_le, nat_lt, int_lt, List, [], ◌∷◌, ◌++◌, Option}
use Rattle.std.proofs.Common.{Some, None, ℤ, pos, negsuc, refl, sym, subst, arith}
use Rattle.std.specs.Prelude.{if◌then◌else◌, int_le}
use Rattle.std.specs.List.{All, list_any}
use mathlib.Core.Logic.{◌⊎◌, inl, inr}
use Rattle.std.proofs.lemmas.Bool.Decides.{nat_tests}
use Rattle.std.proofs.lemmas.List.Elements.{All-cons}
use Rattle.pram_model.specs.Layout.{size, most_cells}
use Rattle.pram_names.specs.declared.scope.Meaning.{Meaning}
use Rattle.pram_names.specs.declared.scope.Meaning.TheVariants.{Uniform, Cell, Array, Index, Local}
use Rattle.pram_names.specs.declared.fault.Cause.{Cause}
use Rattle.pram_names.specs.declared.fault.Cause.TheVariants.{UnknownName, DoubleName, WrongKind, AssignedLoopVariable, Limit}
use Rattle.pram_names.specs.declared.fault.Limit.TheVariants as limit
use Rattle.pram_names.specs.Scope.{Scope, meaning_of}
use Rattle.pram_names.specs.Breaches.{use_cause, ninth, is_read, or_else, most_reads, target_cause, element_cause, variable_cause}
use Rattle.pram_names.specs.Breaches.{new_cause, shared_cause, bounds_cause, cells_cause}
use Rattle.pram_check.specs.Faults.{number, when, use_causes, target_causes, element_causes, variable_causes, new_causes, shared_causes}
use Rattle.pram_check.specs.Faults.{is_unknown, is_reversed}
use Rattle.pram_check.proofs.Least.{IsLowest}

abbrev Rank : Cause → Cause → Type 0
Rank c d = (d ≡ c) ⊎ (number c < number d)

none_left : (c : Cause) → All (Rank c) []
none_left c k d below = absurd (omega (arith, below))

one : (c : Cause) → IsLowest (Some c) (c ∷ [])
one c = ((0, omega arith, refl), All-cons (Rank c) c [] (inl refl) (none_left c))

before : (c d : Cause) → number c < number d → IsLowest (Some c) (c ∷ d ∷ [])
before c d low = ((0, omega arith, refl), All-cons (Rank c) c (d ∷ []) (inl refl) (All-cons (Rank c) d [] (inr low) (none_left c)))

pub where_it_holds : (b : Bool) (c : Cause) → IsLowest (if b then Some c else None) (when b c)
where_it_holds true c = one c
where_it_holds false c = refl

before_one : (b : Bool) (c d : Cause) → number c < number d → IsLowest (Some c) (c ∷ when b d)
before_one true c d low = before c d low
before_one false c d low = one c

before_two : (a b : Bool) (c d e : Cause) → number c < number d → number c < number e → IsLowest (Some c) (c ∷ (when a d ++ when b e))
before_two true true c d e low other = (
  (0, omega arith, refl),
  All-cons (Rank c) c (d ∷ e
      ∷ []) (inl refl) (All-cons (Rank c) d (e ∷ []) (inr low) (All-cons (Rank c) e [] (inr other) (none_left c))),
)
before_two true false c d e low other = before c d low
before_two false b c d e low other = before_one b c e other

pub use_lowest : (m : Option Meaning) (s : Bool) (n : ℕ) → IsLowest (or_else (use_cause m s) (ninth n (is_read m s))) (use_causes m s n)
use_lowest None true n = one UnknownName
use_lowest None false n = one UnknownName
use_lowest (Some (Cell k)) false n = where_it_holds (nat_eq n most_reads) (Limit limit.Reads)
use_lowest (Some (Cell k)) true n = one WrongKind
use_lowest (Some (Array k)) true n = where_it_holds (nat_eq n most_reads) (Limit limit.Reads)
use_lowest (Some (Array k)) false n = one WrongKind
use_lowest (Some (Uniform k)) true n = one WrongKind
use_lowest (Some (Uniform k)) false n = refl
use_lowest (Some Index) true n = one WrongKind
use_lowest (Some Index) false n = refl
use_lowest (Some (Local k)) true n = one WrongKind
use_lowest (Some (Local k)) false n = refl

-- inside pardo, whatever the loops around it
pub target_lowest_inside : (seen loops : List ℕ) (m : Option Meaning) → IsLowest (target_cause true seen m) (target_causes true loops m)
target_lowest_inside seen loops None = one UnknownName
target_lowest_inside seen loops (Some (Array k)) = one WrongKind
target_lowest_inside seen loops (Some (Cell k)) = refl
target_lowest_inside seen loops (Some Index) = one AssignedLoopVariable
target_lowest_inside seen loops (Some (Local k)) = refl
target_lowest_inside seen loops (Some (Uniform k)) = before_one (list_any (nat_eq k) loops) WrongKind AssignedLoopVariable (omega arith)

pub target_lowest_outside : (loops : List ℕ) (m : Option Meaning) → IsLowest (target_cause false loops m) (target_causes false loops m)
target_lowest_outside loops None = one UnknownName
target_lowest_outside loops (Some (Array k)) = one WrongKind
target_lowest_outside loops (Some (Cell k)) = refl
target_lowest_outside loops (Some Index) = one AssignedLoopVariable
target_lowest_outside loops (Some (Local k)) = one WrongKind
target_lowest_outside loops (Some (Uniform k)) = where_it_holds (list_any (nat_eq k) loops) AssignedLoopVariable

pub element_lowest : (loops : List ℕ) (m : Option Meaning) → IsLowest (element_cause m) (element_causes loops m)
element_lowest loops None = one UnknownName
element_lowest loops (Some (Array k)) = refl
element_lowest loops (Some (Cell k)) = one WrongKind
element_lowest loops (Some Index) = before WrongKind AssignedLoopVariable (omega arith)
element_lowest loops (Some (Local k)) = one WrongKind
element_lowest loops (Some (Uniform k)) = before_one (list_any (nat_eq k) loops) WrongKind AssignedLoopVariable (omega arith)

pub variable_lowest : (loops : List ℕ) (m : Option Meaning) → IsLowest (variable_cause loops m) (variable_causes loops m)
variable_lowest loops None = one UnknownName
variable_lowest loops (Some (Array k)) = one WrongKind
variable_lowest loops (Some (Cell k)) = one WrongKind
variable_lowest loops (Some Index) = before WrongKind AssignedLoopVariable (omega arith)
variable_lowest loops (Some (Local k)) = one WrongKind
variable_lowest loops (Some (Uniform k)) = where_it_holds (list_any (nat_eq k) loops) AssignedLoopVariable

pub new_lowest : (scope : Scope) (text : List ℕ) → IsLowest (new_cause scope text) (new_causes scope text)
new_lowest scope text = by (meaning_of scope text)
  where
    by : (m : Option Meaning) → IsLowest (elim m [ None ↦ None | Some m ↦ Some DoubleName ]) (when (not (is_unknown m)) DoubleName)
    by None = refl
    by (Some m) = one DoubleName

over : (low high : ℤ) → int_lt high low ≡ true → int_le low high ≡ false
over (pos a) (pos b) is = grind (arith, nat_tests)
over (pos a) (negsuc b) is = refl
over (negsuc a) (pos b) is = absurd (cc)
over (negsuc a) (negsuc b) is = grind (arith, nat_tests)

-- an array with its low bound above its high one counts no cells, so it passes no limit
no_cells : (low high : ℤ) → int_lt high low ≡ true → size (Some (low, high)) ≡ 0
no_cells low high is = let above : int_le low high ≡ false = over low high is in rw above refl

passes_none : (cells more : ℕ) → more ≡ 0 → (nat_le cells most_cells && nat_lt most_cells (cells + more)) ≡ false
passes_none cells more is = grind (arith, nat_tests)

abbrev passes : ℕ → Option (ℤ × ℤ) → Bool
passes cells bounds = nat_le cells most_cells && nat_lt most_cells (cells + size bounds)

bounds_lowest : (cells : ℕ) (bounds : Option (ℤ × ℤ)) → IsLowest (or_else (bounds_cause bounds) (cells_cause cells (size bounds)))
    (when (is_reversed bounds) (Limit limit.Bounds) ++ when (passes cells bounds) (Limit limit.Cells))
bounds_lowest cells None = where_it_holds (passes cells None) (Limit limit.Cells)
bounds_lowest cells (Some (low, high)) = by (int_lt high low) refl
  where
    by : (b : Bool) → int_lt high low ≡ b →
        IsLowest (or_else (if b then Some (Limit limit.Bounds) else None) (if passes cells (Some (low, high)) then
        Some (Limit limit.Cells) else None))
        (when b (Limit limit.Bounds) ++ when (passes cells (Some (low, high))) (Limit limit.Cells))
    by true is =
        subst (λ p. IsLowest (Some (Limit limit.Bounds)) (Limit limit.Bounds ∷ when p (Limit limit.Cells)))
        (sym (passes_none cells (size (Some (low, high))) (no_cells low high is))) (one (Limit limit.Bounds))
    by false is = where_it_holds (passes cells (Some (low, high))) (Limit limit.Cells)

pub shared_lowest : (scope : Scope) (cells : ℕ) (text : List ℕ) (bounds : Option (ℤ × ℤ)) → IsLowest (shared_cause scope cells text bounds)
    (shared_causes scope cells text bounds)
shared_lowest scope cells text bounds = by (meaning_of scope text)
  where
    by : (m : Option Meaning) → IsLowest (or_else (elim m [ None ↦ None | Some m ↦ Some DoubleName ])
        (or_else (bounds_cause bounds) (cells_cause cells (size bounds))))
        (when (not (is_unknown m)) DoubleName
        ++ (when (is_reversed bounds) (Limit limit.Bounds) ++ when (passes cells bounds) (Limit limit.Cells)))
    by None = bounds_lowest cells bounds
    by (Some m) = before_two (is_reversed bounds) (passes cells bounds) DoubleName (Limit limit.Bounds) (Limit limit.Cells) (omega arith)
        (omega arith)
