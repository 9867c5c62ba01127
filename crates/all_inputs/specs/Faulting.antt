-- The faults that may come.
use Rattle.std.specs.Prelude.{Bool, List, [], ◌∷◌, Option, Some, None, IsSome, is_some}
use Rattle.std.specs.List.{filter, list_any}
use Rattle.pram_values.specs.declared.kind.Kind.{Kind}
use Rattle.pram_values.specs.declared.kind.Kind.TheVariants.{Overflow, DivideByZero, OutOfRange, TooWide, ReadConflict, WriteConflict}
use Rattle.all_inputs.specs.declared.faults.Faults.{Faults}
use Rattle.all_inputs.specs.declared.reason.Reason.{Reason}

-- why a fault of that kind may come, where it may
abbrev pub reason_for : Kind → Faults → Option Reason
reason_for Overflow f = f.overflow
reason_for DivideByZero f = f.divide_by_zero
reason_for OutOfRange f = f.out_of_range
reason_for TooWide f = f.too_wide
reason_for ReadConflict f = f.read_conflict
reason_for WriteConflict f = f.write_conflict

-- there is no reason for any
abbrev pub no_faults : Faults
no_faults = record {
  overflow = None;
  divide_by_zero = None;
  out_of_range = None;
  too_wide = None;
  read_conflict = None;
  write_conflict = None;
}

-- a fault of that kind may come
abbrev pub May : Kind → Faults → Type 0
May kind f = IsSome (reason_for kind f)

-- whatever may come by the first may come by the second
abbrev pub AreKept : Faults → Faults → Type 0
AreKept f g = (kind : Kind) → May kind f → May kind g

-- the kinds in the order in which they are told
abbrev pub all_kinds : List Kind
all_kinds = Overflow ∷ DivideByZero ∷ OutOfRange ∷ TooWide ∷ ReadConflict ∷ WriteConflict ∷ []

-- those of which a fault may come
abbrev pub kinds_of : Faults → List Kind
kinds_of f = filter (λ kind. is_some (reason_for kind f)) all_kinds

-- whether a fault of any kind may come
abbrev pub has_fault : Faults → Bool
has_fault f = list_any (λ kind. is_some (reason_for kind f)) all_kinds

-- the item of a list of one
abbrev pub single : {X : Type 0} → List X → Option X
single [] = None
single (x ∷ []) = Some x
single (x ∷ y ∷ xs) = None
