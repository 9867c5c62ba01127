-- Of faults that are met one after the other, the first of each kind at each line.
use Rattle.std.specs.Prelude.{ℕ, nat_eq, Bool, not, ◌&&◌, List, [], ◌∷◌, ◌++◌, ℤ, if◌then◌else◌}
use Rattle.std.specs.List.{filter, list_any}
use Rattle.pram_values.specs.declared.kind.Kind.{Kind}
use Rattle.pram_values.specs.declared.kind.Kind.TheVariants.{Overflow, DivideByZero, OutOfRange, TooWide, ReadConflict, WriteConflict}
use Rattle.write_rules.specs.declared.fault.Fault.{Fault}

-- a number for each kind
abbrev pub kind_number : Kind → ℕ
kind_number Overflow = 0
kind_number DivideByZero = 1
kind_number OutOfRange = 2
kind_number TooWide = 3
kind_number ReadConflict = 4
kind_number WriteConflict = 5

-- of one kind, at one line
abbrev pub are_alike : Fault → Fault → Bool
are_alike f g = nat_eq (kind_number f.kind) (kind_number g.kind) && nat_eq f.line g.line

-- a fault, and the input whose run has it
pub record Met : Type 0 where
  pub fault : Fault
  pub input : List ℤ

-- the first of each kind at each line, in the order in which they are met
abbrev pub firsts : List Met → List Met
firsts [] = []
firsts (m ∷ ms) = m ∷ filter (λ q. not (are_alike m.fault q.fault)) (firsts ms)

-- one more, which is kept where none like it is there
abbrev pub noted : List Met → Met → List Met
noted ms m = if list_any (λ q. are_alike q.fault m.fault) ms then ms else ms ++ m ∷ []
