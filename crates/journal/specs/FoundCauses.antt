-- Why a statement faults, beside `Attempt` and `Conflict` of pram_meaning: the first part of it that comes to no value, from left to right,
-- a subscript before its read and operands before their operation; or the accesses to the cell at which it faults.
use Rattle.std.specs.Prelude.{Result, Ok, Err, ℕ, List, [], ◌∷◌, Bool, false, ◌&&◌, Option, Some, None, ℤ, pos, nat_eq, nat_lt, length}
use Rattle.std.specs.Prelude.{if◌then◌else◌, slice_index_or}
use Rattle.pram_model.specs.Layout.{cell_of, width}
use Rattle.pram_values.specs.declared.kind.Kind.{Kind}
use Rattle.pram_values.specs.declared.kind.Kind.TheVariants.{DivideByZero, OutOfRange, Overflow, ReadConflict, TooWide, WriteConflict}
use Rattle.pram_values.specs.declared.place.Place.{Place}
use Rattle.pram_values.specs.declared.place.Place.TheVariants.{All, Cell, Processor}
use Rattle.pram_values.specs.Truth.{is_equal}
use Rattle.pram_values.specs.Value.{Value}
use Rattle.pram_check.specs.Checked.{Checked}
use Rattle.pram_names.specs.declared.body.Expression as term
use Rattle.pram_names.specs.declared.body.Expression.{Expression, Row_of-Link, end_of-Link, more_of-Link}
use Rattle.pram_names.specs.declared.body.Target.{Target}
use Rattle.pram_names.specs.declared.body.Target.TheVariants as target
use Rattle.pram_names.specs.declared.body.StepTarget.{StepTarget}
use Rattle.pram_names.specs.declared.body.StepTarget.TheVariants as step
use Rattle.pram_meaning.specs.declared.key.Key.{Key}
use Rattle.pram_meaning.specs.Attempt.{Attempt, Effect, Fails, Gives}
use Rattle.pram_meaning.specs.Conflict.{Part, writes_to}
use Rattle.pram_meaning.specs.Moments.{Action, Assigns, AssignsOn, Bounds, Chooses, ChoosesOn, Prints, Ranges, Sets, StepAction, Turns}
use Rattle.pram_meaning.specs.Moments.{TurnsOn}
use Rattle.pram_meaning.specs.Operation.{operate, operate_before}
use Rattle.pram_meaning.specs.Store.{State, View, seen_by}
use Rattle.journal.specs.Causes.{Before, Between, Beyond, Cause, Meeting, Wide, Writing}

-- ---- expressions

-- what an operation gives, or that it is why there is no value
abbrev pub unless_wrong : Cause → Value → Result ℤ Cause
unless_wrong c (Ok v) = Ok v
unless_wrong c (Err k) = Err c

-- a value, and then what comes of it
abbrev pub and_find : Result ℤ Cause → (ℤ → Result ℤ Cause) → Result ℤ Cause
and_find (Ok v) f = f v
and_find (Err c) f = Err c

-- what a read gives; a subscript of no cell is why there is no value
abbrev pub read_or_cause : View → (entry : ℕ) → (subscript : ℤ) → Option ℕ → Result ℤ Cause
read_or_cause s a z (Some c) = Ok (slice_index_or s.cells c (pos 0))
read_or_cause s a z None = Err (Beyond a z)

abbrev mutual
  -- the value of an expression, or why it has none
  pub value_or_cause : View → Expression → Result ℤ Cause
  value_or_cause s (term.Number n) = Ok n
  value_or_cause s (term.Uniform x) = Ok (slice_index_or s.uniforms x (pos 0))
  value_or_cause s term.Index = Ok s.index
  value_or_cause s (term.Local x) = Ok (slice_index_or s.locals x (pos 0))
  value_or_cause s (term.Cell a) = read_or_cause s a (pos 0) (cell_of s.layout a (pos 0))
  value_or_cause s (term.Element' a b e) = and_find (value_or_cause s e) (λ z. read_or_cause s a z (cell_of s.layout a z))
  value_or_cause s (term.Prefix' o b e) = and_find (value_or_cause s e) (λ v. unless_wrong (Before o v) (operate_before o v))
  value_or_cause s (term.Chain' b e q links) = and_find (value_or_cause s e) (links_or_cause s links)

  -- the same of a value and the operands behind it
  pub links_or_cause : View → {n : _} → Row_of-Link n → ℤ → Result ℤ Cause
  links_or_cause s end_of-Link v = Ok v
  links_or_cause s (more_of-Link o e links) v =
      and_find (value_or_cause s e) (λ w. and_find (unless_wrong (Between v o w) (operate o v w)) (links_or_cause s links))

-- ---- statements of one processor

-- why there is no value; where there is one, what is wrong behind it
abbrev pub then_cause : Result ℤ Cause → (ℤ → Option Cause) → Option Cause
then_cause (Ok v) f = f v
then_cause (Err c) f = Some c

-- why an expression has no value, if it has none
abbrev pub cause_of_value : View → Expression → Option Cause
cause_of_value s e = then_cause (value_or_cause s e) (λ v. None)

-- why a subscript has no cell, if it has none
abbrev pub cause_of_cell : (entry : ℕ) → (subscript : ℤ) → Option ℕ → Option Cause
cause_of_cell a z (Some c) = None
cause_of_cell a z None = Some (Beyond a z)

-- why an assignment fails: its subscript, its value, and then the cell that it goes to
abbrev pub cause_of_element : View → ℕ → Expression → Expression → Option Cause
cause_of_element s a f e =
    then_cause (value_or_cause s f) (λ z. then_cause (value_or_cause s e) (λ v. cause_of_cell a z (cell_of s.layout a z)))

-- the same where it goes to the one cell of a declaration
abbrev pub cause_of_single : View → ℕ → Expression → Option Cause
cause_of_single s a e = then_cause (value_or_cause s e) (λ v. cause_of_cell a (pos 0) (cell_of s.layout a (pos 0)))

abbrev pub cause_of_assign : View → Target → Expression → Option Cause
cause_of_assign s (target.Uniform x) e = cause_of_value s e
cause_of_assign s (target.Cell a) e = cause_of_single s a e
cause_of_assign s (target.Element a f) e = cause_of_element s a f e

abbrev pub cause_of_step : View → StepTarget → Expression → Option Cause
cause_of_step s (step.Local x) e = cause_of_value s e
cause_of_step s (step.Cell a) e = cause_of_single s a e
cause_of_step s (step.Element a f) e = cause_of_element s a f e

-- why the bounds of a `for` have no values: the low one comes first
abbrev pub cause_of_bounds : View → Expression → Expression → Option Cause
cause_of_bounds s e f = then_cause (value_or_cause s e) (λ a. cause_of_value s f)

-- why so many indices are too many
abbrev pub cause_of_width : ℕ → ℤ → ℤ → Option Cause
cause_of_width procs a b = if nat_lt procs (width a b) then Some (Wide a b procs) else None

-- why there is no range of a pardo: its bounds come first, then its width
abbrev pub cause_of_range : ℕ → View → Expression → Expression → Option Cause
cause_of_range procs s e f = then_cause (value_or_cause s e) (λ a. then_cause (value_or_cause s f) (λ b. cause_of_width procs a b))

-- why a statement outside pardo faults, if it does
abbrev pub cause_alone : ℕ → View → Action → Option Cause
cause_alone procs s (Assigns x e) = cause_of_assign s x e
cause_alone procs s (Prints e) = cause_of_value s e
cause_alone procs s (Turns e) = cause_of_value s e
cause_alone procs s (Chooses e) = cause_of_value s e
cause_alone procs s (Bounds e f) = cause_of_bounds s e f
cause_alone procs s (Sets x) = None
cause_alone procs s (Ranges e f) = cause_of_range procs s e f

-- why a processor of a set fails at a statement, if it does
abbrev pub cause_in : View → StepAction → Option Cause
cause_in s (AssignsOn x e) = cause_of_step s x e
cause_in s (TurnsOn e) = cause_of_value s e
cause_in s (ChoosesOn e) = cause_of_value s e

-- ---- statements of a set

-- kinds by numbers, to compare them
abbrev pub kind_number : Kind → ℕ
kind_number Overflow = 0
kind_number DivideByZero = 1
kind_number OutOfRange = 2
kind_number TooWide = 3
kind_number ReadConflict = 4
kind_number WriteConflict = 5

-- whether an attempt fails at this position in this way
abbrev pub has_failed : Key → Attempt Effect → Bool
has_failed k (Gives t g) = false
has_failed k (Fails t kind) = nat_eq (length t) k.at && nat_eq (kind_number kind) (kind_number k.kind)

-- whether this is the place of the processor of this index
abbrev pub is_at : Place → ℤ → Bool
is_at (Processor i) j = is_equal i j
is_at (Cell c) j = false
is_at All j = false

-- whether the fault is that of this part
abbrev pub is_own : Key → Part → Bool
is_own k x = is_at k.place x.processor && has_failed k x.attempt

-- what each member fails at, of the one whose fault it is
abbrev pub own_cause : (ℕ → Option Cause) → Key → List Part → Option Cause
own_cause f k [] = None
own_cause f k (x ∷ xs) = if is_own k x then f x.member else own_cause f k xs

-- the accesses that conflict at a cell
abbrev pub cause_at_cell : Kind → ℕ → List Part → Cause
cause_at_cell ReadConflict c xs = Meeting
cause_at_cell WriteConflict c xs = Writing (writes_to c xs)
cause_at_cell Overflow c xs = Writing (writes_to c xs)
cause_at_cell DivideByZero c xs = Writing (writes_to c xs)
cause_at_cell OutOfRange c xs = Writing (writes_to c xs)
cause_at_cell TooWide c xs = Writing (writes_to c xs)

abbrev pub cause_at : Checked → State → StepAction → Place → Key → List Part → Option Cause
cause_at p m act (Processor i) k xs = own_cause (λ v. cause_in (seen_by p m v) act) k xs
cause_at p m act (Cell c) k xs = Some (cause_at_cell k.kind c xs)
cause_at p m act All k xs = None

-- why a statement of a set with these parts has this fault
abbrev pub cause_on : Checked → State → StepAction → Key → List Part → Option Cause
cause_on p m act k xs = cause_at p m act k.place k xs
