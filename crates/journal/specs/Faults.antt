-- That what is told as the cause of a fault is one: by itself it comes to a fault of that kind.
use Rattle.std.specs.Prelude.{◌≡◌, ◌<◌, Result, Ok, Err, ℕ, List, [], false, Option, Some, None, ℤ, pos}
use Rattle.pram_model.specs.Layout.{cell_of, width}
use Rattle.pram_values.specs.declared.kind.Kind.{Kind}
use Rattle.pram_values.specs.declared.kind.Kind.TheVariants.{OutOfRange, ReadConflict, TooWide}
use Rattle.pram_check.specs.Checked.{Checked}
use Rattle.pram_names.specs.declared.body.Expression.{Expression}
use Rattle.pram_meaning.specs.declared.key.Key.{Key}
use Rattle.pram_meaning.specs.Attempt.{Attempt, Effect, Fails, Gives, Trail, attempt, attempt_assign, attempt_bounds, attempt_range}
use Rattle.pram_meaning.specs.Attempt.{attempt_step, attempt_value}
use Rattle.pram_meaning.specs.Conflict.{keys, least}
use Rattle.pram_meaning.specs.Moments.{Action, Assigns, AssignsOn, Bounds, Chooses, ChoosesOn, Prints, Ranges, Sets, StepAction, Turns}
use Rattle.pram_meaning.specs.Moments.{TurnsOn, goes_to, nowhere, writing}
use Rattle.pram_meaning.specs.Operation.{operate, operate_before}
use Rattle.pram_meaning.specs.Store.{State, View}
use Rattle.pram_meaning.specs.Together.{parts}
use Rattle.write_rules.specs.Rule.{shares_reads, written}
use Rattle.journal.specs.Causes.{Before, Between, Beyond, Cause, Meeting, Wide, Writing}
use Rattle.journal.specs.FoundCauses.{cause_alone, cause_on, value_or_cause}

-- In a program this cause comes to a fault of this kind: the operation does on its operands, the declaration has no such cell, the pardo
-- has more indices than there may be processors, the rule lets no two read a cell, or has this against the writes.
abbrev pub HasFault : Checked → Kind → Cause → Type 0
HasFault p k (Between x o y) = operate o x y ≡ Err k
HasFault p k (Before o x) = operate_before o x ≡ Err k
HasFault p k (Beyond a z) = (k ≡ OutOfRange) × (cell_of p.layout a z ≡ None)
HasFault p k (Wide a b procs) = (k ≡ TooWide) × (procs ≡ p.procs) × (p.procs < width a b)
HasFault p k Meeting = (k ≡ ReadConflict) × (shares_reads p.rule ≡ false)
HasFault p k (Writing ws) = written p.rule (pos 0) ws ≡ Err k

-- a cause is known, and it has this fault
abbrev pub IsExplained : Checked → Kind → Option Cause → Type 0
IsExplained p k None = ⊥
IsExplained p k (Some c) = HasFault p k c

-- what is told beside an attempt: no cause where it gives a value, and where it fails one of that kind
abbrev pub Explains : {A : Type 0} → Checked → Attempt A → Option Cause → Type 0
Explains p (Gives t a) o = o ≡ None
Explains p (Fails t k) o = IsExplained p k o

-- the same of an expression's value
abbrev pub IsBlamed : Checked → Kind → Result ℤ Cause → Type 0
IsBlamed p k (Ok v) = ⊥
IsBlamed p k (Err c) = HasFault p k c

abbrev pub Answers : Checked → Attempt ℤ → Result ℤ Cause → Type 0
Answers p (Gives t v) r = r ≡ Ok v
Answers p (Fails t k) r = IsBlamed p k r

-- a processor sees the cells that the program declares
abbrev pub Sees : Checked → View → Type 0
Sees p s = s.layout ≡ p.layout

-- The value of an expression is that of its attempt, and where this fails what is told has the fault.
abbrev pub ValuesAgree : Type 0
ValuesAgree = (p : Checked) (s : View) (e : Expression) (t : Trail) → Sees p s → Answers p (attempt s e t) (value_or_cause s e)

-- the attempt at what a statement outside pardo does, with the cell that it writes
abbrev pub attempted : Checked → View → Action → Attempt (Option ℕ)
attempted p s (Assigns x e) = writing goes_to (attempt_assign s x e)
attempted p s (Prints e) = writing nowhere (attempt s e [])
attempted p s (Turns e) = writing nowhere (attempt s e [])
attempted p s (Chooses e) = writing nowhere (attempt s e [])
attempted p s (Bounds e f) = writing nowhere (attempt_bounds s e f)
attempted p s (Sets x) = Gives [] None
attempted p s (Ranges e f) = writing nowhere (attempt_range p.procs s e f)

-- Where the attempt fails there is a cause that has its fault, and else none.
abbrev pub AloneExplained : Type 0
AloneExplained = (p : Checked) (s : View) (act : Action) → Sees p s → Explains p (attempted p s act) (cause_alone p.procs s act)

-- the attempt of a processor of a set
abbrev pub attempted_on : StepAction → View → Attempt Effect
attempted_on (AssignsOn x e) s = attempt_step s x e
attempted_on (TurnsOn e) s = attempt_value s e
attempted_on (ChoosesOn e) s = attempt_value s e

-- Of a set's statement with a fault there is a cause that has it.
abbrev pub SetExplained : Type 0
SetExplained =
    (p : Checked) (m : State) (act : StepAction) (vs : List ℕ) (k : Key) → least (keys p.rule (parts p m (attempted_on act) vs)) ≡ Some k →
    IsExplained p k.kind (cause_on p m act k (parts p m (attempted_on act) vs))
