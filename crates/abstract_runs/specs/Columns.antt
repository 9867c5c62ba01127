-- What the rows of a set of processors read and write beside one another.
use Rattle.std.specs.Prelude.{◌≡◌, ◌≤◌, ◌<◌, ◌+◌, Bool, true, ℕ, List, [], ◌∷◌, map, Option, Some, None, IfSome, Err, ℤ, pos, ◌+ℤ◌, length}
use Rattle.std.specs.Prelude.{slice_index_or}
use Rattle.std.specs.Int.{int_min, int_max}
use Rattle.pram_model.specs.declared.rule.Rule.{Rule}
use Rattle.pram_model.specs.declared.rule.Rule.TheVariants.{Erew, Crew, Common, Priority, Sum}
use Rattle.pram_values.specs.declared.kind.Kind.TheVariants.{Overflow, WriteConflict}
use Rattle.pram_values.specs.declared.kind.Kind.{Kind}
use Rattle.pram_values.specs.Value.{fits}
use Rattle.write_rules.specs.Rule.{written}
use Rattle.pram_meaning.specs.Conflict.{Part, writes_to}
use Rattle.intervals.specs.declared.interval.Interval.{Interval}
use Rattle.abstract_runs.specs.Alike.{AreAlike}
use Rattle.abstract_runs.specs.Apart.{AreApart}
use Rattle.abstract_runs.specs.declared.effect.Effect.{Effect}
use Rattle.abstract_runs.specs.declared.findings.Findings.{Findings}
use Rattle.abstract_runs.specs.declared.reach.Reach.{Reach}
use Rattle.abstract_runs.specs.declared.row.Row.{Row}
use Rattle.abstract_runs.specs.Rows.{ArePartsBy}

-- what each row may read at the position behind k others
abbrev pub column : ℕ → List Row → List (Option Reach)
column k = map (λ row. slice_index_or row.trail.items k None)

-- at each position before that one, or at all where there is none, no two rows read one cell
abbrev pub AreApartBefore : Option ℕ → List Row → Type 0
AreApartBefore None rows = (k : ℕ) → AreApart (column k rows)
AreApartBefore (Some position) rows = (k : ℕ) → k + 1 < position → AreApart (column k rows)

-- where it gives something, that is at this position or behind it
abbrev pub GivesBehind : ℕ → Row → Type 0
GivesBehind at row = IfSome row.effect (λ e. at ≤ length row.trail.items)

-- where an attempt may write
abbrev pub reach_in : Option Effect → Option Reach
reach_in None = None
reach_in (Some e) = e.reach

-- where each row may write
abbrev pub targets : List Row → List (Option Reach)
targets = map (λ row. reach_in row.effect)

-- values, if they may go somewhere
abbrev pub where_reached : Interval → Option Reach → Option Interval
where_reached i None = None
where_reached i (Some reach) = Some i

-- the values that an attempt may write
abbrev pub value_in : Option Effect → Option Interval
value_in None = None
value_in (Some e) = where_reached e.value e.reach

-- the least of 0 and those values
abbrev pub low_of : Option Interval → ℤ
low_of None = pos 0
low_of (Some i) = int_min i.least (pos 0)

-- the greatest of 0 and those values
abbrev pub high_of : Option Interval → ℤ
high_of None = pos 0
high_of (Some i) = int_max i.greatest (pos 0)

-- the sum of the least over all rows
abbrev pub low_sum : List Row → ℤ
low_sum [] = pos 0
low_sum (row ∷ rows) = low_of (value_in row.effect) +ℤ low_sum rows

-- and of the greatest
abbrev pub high_sum : List Row → ℤ
high_sum [] = pos 0
high_sum (row ∷ rows) = high_of (value_in row.effect) +ℤ high_sum rows

-- the values have 64 bits
abbrev pub AreWords : Option Interval → Type 0
AreWords None = Unit {0}
AreWords (Some i) = (fits i.least ≡ true) × (fits i.greatest ≡ true)

-- the values that a row writes do
abbrev pub HasWords : Row → Type 0
HasWords row = AreWords (value_in row.effect)

-- there is no value but this
abbrev pub IsOnly : ℤ → Option Interval → Type 0
IsOnly x None = Unit {0}
IsOnly x (Some i) = (i.least ≡ x) × (i.greatest ≡ x)

-- the row writes no other
abbrev pub WritesOnly : ℤ → Row → Type 0
WritesOnly x row = IsOnly x (value_in row.effect)

-- whatever the processors write, all one value where they are alike, the rule has nothing against the writers of a cell
abbrev pub NeverClash : Rule → Bool → List Row → Type 0
NeverClash rule alike rows = (before : Findings) (xs : List Part) (c : ℕ) (kind : Kind) → ArePartsBy before rows xs →
    (alike ≡ true → AreAlike xs) → written rule (pos 0) (writes_to c xs) ≡ Err kind → ⊥

-- the kind of the faults of a rule that has any
abbrev pub kind_under : Rule → Kind
kind_under Erew = WriteConflict
kind_under Crew = WriteConflict
kind_under Common = WriteConflict
kind_under Priority = WriteConflict
kind_under Sum = Overflow
