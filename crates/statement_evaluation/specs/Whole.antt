-- Whole evaluation: a processor goes on after a fault, with 0 in place of the value, and all that is wrong is noted by position.
use Rattle.std.specs.Prelude.{ℕ, List, [], ◌∷◌, ◌++◌, Option, Some, None, ℤ, pos, slice_index_or}
use Rattle.pram_model.specs.Layout.{cell_of}
use Rattle.pram_values.specs.declared.kind.Kind.{Kind}
use Rattle.superstep_machine.specs.Results.{or_zero, kind_of, missing, range_width, or_empty}
use Rattle.pram_meaning.specs.Operation.{operate, operate_before}
use Rattle.pram_meaning.specs.Store.{View}
use Rattle.pram_meaning.specs.Attempt.{Attempt, Gives, Fails, Trail, next, Effect}
use Rattle.statement_evaluation.specs.Terms.{Term, Number, Uniform, Index, Local, Read, Before, Between, Task, Gets, Writes}

-- what happens at a position: what is noted, and which cell is read
pub record Step : Type 0 where
  pub note : Option Kind
  pub cell : Option ℕ

-- what happens at each position, the first one first, and the value at the end
pub record Whole (A : Type 0) : Type 0 where
  pub steps : List Step
  pub value : A

-- an operation, and any other test at a position
abbrev pub testing : Option Kind → Step
testing note = record { note = note; cell = None }

-- a read of a cell, if there is one
abbrev pub reading : Option ℕ → Step
reading cell = record { note = missing cell; cell = cell }

-- the value of a cell; where there is none, 0
abbrev pub fetched : View → Option ℕ → ℤ
fetched s None = pos 0
fetched s (Some c) = slice_index_or s.cells c (pos 0)

-- the value of a term, in which a fault gives 0
abbrev pub value : View → Term → ℤ
value s (Number n) = n
value s (Uniform x) = slice_index_or s.uniforms x (pos 0)
value s Index = s.index
value s (Local x) = slice_index_or s.locals x (pos 0)
value s (Read a t) = fetched s (cell_of s.layout a (value s t))
value s (Before o t) = or_zero (operate_before o (value s t))
value s (Between o t u) = or_zero (operate o (value s t) (value s u))

-- what happens in a term: operands from left to right, and behind them their operation or their read
abbrev pub steps : View → Term → List Step
steps s (Number n) = []
steps s (Uniform x) = []
steps s Index = []
steps s (Local x) = []
steps s (Read a t) = steps s t ++ reading (cell_of s.layout a (value s t)) ∷ []
steps s (Before o t) = steps s t ++ testing (kind_of (operate_before o (value s t))) ∷ []
steps s (Between o t u) = steps s t ++ (steps s u ++ testing (kind_of (operate o (value s t) (value s u))) ∷ [])

-- ---- what a processor does in a statement

abbrev pub whole : View → Task → Whole Effect
whole s (Gets t) = record { steps = steps s t; value = record { value = value s t; cell = None } }
whole s (Writes a t u) =
    let c = cell_of s.layout a (value s t) in
    record { steps = steps s t ++ (steps s u ++ testing (missing c) ∷ []); value = record { value = value s u; cell = c } }

-- the two bounds of a `for`
abbrev pub whole_bounds : View → Term → Term → Whole (ℤ × ℤ)
whole_bounds s t u = record { steps = steps s t ++ steps s u; value = (value s t, value s u) }

-- the first index of a pardo of at most `procs` processors, and how many there are
abbrev pub whole_range : ℕ → View → Term → Term → Whole (ℤ × ℕ)
whole_range procs s t u =
    let k = range_width procs (value s t) (value s u) in
    record { steps = steps s t ++ (steps s u ++ testing (kind_of k) ∷ []); value = (value s t, or_empty k) }

-- ---- cut off

-- a note ends an attempt at its position
abbrev pub unless_noted : {A : Type 0} → Option Kind → Trail → Attempt A → Attempt A
unless_noted None t rest = rest
unless_noted (Some k) t rest = Fails (next t) k

-- behind a trail: up to the first step that notes something, and where none does to the value
abbrev pub upto : {A : Type 0} → Trail → List Step → A → Attempt A
upto t [] x = Gives t x
upto t (s ∷ ss) x = unless_noted s.note t (upto (t ++ s.cell ∷ []) ss x)

-- a whole evaluation, cut off at the first thing noted
abbrev pub cut : {A : Type 0} → Whole A → Attempt A
cut w = upto [] w.steps w.value
