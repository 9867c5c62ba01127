-- The processors of a statement, each with its whole evaluation.
use Rattle.std.specs.Prelude.{◌≢◌, ℕ, List, [], ◌∷◌, map, ℤ}
use Rattle.std.specs.List.{AllByRecursion}
use Rattle.pram_check.specs.Checked.{Checked}
use Rattle.pram_meaning.specs.Store.{State, member_of, seen_by}
use Rattle.pram_meaning.specs.Attempt.{Trail, Effect}
use Rattle.pram_meaning.specs.Conflict.{Part}
use Rattle.pram_meaning.specs.Together.{parts}
use Rattle.statement_evaluation.specs.Terms.{Task}
use Rattle.statement_evaluation.specs.Whole.{Step, Whole, whole, cut}

-- a processor's index, and its whole evaluation
pub record Row : Type 0 where
  pub processor : ℤ
  pub whole : Whole Effect

abbrev pub row_of : Checked → State → Task → ℕ → Row
row_of p m task v = record { processor = (member_of m.team v).index; whole = whole (seen_by p m v) task }

-- those of the members vs
abbrev pub rows : Checked → State → Task → List ℕ → List Row
rows p m task = map (row_of p m task)

-- their parts in the meaning: each up to the first thing that it notes
abbrev pub cut_parts : Checked → State → Task → List ℕ → List Part
cut_parts p m task = parts p m (λ s. cut (whole s task))

-- by position the cells that a processor reads, if it goes on
abbrev pub trail : List Step → Trail
trail = map (λ s. s.cell)

-- no two have one index
abbrev pub AreApart : List Row → Type 0
AreApart [] = Unit {0}
AreApart (x ∷ xs) = AllByRecursion (λ y. x.processor ≢ y.processor) xs × AreApart xs
