-- What a search for a loop that never ends answers of a part of a run.
use Rattle.std.specs.Prelude.{◌≡◌, ◌⊎◌, ◌≤◌, ◌+◌, ◌-◌, ℕ, ℤ, List, Option, Some, None, Result, Ok, Err}
use Rattle.pram_model.specs.Layout.{width}
use Rattle.pram_tokens.specs.declared.token.Location.{Location}
use Rattle.pram_check.specs.Checked.{Checked}
use Rattle.pram_names.specs.declared.body.Expression.{Expression}
use Rattle.pram_names.specs.declared.body.Statement.{Statement}
use Rattle.pram_meaning.specs.Attempt.{attempt_bounds}
use Rattle.pram_meaning.specs.Bounded.{perform_list, tested}
use Rattle.pram_meaning.specs.Meaning.{Does, Ends, Evaluated, ForTurns, Means, MeansList, Tested, Then, Turns}
use Rattle.pram_meaning.specs.Moments as moment
use Rattle.pram_meaning.specs.Moments.{Moment, for_moments, for_turns_moments, list_moments, moments, test_moment, turns_moments}
use Rattle.pram_meaning.specs.Store.{State, seen}
use Rattle.endless_runs.specs.Endless.{ComesBack, IsEndless}
use Rattle.endless_runs.specs.declared.cycle.Cycle.{Cycle}
use Rattle.endless_runs.specs.declared.kept.Kept.{Kept}
use Rattle.endless_runs.specs.declared.stop.Stop.{Stop}
use Rattle.endless_runs.specs.declared.stop.Stop.TheVariants as stop

-- ---- parts of a run

-- what a part of a run does, and its moments within each bound
pub record RunPart : Type 1 where
  pub means : Does
  pub told : ℕ → List Moment

-- a statement, from this state on
abbrev pub of_statement : Checked → Statement → State → RunPart
of_statement p s m = record { means = Means p s m; told = λ n. moments p n s m }

-- statements in order
abbrev pub of_list : Checked → List Statement → State → RunPart
of_list p ss m = record { means = MeansList p ss m; told = λ n. list_moments p n ss m }

-- the turns of a `while`
abbrev pub of_loop : Checked → (here : Location) → (test : Expression) → (body : List Statement) → State → RunPart
of_loop p here e body m = record {
  means = λ f. (k : ℕ) × Turns k (Tested p here.line e) (MeansList p body) m f;
  told = λ n. turns_moments (n + 1) (test_moment p n here (moment.Turns e) e) (tested p n here.line e) (list_moments p n body)
      (perform_list p n body) m;
}

-- the turns of a `for`, which sets its variable to each of these numbers
abbrev pub of_turns : Checked → (here : Location) → (next last : ℤ) → (variable : ℕ) → (body : List Statement) → State → RunPart
of_turns p here a z x body m = record {
  means = ForTurns (width a z) x a (MeansList p body) m;
  told = λ n. for_turns_moments n here (width a z) x a (list_moments p n body) (perform_list p n body) m;
}

-- a `for`: its bounds, and then its turns
abbrev pub of_for : Checked → (here : Location) → (low high : Expression) → (variable : ℕ) → (body : List Statement) → State → RunPart
of_for p here e f x body m = record {
  means = Then (ℤ × ℤ) (Unit {0}) (Evaluated here.line (λ m. attempt_bounds (seen p m) e f) m)
      (λ r. ForTurns (width r.0 r.1) x r.0 (MeansList p body));
  told = λ n. for_moments p n here x e f (list_moments p n body) (perform_list p n body) m;
}

-- ---- what is known of one

-- from some bound on its moments have a loop that comes back
abbrev pub HasShown : (ℕ → List Moment) → Cycle → Type 0
HasShown told c = (least : ℕ) × ((n : ℕ) → least ≤ n → ComesBack (told n) c)

-- it has come to its end in this state, or it never does since a loop comes back, or nothing is known
abbrev pub IsKnown : RunPart → State → Result (Unit {0}) Stop → Type 0
IsKnown part new (Ok u) = part.means (Ends tt new)
IsKnown part new (Err (stop.Cycle c)) = IsEndless part.means × HasShown part.told c
IsKnown part new (Err stop.Unknown) = Unit {0}

-- ---- what is kept

-- this state was kept
abbrev pub HasKept : Option Kept → State → Type 0
HasKept None m = ⊥
HasKept (Some k) m = (k.count ≡ m.count) × (k.uniforms.items ≡ m.uniforms) × (k.cells.items ≡ m.cells)

-- what is kept is still what it was, or of this state
abbrev pub IsStill : Option Kept → State → Option Kept → Type 0
IsStill old m new = (new ≡ old) ⊎ HasKept new m

-- the loop of this line is back in this state: what was kept has its uniform variables and cells, and fewer statements by these
abbrev pub IsBack : Option Kept → (line : ℕ) → State → Cycle → Type 0
IsBack None line m c = ⊥
IsBack (Some k) line m c =
    (k.uniforms.items ≡ m.uniforms) × (k.cells.items ≡ m.cells) × (c.line ≡ line) × (c.statements ≡ m.count - k.count)
