-- That the code of statements outside pardo follows their meaning.
use Rattle.std.specs.Prelude.{◌≡◌, ℕ, ◌+◌, ◌<◌, ◌≤◌, List, length, Bool}
use Rattle.pram_names.specs.declared.body.Statement.{Statement}
use Rattle.pram_check.specs.Checked.{Checked}
use Rattle.pram_check.specs.Bounded.{AreStatements, names_of}
use Rattle.pram_meaning.specs.Store.{State}
use Rattle.pram_meaning.specs.Bounded.{perform_list}
use Rattle.flat_machine.specs.Flat.{Flat}
use Rattle.flat_stretches.specs.Along.{Run}
use Rattle.flat_stretches.specs.Folds.{Stand}
use Rattle.flat_stretches.specs.Tells.{IsCalm}
use Rattle.plain_form.specs.Registers.{behind_variables}
use Rattle.plain_form.specs.Outside.{statements_code, statements_left}
use Rattle.exchange_bound.specs.Events.{list_events}
use Rattle.compiled_meaning.specs.Paid as paid
use Rattle.compiled_meaning.specs.Between.{IsRunOf}
use Rattle.compiled_meaning.specs.Follows.{Follows, HoldsBehind}
use Rattle.compiled_meaning.specs.Without.{IsWithout}

-- the run is behind a part of a program, with the uniform registers below the free ones as they were, but for the variables
pub record GoesWithout (p : Checked) (t : Run) (free : ℕ) (left : Bool) (place spent : ℕ) (f : Flat) (m : State) : Type 0 where
  pub behind : Flat
  pub without : IsWithout p t left m place spent behind
  pub registers : (r : ℕ) → behind_variables p.uniforms ≤ r → r < free → behind.uniform.registers r ≡ f.uniform.registers r

-- what a part of a program is run from: it stands there, faults behind it are told, its registers are free and its names can be named
pub record MayRunWithout (p : Checked) (t : Run) (keep : Bool) (free : ℕ) (held : Bool) (ss : List Statement) (m : State) (place spent : ℕ)
    (f : Flat) : Type 0 where
  pub of : IsRunOf p t
  pub free_ones : behind_variables p.uniforms ≤ free
  pub named : AreStatements (names_of p) ss
  pub stand : Stand t place (statements_code keep free place held ss)
  pub calm : IsCalm t.code (place + length (statements_code keep free place held ss))
  pub without : IsWithout p t held m place spent f

-- The statements of a list: the run follows them, by no more exchanges than their events have.
pub record FollowsStatements (p : Checked) (t : Run) (keep : Bool) (free : ℕ) (held : Bool) (ss : List Statement) (m : State)
    (place spent : ℕ) (f : Flat) : Type 0 where
  pub follows : Follows t spent held (list_events p t.bound ss m)
      (GoesWithout p t free (statements_left held ss) (place + length (statements_code keep free place held ss))
      (spent + paid.spent t (list_events p t.bound ss m) held) f) (perform_list p t.bound ss m)
  pub left : HoldsBehind held (list_events p t.bound ss m) (statements_left held ss) (perform_list p t.bound ss m)

-- so it is of every program, code and list of statements, from each state between two statements
abbrev pub StatementsAreFollowed : Type 0
StatementsAreFollowed = (p : Checked) (t : Run) (keep : Bool) (free : ℕ) (held : Bool) (ss : List Statement) (m : State) (place spent : ℕ)
    (f : Flat) → MayRunWithout p t keep free held ss m place spent f → FollowsStatements p t keep free held ss m place spent f
