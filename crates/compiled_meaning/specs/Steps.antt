-- That the code of statements inside pardo follows their meaning.
use Rattle.std.specs.Prelude.{◌≡◌, ℕ, ◌+◌, ◌<◌, ◌≤◌, List, length, Bool}
use Rattle.pram_names.specs.declared.body.Step.{Step}
use Rattle.pram_check.specs.Checked.{Checked}
use Rattle.pram_check.specs.Bounded.{AreSteps, names_of, with_locals}
use Rattle.pram_meaning.specs.Store.{State}
use Rattle.pram_meaning.specs.Bounded.{perform_list_on}
use Rattle.flat_machine.specs.Flat.{Flat}
use Rattle.flat_stretches.specs.Along.{Run}
use Rattle.flat_stretches.specs.Folds.{Stand}
use Rattle.flat_stretches.specs.Tells.{IsCalm}
use Rattle.flat_stretches.specs.Frames as frames
use Rattle.flat_stretches.specs.Frames.{present}
use Rattle.plain_form.specs.Registers.{behind_variables, behind_locals}
use Rattle.plain_form.specs.Inside.{Frame, steps_code, steps_left}
use Rattle.exchange_bound.specs.Events.{steps_events}
use Rattle.compiled_meaning.specs.Paid as paid
use Rattle.compiled_meaning.specs.Between.{IsRunOf}
use Rattle.compiled_meaning.specs.Follows.{Follows, HoldsBehind}
use Rattle.compiled_meaning.specs.Within.{IsWithin}

-- The run is behind a part of a body, in the same frame, with the uniform registers below the one for votes as they were.
pub record GoesWithin (p : Checked) (t : Run) (locals base vote : ℕ) (fr : frames.Frame) (left : Bool) (place spent : ℕ) (f : Flat)
    (m : State) : Type 0 where
  pub behind : Flat
  pub within : IsWithin p t locals base fr left m place spent behind
  pub registers : (r : ℕ) → r < vote → behind.uniform.registers r ≡ f.uniform.registers r

-- what a part of a body is run from: it stands there, faults behind it are told, its registers are free and its names can be named
pub record MayRunWithin (p : Checked) (t : Run) (w : Frame) (locals base : ℕ) (fr : frames.Frame) (held : Bool) (ss : List Step) (m : State)
    (place spent : ℕ) (f : Flat) : Type 0 where
  pub of : IsRunOf p t
  pub free : behind_locals locals ≤ base
  pub vote : behind_variables p.uniforms ≤ w.vote
  pub named : AreSteps (with_locals locals (names_of p)) ss
  pub stand : Stand t place (steps_code w base place held ss)
  pub calm : IsCalm t.code (place + length (steps_code w base place held ss))
  pub within : IsWithin p t locals base fr held m place spent f

-- The statements of a body, on the processors of a frame: the run follows them, by no more exchanges than their events have.
pub record FollowsSteps (p : Checked) (t : Run) (w : Frame) (locals base : ℕ) (fr : frames.Frame) (held : Bool) (ss : List Step) (m : State)
    (place spent : ℕ) (f : Flat) : Type 0 where
  pub follows : Follows t spent held (steps_events p t.bound ss (present fr) m)
      (GoesWithin p t locals base w.vote fr (steps_left held ss) (place + length (steps_code w base place held ss))
      (spent + paid.spent t (steps_events p t.bound ss (present fr) m) held) f)
      (perform_list_on p t.bound ss (present fr) m)
  pub left : HoldsBehind held (steps_events p t.bound ss (present fr) m) (steps_left held ss) (perform_list_on p t.bound ss (present fr) m)

abbrev pub StepsAreFollowed : Type 0
StepsAreFollowed = (p : Checked) (t : Run) (w : Frame) (locals base : ℕ) (fr : frames.Frame) (held : Bool) (ss : List Step) (m : State)
    (place spent : ℕ) (f : Flat) → MayRunWithin p t w locals base fr held ss m place spent f →
    FollowsSteps p t w locals base fr held ss m place spent f
