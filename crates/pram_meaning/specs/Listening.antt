-- What a listener is lent of a moment, and what it has heard behind an answer.
use Rattle.std.specs.Prelude.{◌≡◌, Result, Ok, Err, List, ◌∷◌, ◌++◌, map, Some, None}
use Rattle.pram_tokens.specs.declared.token.Location.{Location}
use Rattle.pram_values.specs.declared.kind.Kind.{Kind}
use Rattle.pram_check.specs.Checked.{Checked}
use Rattle.pram_meaning.specs.declared.action as rust
use Rattle.pram_meaning.specs.declared.action.Action.TheVariants as action
use Rattle.pram_meaning.specs.declared.action.StepAction.TheVariants as step
use Rattle.pram_meaning.specs.declared.attempt as attempt
use Rattle.pram_meaning.specs.declared.key.Key.{Key}
use Rattle.pram_meaning.specs.declared.part as part
use Rattle.pram_meaning.specs.declared.run.Halt.{Halt}
use Rattle.pram_meaning.specs.declared.run.Halt.TheVariants as halt
use Rattle.pram_meaning.specs.declared.run.Run.{Run}
use Rattle.pram_meaning.specs.declared.team as team
use Rattle.pram_meaning.specs.Attempt.{Effect, Gives, Fails, Trail}
use Rattle.pram_meaning.specs.Conflict.{Part}
use Rattle.pram_meaning.specs.Judging.{part_is}
use Rattle.pram_meaning.specs.Runs.{effect_is, state_of}
use Rattle.pram_meaning.specs.Sets.{state_in}
use Rattle.pram_meaning.specs.Store.{State, printed, with_uniform}
use Rattle.pram_meaning.specs.Together.{assigned, assigned_by}
use Rattle.pram_meaning.specs.Moments.{Action, Assigns, Prints, Turns, Chooses, Bounds, Sets, Ranges, StepAction, AssignsOn, TurnsOn}
use Rattle.pram_meaning.specs.Moments.{ChoosesOn, Moment, Alone, Together}

abbrev pub action_is : rust.Action.Action → Action
action_is (action.Assigns target value) = Assigns target.now value.now
action_is (action.Prints value) = Prints value.now
action_is (action.Turns test) = Turns test.now
action_is (action.Chooses test) = Chooses test.now
action_is (action.Bounds low high) = Bounds low.now high.now
action_is (action.Sets variable) = Sets variable
action_is (action.Ranges low high) = Ranges low.now high.now

abbrev pub step_action_is : rust.StepAction.StepAction → StepAction
step_action_is (step.Assigns target value) = AssignsOn target.now value.now
step_action_is (step.Turns test) = TurnsOn test.now
step_action_is (step.Chooses test) = ChoosesOn test.now

-- the state behind a statement outside pardo that gives this
abbrev pub done_by : Action → Effect → State → State
done_by (Assigns x e) g m = assigned x g m
done_by (Prints e) g m = printed g.value m
done_by (Turns e) g m = m
done_by (Chooses e) g m = m
done_by (Bounds e f) g m = m
done_by (Sets x) g m = with_uniform x g.value m
done_by (Ranges e f) g m = m

-- the state behind one inside pardo with these parts
abbrev pub done_on : Checked → StepAction → List Part → State → State
done_on p (AssignsOn x e) xs m = assigned_by p x xs m
done_on p (TurnsOn e) xs m = m
done_on p (ChoosesOn e) xs m = m

-- ---- the moment that a listener is lent

-- a statement of the one processor that gives this
abbrev pub acted : Run → Location → rust.Action.Action → Trail → attempt.Effect.Effect → Moment
acted run here action trail effect =
    Alone here (action_is action) (state_of run) (Gives trail effect.cell) (done_by (action_is action) (effect_is effect) (state_of run))

-- one that faults
abbrev pub failed : Run → Location → rust.Action.Action → Trail → Kind → Moment
failed run here action trail kind = Alone here (action_is action) (state_of run) (Fails trail kind) (state_of run)

-- a statement of a set with these parts
abbrev pub acted_on : Checked → Run → List team.Member.Member → Location → rust.StepAction.StepAction → List part.Part.Part → Moment
acted_on p run team here action parts =
    Together here (step_action_is action) (state_in run team) (map part_is parts) None
    (done_on p (step_action_is action) (map part_is parts) (state_in run team))

-- one with this least fault
abbrev pub failed_on : Run → List team.Member.Member → Location → rust.StepAction.StepAction → List part.Part.Part → Key → Moment
failed_on run team here action parts key =
    Together here (step_action_is action) (state_in run team) (map part_is parts) (Some key) (state_in run team)

-- ---- what a listener has heard

-- a beginning of these moments: it has heard the first ones, or it has heard the first ones and given up at the next one
pub data HasHeardPart {S : Type 0} (Hears : S → List Moment → S → Type 0) (GivesUp : S → Moment → S → Type 0) (before : S)
    (all : List Moment) (behind : S) : Type 0 where
  HeardFirst : (first rest : List Moment) → all ≡ first ++ rest → Hears before first behind →
      HasHeardPart Hears GivesUp before all behind
  GaveUp : (first : List Moment) (next : Moment) (rest : List Moment) (between : S) → all ≡ first ++ next ∷ rest →
      Hears before first between → GivesUp between next behind → HasHeardPart Hears GivesUp before all behind

-- these moments, or where memory was refused a beginning of them
abbrev pub HasHeard : {A S : Type 0} → Result A Halt → (S → List Moment → S → Type 0) → (S → Moment → S → Type 0) → S → List Moment → S →
    Type 0
HasHeard (Ok a) Hears GivesUp before all behind = Hears before all behind
HasHeard (Err (halt.Fault k)) Hears GivesUp before all behind = Hears before all behind
HasHeard (Err halt.Bound) Hears GivesUp before all behind = Hears before all behind
HasHeard (Err halt.OutOfMemory) Hears GivesUp before all behind = HasHeardPart Hears GivesUp before all behind
