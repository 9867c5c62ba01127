-- What the interpreter's functions answer, and what its values stand for.
use Rattle.std.specs.Prelude.{◌≡◌, Result, Ok, Err, ⊤}
use Rattle.write_rules.specs.declared.fault.Fault.{Fault}
use Rattle.pram_meaning.specs.declared.view as view
use Rattle.pram_meaning.specs.declared.attempt as rust
use Rattle.pram_meaning.specs.declared.attempt.Failure.{Failure}
use Rattle.pram_meaning.specs.declared.attempt.Failure.TheVariants as failure
use Rattle.pram_meaning.specs.declared.run.Halt.{Halt}
use Rattle.pram_meaning.specs.declared.run.Halt.TheVariants as halt
use Rattle.pram_meaning.specs.declared.run.Run.{Run}
use Rattle.pram_meaning.specs.Store.{State, View, no_team}
use Rattle.pram_meaning.specs.Attempt.{Attempt, Gives, Fails, Trail, Effect}
use Rattle.pram_meaning.specs.Bounded.{Behaviour, Goes, Stops, Reaches}

abbrev pub view_is : view.View.View → View
view_is s = record {
  layout = s.layout.now;
  uniforms = s.uniforms.now.items;
  cells = s.cells.now.items;
  index = s.index;
  locals =
      s.locals.now.items;
}

-- how an answer, and the trail behind it, tell of an attempt
abbrev pub IsAttempt : {A : Type 0} → Result A Failure → Trail → Attempt A → Type 0
IsAttempt (Ok v) t a = a ≡ Gives t v
IsAttempt (Err (failure.Fault k)) t a = a ≡ Fails t k
IsAttempt (Err failure.OutOfMemory) t a = ⊤

abbrev pub effect_is : rust.Effect.Effect → Effect
effect_is g = record { value = g.value; cell = g.cell }

-- the same of an attempt at an assignment
abbrev pub IsEffect : Result rust.Effect.Effect Failure → Trail → Attempt Effect → Type 0
IsEffect (Ok g) t a = a ≡ Gives t (effect_is g)
IsEffect (Err (failure.Fault k)) t a = a ≡ Fails t k
IsEffect (Err failure.OutOfMemory) t a = ⊤

-- the same of an attempt at bounds
abbrev pub IsPair : {A B : Type 0} → Result (A × B) Failure → Trail → Attempt (A × B) → Type 0
IsPair (Ok r) t a = a ≡ Gives t (r.0, r.1)
IsPair (Err (failure.Fault k)) t a = a ≡ Fails t k
IsPair (Err failure.OutOfMemory) t a = ⊤

-- a run outside pardo, as a state
abbrev pub state_of : Run → State
state_of r = record { count = r.count; output = r.output.items; uniforms = r.uniforms.items; cells = r.cells.items; team = no_team }

-- how an answer tells of one processor's value
abbrev pub IsValue : {A B : Type 0} → (A → B) → Result A Halt → Result B Fault → Type 0
IsValue f (Ok v) x = x ≡ Ok (f v)
IsValue f (Err (halt.Fault k)) x = x ≡ Err k
IsValue f (Err halt.Bound) x = ⊥
IsValue f (Err halt.OutOfMemory) x = ⊤

-- how an answer, and the state behind it, tell of a behaviour
abbrev pub IsBehaviour : {A : Type 0} → Result A Halt → State → Behaviour A → Type 0
IsBehaviour (Ok a) m b = b ≡ Goes a m
IsBehaviour (Err (halt.Fault k)) m b = b ≡ Stops k m.output
IsBehaviour (Err halt.Bound) m b = b ≡ Reaches m.output
IsBehaviour (Err halt.OutOfMemory) m b = ⊤
