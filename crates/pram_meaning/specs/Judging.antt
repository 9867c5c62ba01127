-- What the interpreter keeps of a statement on a set.
use Rattle.std.specs.Prelude.{Result, Ok, Err, ℕ, ℤ, List, slice_set}
use Rattle.pram_values.specs.Value.{Value}
use Rattle.pram_values.specs.declared.kind.Kind.{Kind}
use Rattle.pram_meaning.specs.declared.attempt as rust
use Rattle.pram_meaning.specs.declared.part as part
use Rattle.pram_meaning.specs.Attempt.{Trail, Attempt, Gives, Fails, Effect}
use Rattle.pram_meaning.specs.Conflict.{Part}
use Rattle.pram_meaning.specs.Runs.{effect_is}

abbrev pub attempt_is : Trail → Result rust.Effect.Effect Kind → Attempt Effect
attempt_is t (Ok g) = Gives t (effect_is g)
attempt_is t (Err k) = Fails t k

abbrev pub part_is : part.Part.Part → Part
part_is x = record { member = x.member; processor = x.processor; attempt = attempt_is x.trail.items x.outcome }

-- a cell gets the value, if there is one
abbrev pub with_value : ℕ → Value → List ℤ → List ℤ
with_value c (Ok v) cells = slice_set cells c v
with_value c (Err k) cells = cells
