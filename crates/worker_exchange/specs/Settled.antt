-- What a module does with the messages of a send.
use Rattle.std.specs.Prelude.{◌≡◌, ℕ, List, Option, Some, None, ℤ}
use Rattle.pram_values.specs.declared.kind.Kind.{Kind}
use Rattle.superstep_machine.specs.declared.key.Key.{Key}
use Rattle.superstep_machine.specs.Setting.{Setting}
use Rattle.superstep_machine.specs.Parts.{Moment, UniformPart}
use Rattle.superstep_machine.specs.Words.{Message}
use Rattle.superstep_machine.specs.Worker.{Worker}
use Rattle.superstep_machine.specs.Sending.{conflicts, after_send}
use Rattle.combining.specs.ModuleLaws.{key_of_conflict}

-- the key of a conflict of puts, at the moment of the put that is held
abbrev pub key_of_put : Option Moment → Option (ℕ × Kind) → Option Key
key_of_put None found = None
key_of_put (Some at) found = key_of_conflict at found

-- The cells of module w are as after the send, and the key is the least that it notes.
pub record IsSettled (t : Setting) (w : ℕ) (u : UniformPart) (column : List Message) (old new : List ℤ) (noted : Option Key) : Type 0 where
  pub cells : (y : Worker) → y.cells ≡ old → (after_send t w y column).cells ≡ new
  pub key : conflicts t w u column ≡ noted
