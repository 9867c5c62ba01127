-- What a program's state has behind its statements: values of 64 bits, and as many variables and cells as before.
use Rattle.std.proofs.Common.{ℕ, [], ◌∷◌, Option, Some, None, ℤ, ◌∙◌}
use Rattle.std.proofs.lemmas.List.{length-set}
use Rattle.pram_check.specs.Checked.{Checked}
use Rattle.pram_meaning.specs.Store.{State, seen, with_uniform, printed}
use Rattle.pram_meaning.specs.Together.{after_write}
use Rattle.pram_meaning.specs.Values.{HasValues, IsValue}
use Rattle.pram_meaning.proofs.SoundValues.{all_set, all_append, zero_is}
use Rattle.pram_meaning.proofs.ValuesOfAttempts.{SeesValues}
use Rattle.compiled_meaning.specs.Between.{HasSizes}
use Rattle.compiled_meaning.proofs.Inside.Attempted.{one_more}

pub sees_values : (p : Checked) (m : State) → HasValues m → SeesValues (seen p m)
sees_values p m h = record { uniforms = h.uniforms; cells = h.cells; index = zero_is; locals = tt }

-- ---- one statement more

pub next_values : (m : State) → HasValues m → HasValues (one_more m)
next_values m h = record { output = h.output; uniforms = h.uniforms; cells = h.cells; team = h.team }

pub next_sizes : (p : Checked) (m : State) → HasSizes p m → HasSizes p (one_more m)
next_sizes p m h = record { uniforms = h.uniforms; cells = h.cells }

-- ---- a value for a variable

pub variable_values : (x : ℕ) (v : ℤ) (m : State) → IsValue v → HasValues m → HasValues (with_uniform x v m)
variable_values x v m i h = record {
  output = h.output;
  uniforms = all_set IsValue m.uniforms x v h.uniforms i;
  cells = h.cells;
  team = h.team;
}

pub variable_sizes : (p : Checked) (x : ℕ) (v : ℤ) (m : State) → HasSizes p m → HasSizes p (with_uniform x v m)
variable_sizes p x v m h = record { uniforms = length-set m.uniforms x v ∙ h.uniforms; cells = h.cells }

-- ---- a print

pub print_values : (v : ℤ) (m : State) → IsValue v → HasValues m → HasValues (printed v m)
print_values v m i h = record {
  output = all_append IsValue m.output (v ∷ []) h.output (i, tt);
  uniforms = h.uniforms;
  cells = h.cells;
  team = h.team;
}

pub print_sizes : (p : Checked) (v : ℤ) (m : State) → HasSizes p m → HasSizes p (printed v m)
print_sizes p v m h = record { uniforms = h.uniforms; cells = h.cells }

-- ---- a write

pub write_values : (c : Option ℕ) (v : ℤ) (m : State) → IsValue v → HasValues m → HasValues (after_write c v m)
write_values None v m i h = h
write_values (Some c) v m i h = record {
  output = h.output;
  uniforms = h.uniforms;
  cells = all_set IsValue m.cells c v h.cells i;
  team = h.team;
}

pub write_sizes : (p : Checked) (c : Option ℕ) (v : ℤ) (m : State) → HasSizes p m → HasSizes p (after_write c v m)
write_sizes p None v m h = h
write_sizes p (Some c) v m h = record { uniforms = h.uniforms; cells = length-set m.cells c v ∙ h.cells }
