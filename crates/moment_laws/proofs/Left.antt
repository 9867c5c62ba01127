-- What a statement that ran leaves.
use Rattle.std.proofs.Common.{ℕ, ℤ, List, [], ◌∷◌, Option, Some, None, append-nil, refl, sym}
use Rattle.std.proofs.lemmas.List.{length-set}
use Rattle.pram_check.specs.Checked.{Checked}
use Rattle.pram_names.specs.declared.body.StepTarget.{StepTarget}
use Rattle.pram_names.specs.declared.body.StepTarget.TheVariants as inner
use Rattle.pram_names.specs.declared.body.Target.{Target}
use Rattle.pram_names.specs.declared.body.Target.TheVariants as target
use Rattle.pram_meaning.specs.Attempt.{Effect}
use Rattle.pram_meaning.specs.Conflict.{Part}
use Rattle.pram_meaning.specs.Store.{State, printed, with_uniform}
use Rattle.pram_meaning.specs.Together.{after_write, assigned, assigned_by}
use Rattle.pram_meaning.proofs.Overwrites.{length_over}
use Rattle.moment_laws.specs.Following.{IsLeft}

pub nothing_left : (m : State) → IsLeft m m
nothing_left m = record { count = refl; uniforms = refl; cells = refl; printed = []; output = sym (append-nil m.output) }

pub printed_left : (v : ℤ) (m : State) → IsLeft m (printed v m)
printed_left v m = record { count = refl; uniforms = refl; cells = refl; printed = v ∷ []; output = refl }

pub uniform_left : (x : ℕ) (v : ℤ) (m : State) → IsLeft m (with_uniform x v m)
uniform_left x v m = record {
  count = refl;
  uniforms = length-set m.uniforms x v;
  cells = refl;
  printed = [];
  output = sym (append-nil m.output);
}

write_left : (cell : Option ℕ) (v : ℤ) (m : State) → IsLeft m (after_write cell v m)
write_left None v m = nothing_left m
write_left (Some c) v m = record {
  count = refl;
  uniforms = refl;
  cells = length-set m.cells c v;
  printed = [];
  output = sym (append-nil m.output);
}

pub assigned_left : (x : Target) (g : Effect) (m : State) → IsLeft m (assigned x g m)
assigned_left (target.Uniform x) g m = uniform_left x g.value m
assigned_left (target.Cell a) g m = write_left g.cell g.value m
assigned_left (target.Element a e) g m = write_left g.cell g.value m

overwritten_left : (p : Checked) (xs : List Part) (m : State) → IsLeft m (assigned_by p (inner.Cell 0) xs m)
overwritten_left p xs m = record {
  count = refl;
  uniforms = refl;
  cells = length_over p.rule xs 0 m.cells;
  printed = [];
  output = sym (append-nil m.output);
}

pub set_left : (p : Checked) (x : StepTarget) (xs : List Part) (m : State) → IsLeft m (assigned_by p x xs m)
set_left p (inner.Local x) xs m =
    record { count = refl; uniforms = refl; cells = refl; printed = []; output = sym (append-nil m.output) }
set_left p (inner.Cell a) xs m = overwritten_left p xs m
set_left p (inner.Element a e) xs m = overwritten_left p xs m
