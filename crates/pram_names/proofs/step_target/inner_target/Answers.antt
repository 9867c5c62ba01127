use Rattle.std.proofs.Common.{refl}
use Rattle.pram_names.specs.declared.scope.Meaning.TheVariants as meaning
use Rattle.pram_names.specs.Resolved as says
use Rattle.pram_names.proofs.Names.{stands}
use Rattle.pram_names.proofs.step_target.inner_target.Goals as goal

pub returns-in-Some-Cell : goal.returns-in-Some-Cell
returns-in-Some-Cell c =
    let found = stands c.args.scope.now 0 c.args.x.now _ c.as_slice.ensures {m = meaning.Cell c.in-Some-Cell.k} c.in-Some-Cell.ensures
    c.in-Some-Cell.field-0-is in
    (rw found refl, says.cell c.in-Some-Cell.k found)

pub returns-in-Some-Local : goal.returns-in-Some-Local
returns-in-Some-Local c =
    let found = stands c.args.scope.now 0 c.args.x.now _ c.as_slice.ensures {m = meaning.Local c.in-Some-Local.k} c.in-Some-Local.ensures
    c.in-Some-Local.field-0-is in
    (rw found refl, says.local c.in-Some-Local.k found)
