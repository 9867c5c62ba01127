use Rattle.std.proofs.Common.{refl, sym}
use Rattle.pram_names.specs.declared.scope.Meaning.TheVariants as meaning
use Rattle.pram_names.specs.Resolved as says
use Rattle.pram_names.proofs.Names.{stands}
use Rattle.pram_names.proofs.targets.target.Goals as goal

pub returns-in-Some-Cell : goal.returns-in-Some-Cell
returns-in-Some-Cell c =
    let found = stands c.args.scope.now 0 c.args.x.now _ c.as_slice.ensures {m = meaning.Cell c.in-Some-Cell.k} c.in-Some-Cell.ensures
    c.in-Some-Cell.field-0-is in
    (rw found refl, says.cell c.in-Some-Cell.k found)

pub returns-else-is_loop : goal.returns-else-is_loop
returns-else-is_loop c =
    let found = stands c.args.scope.now 0 c.args.x.now _ c.as_slice.ensures {m =
    meaning.Uniform c.in-Some-Uniform.k} c.in-Some-Uniform.ensures c.in-Some-Uniform.field-0-is in
    (rw found (rw (sym c.if-is_loop.ensures) refl), says.uniform c.in-Some-Uniform.k found)
