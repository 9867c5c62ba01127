use Rattle.std.proofs.Common.{refl, sym}
use Rattle.pram_names.specs.declared.scope.Meaning.TheVariants as meaning
use Rattle.pram_names.proofs.Names.{stands}
use Rattle.pram_names.proofs.targets.variable.Goals as goal

pub returns-else-is_loop : goal.returns-else-is_loop
returns-else-is_loop c =
    let found = stands c.args.scope.now 0 c.args.x.now _ c.as_slice.ensures {m =
    meaning.Uniform c.in-Some-Uniform.k} c.in-Some-Uniform.ensures c.in-Some-Uniform.field-0-is in
    (rw found (rw (sym c.if-is_loop.ensures) refl), found)
