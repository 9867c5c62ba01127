use Rattle.std.proofs.Common.{◌∙◌, rules}
use Rattle.std.specs.Int.{w128}
use Rattle.std.proofs.lemmas.Int.{to_z-of_z}
use Rattle.sweeps.specs.Equations.{vector}
use Rattle.sweeps.proofs.Entries.{seven_entries, seven_within}
use Rattle.sweeps.proofs.equation.Equation.of_formula.Goals as goal

pub returns-clause-entries : goal.returns-clause-entries
returns-clause-entries c =
    seven_entries c.of_signed.result c.of_signed-2.result c.of_signed-3.result c.of_signed-4.result c.of_signed-5.result
    c.of_signed-6.result c.of_signed-7.result (vector c.args.formula.now)
    (c.of_signed.ensures.value ∙ to_z-of_z w128 c.args.formula.now.constant (search rules))
    (c.of_signed-2.ensures.value ∙ to_z-of_z w128 c.args.formula.now.logarithm (search rules))
    (c.of_signed-3.ensures.value ∙ to_z-of_z w128 c.args.formula.now.linear (search rules))
    (c.of_signed-4.ensures.value ∙ to_z-of_z w128 c.args.formula.now.linearithmic (search rules))
    (c.of_signed-5.ensures.value ∙ to_z-of_z w128 c.args.formula.now.square (search rules))
    (c.of_signed-6.ensures.value ∙ to_z-of_z w128 c.args.formula.now.cube (search rules)) c.of_signed-7.ensures.value

pub returns-clause-within : goal.returns-clause-within
returns-clause-within c =
    seven_within c.of_signed.result c.of_signed-2.result c.of_signed-3.result c.of_signed-4.result c.of_signed-5.result c.of_signed-6.result
    c.of_signed-7.result 128 c.of_signed.ensures.within c.of_signed-2.ensures.within c.of_signed-3.ensures.within
    c.of_signed-4.ensures.within c.of_signed-5.ensures.within c.of_signed-6.ensures.within c.of_signed-7.ensures.within
