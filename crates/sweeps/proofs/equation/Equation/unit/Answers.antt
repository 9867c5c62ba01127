use Rattle.sweeps.specs.Equations.{unit_entry}
use Rattle.sweeps.proofs.Entries.{seven_entries, seven_within}
use Rattle.sweeps.proofs.equation.Equation.unit.Goals as goal

pub returns-clause-entries : goal.returns-clause-entries
returns-clause-entries c =
    seven_entries c.one_at.result c.one_at-2.result c.one_at-3.result c.one_at-4.result c.one_at-5.result c.one_at-6.result
    c.one_at-7.result (unit_entry c.args.column) c.one_at.ensures.value c.one_at-2.ensures.value c.one_at-3.ensures.value
    c.one_at-4.ensures.value c.one_at-5.ensures.value c.one_at-6.ensures.value c.one_at-7.ensures.value

pub returns-clause-bounded : goal.returns-clause-bounded
returns-clause-bounded c =
    seven_within c.one_at.result c.one_at-2.result c.one_at-3.result c.one_at-4.result c.one_at-5.result c.one_at-6.result
    c.one_at-7.result 1 c.one_at.ensures.within c.one_at-2.ensures.within c.one_at-3.ensures.within c.one_at-4.ensures.within
    c.one_at-5.ensures.within c.one_at-6.ensures.within c.one_at-7.ensures.within
