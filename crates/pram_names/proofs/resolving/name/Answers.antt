use Rattle.pram_names.proofs.Names.{says_uniform, says_index, says_local, says_cell}
use Rattle.pram_names.proofs.resolving.name.Goals as goal

pub returns-in-Some-Uniform-clause-is : goal.returns-in-Some-Uniform-clause-is
returns-in-Some-Uniform-clause-is c = says_uniform _ _ _ _ c.as_slice.ensures _ _ c.in-Some-Uniform.ensures c.in-Some-Uniform.field-0-is

pub returns-in-Some-Index-clause-is : goal.returns-in-Some-Index-clause-is
returns-in-Some-Index-clause-is c = says_index _ _ _ _ c.as_slice.ensures _ c.in-Some-Index.ensures c.in-Some-Index.field-0-is

pub returns-in-Some-Local-clause-is : goal.returns-in-Some-Local-clause-is
returns-in-Some-Local-clause-is c = says_local _ _ _ _ c.as_slice.ensures _ _ c.in-Some-Local.ensures c.in-Some-Local.field-0-is

pub returns-in_ok-count_read-in-Some-Cell-clause-is :
    goal.returns-in_ok-count_read-in-Some-Cell-clause-is
returns-in_ok-count_read-in-Some-Cell-clause-is c =
    let counted = c.in_ok-count_read-in-Some-Cell.ensures.count in
    says_cell _ _ _ _ c.as_slice.ensures _ _ _ c.in-Some-Cell.ensures c.in-Some-Cell.field-0-is counted.0 counted.1
