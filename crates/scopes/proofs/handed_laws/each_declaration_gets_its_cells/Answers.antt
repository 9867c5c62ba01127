use Rattle.scopes.proofs.Lasting.{as_many}
use Rattle.scopes.proofs.Lent.{left_handed, opening_handed, so_many_handed, zeros_handed}
use Rattle.scopes.proofs.handed_laws.each_declaration_gets_its_cells.Goals as goal

pub returns-clause-left : goal.returns-clause-left
returns-clause-left c = λ p q n input output left e from to bounded le ends at asked.
    left_handed p q input left e from to bounded.layout.different le (as_many p input n output left ends le) at asked

pub returns-clause-before : goal.returns-clause-before
returns-clause-before c = λ p q n input output left e from to bounded le ends new at asked.
    opening_handed p q input left e from to bounded.layout.different le (as_many p input n output left ends le) new at asked

pub returns-clause-zeros : goal.returns-clause-zeros
returns-clause-zeros c = λ p q n input output left e to le ends new asked.
    zeros_handed p q input left e to le (as_many p input n output left ends le) new asked

pub returns-clause-count : goal.returns-clause-count
returns-clause-count c = λ p q n input output left le ends. so_many_handed p q input left le (as_many p input n output left ends le)
