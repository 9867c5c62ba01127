-- The statement that runs, as evaluation names it.
use Rattle.flat_machine.specs.Flat.{Flat}
use Rattle.statement_evaluation.specs.Noted.{Heading}

-- how many statements have begun, and the line of the last
abbrev pub heading_of : Flat → Heading
heading_of f = record { count = f.uniform.count; line = f.uniform.line }
