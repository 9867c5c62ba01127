use Rattle.run_options.proofs.Printed.{read_back}
use Rattle.run_options.proofs.spelling_laws.printed_numbers_are_read.Goals as goal

pub returns : goal.returns
returns c = read_back
