use Rattle.run_options.proofs.Printed.{named_back}
use Rattle.run_options.proofs.spelling_laws.printed_maps_are_named.Goals as goal

pub returns : goal.returns
returns c = named_back
