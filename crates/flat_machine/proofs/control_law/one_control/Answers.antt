use Rattle.flat_machine.proofs.Laws as laws
use Rattle.flat_machine.proofs.control_law.one_control.Goals as goal

pub returns : goal.returns
returns c = record { between = laws.one_control_between; exchange = laws.one_exchange; after = laws.one_control_after }
