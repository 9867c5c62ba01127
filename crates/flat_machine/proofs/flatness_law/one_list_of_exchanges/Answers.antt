use Rattle.flat_machine.proofs.Laws as laws
use Rattle.flat_machine.proofs.OneWords.{exchanges_are_unique}
use Rattle.flat_machine.proofs.flatness_law.one_list_of_exchanges.Goals as goal

pub returns : goal.returns
returns c = record { same = laws.exchanges_are_one; unique = exchanges_are_unique; workers = laws.workers_make_listed }
