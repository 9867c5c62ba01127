use Rattle.flat_machine.proofs.Laws as laws
use Rattle.flat_machine.proofs.flatness_law.workers_are_flat.Goals as goal

pub returns : goal.returns
returns c = record { outcomes = laws.outcomes_are_same; purposes = laws.purposes_are_same; flat = laws.workers_are_flat }
