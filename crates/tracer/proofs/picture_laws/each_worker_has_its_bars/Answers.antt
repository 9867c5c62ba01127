use Rattle.tracer.proofs.Standing.{number_stands, received_stands, sent_stands}
use Rattle.tracer.proofs.picture_laws.each_worker_has_its_bars.Goals as goal

pub returns-clause-sent : goal.returns-clause-sent
returns-clause-sent c = sent_stands

pub returns-clause-received : goal.returns-clause-received
returns-clause-received c = received_stands

pub returns-clause-number : goal.returns-clause-number
returns-clause-number c = number_stands
