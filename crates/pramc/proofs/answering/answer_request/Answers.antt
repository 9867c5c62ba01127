use Rattle.std.proofs.Common.{ap, rules, Ok}
use Rattle.pramc.specs.Left.{LaidOut}
use Rattle.pramc.proofs.Requests.{found_first}
use Rattle.pramc.proofs.answering.answer_request.Goals as goal

pub returns-in-Arrange : goal.returns-in-Arrange
returns-in-Arrange g c = record {
  left = LaidOut c.in-Arrange.arrange c.say_arranged.result (ap Ok c.in-Arrange.is) c.say_arranged.ensures;
}

pub answer_found-requires : goal.answer_found-requires
answer_found-requires g c = (search rules, (search rules, found_first c.args.request c.in_default.not-Arrange))
