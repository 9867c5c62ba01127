use Rattle.std.proofs.Common.{refl, subst, sym, Result}
use Rattle.program_texts.specs.declared.stop.Stop.{Stop}
use Rattle.command_requests.specs.declared.request.Request.{Request}
use Rattle.pramc.specs.Calls.{IsStop}
use Rattle.pramc.specs.Left.{Stopped}
use Rattle.pramc.proofs.answering.answer.Goals as goal

pub returns-in-Err : goal.returns-in-Err
returns-in-Err g c = record {
  left = Stopped c.from.result
      (subst (λ (a : Result Request Stop). IsStop (g.S.Sources.holds c.args.sources.now) a c.from.result) (sym c.in-Err.is)
      c.from.ensures) refl
      c.refuse.ensures.said;
}
