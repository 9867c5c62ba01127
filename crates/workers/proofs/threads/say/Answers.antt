use Rattle.std.proofs.Common.{Some, refl, sym, subst}
use Rattle.workers.specs.Crews.{IsSaid}
use Rattle.workers.proofs.threads.say.Goals as goal

pub returns-else-go-clause-said : goal.returns-else-go-clause-said
returns-else-go-clause-said g c =
    subst (λ b. IsSaid b c.args.tasks.items c.say-else-go.new.self.said (Some c.args.tasks)) (sym c.if-go.false)
    (c.say-else-go.ensures.said, c.args.tasks, refl, refl)
