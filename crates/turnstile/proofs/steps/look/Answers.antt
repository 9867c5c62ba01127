use Rattle.std.proofs.Common.{ℕ, ◌≤◌, subst}
use Rattle.turnstile.proofs.Moves.{looks}
use Rattle.turnstile.proofs.steps.look.Goals as goal

pub load-requires : goal.load-requires
load-requires c = (c.requires.seat.0, c.requires.unseen.1, looks _ _ _ _ _ _ c.requires.seat.1 c.requires.unseen.0 c.requires.unseen.2)

pub returns-clause-found : goal.returns-clause-found
returns-clause-found c = λ h. c.load.ensures.2.1 (subst (λ (z : ℕ). z ≤ c.load.result) c.requires.seat.2 h)
