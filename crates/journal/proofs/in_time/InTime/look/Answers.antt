use Rattle.std.proofs.Common.{◌∙◌}
use Rattle.journal.proofs.HeardInTime.{broken_at_it, gave_left}
use Rattle.journal.proofs.Told.{anyway_refused}
use Rattle.journal.proofs.in_time.InTime.look.Goals as goal

-- what was told couldn't be shown
pub returns-in_err-show-clause-left : goal.returns-in_err-show-clause-left
returns-in_err-show-clause-left g c =
    anyway_refused c.from_residual.result _
    (λ none m begun. gave_left g.T.Teller.tells g.T.Teller.breaks_off _ _ _ _ m _ (c.show.ensures.kept.2 ∙ none)
    (broken_at_it g.T.Teller.tells g.T.Teller.breaks_off g.met.T.Teller.tells_nothing _ _ _ m _ _ begun c.in_err-show.ensures.broken))
