use Rattle.std.proofs.Common.{◌∙◌, refl, subst}
use Rattle.std.proofs.lemmas.Result.{on_err_weaker, on_ok_weaker}
use Rattle.pram_meaning.specs.Listening.{acted_on}
use Rattle.journal.proofs.HeardInTime.{gave_behind, gave_left, left_of, same_program, shown_then}
use Rattle.journal.proofs.Told.{anyway_refused}
use Rattle.journal.proofs.in_time.InTimeListener.acts_on.Goals as goal

pub returns-in_err-look-clause-refused : goal.returns-in_err-look-clause-refused
returns-in_err-look-clause-refused g c =
    anyway_refused c.from_residual.result _
    (λ none. c.in_err-look.ensures.left none (acted_on c.args.program.now c.args.run.now c.args.team.now.items c.args.location c.args.action.now c.args.parts.now) (refl, refl))

pub returns-clause-heard : goal.returns-clause-heard
returns-clause-heard g c =
    on_ok_weaker c.acts_on.result
    (λ h. (
      shown_then g.T.Teller.tells g.met.T.Teller.tells_on c.args.self.now.journal.program.now c.look.new.self.journal.program.now
          c.acts_on.new.self.program.now c.args.self.now.journal.teller c.look.new.self.journal.teller c.acts_on.new.self.teller
          (acted_on c.args.program.now c.args.run.now c.args.team.now.items c.args.location c.args.action.now c.args.parts.now)
          (same_program _ _ c.look.ensures.kept.0) c.in_ok-look.ensures.shown.0 h,
      c.look.ensures.kept.1,
      c.in_ok-look.ensures.shown.1,
    ))
    c.acts_on.ensures.heard

pub returns-clause-refused : goal.returns-clause-refused
returns-clause-refused g c =
    on_err_weaker c.acts_on.result
    (λ h none. gave_behind g.T.Teller.tells g.T.Teller.breaks_off g.met.T.Teller.tells_on c.args.self.now.journal.program.now
    c.args.self.now.until c.args.self.now.journal.teller c.look.new.self.journal.teller c.acts_on.new.self.teller
    (acted_on c.args.program.now c.args.run.now c.args.team.now.items c.args.location c.args.action.now c.args.parts.now)
    c.look.new.self.cut c.in_ok-look.ensures.shown.0
    (gave_left g.T.Teller.tells g.T.Teller.breaks_off c.args.self.now.journal.program.now c.args.self.now.until
    c.look.new.self.journal.teller c.acts_on.new.self.teller
    (acted_on c.args.program.now c.args.run.now c.args.team.now.items c.args.location c.args.action.now c.args.parts.now)
    c.look.new.self.cut (c.in_ok-look.ensures.shown.1 ∙ none)
    (left_of g.T.Teller.tells g.T.Teller.breaks_off _ c.args.self.now.journal.program.now _ _ _ (same_program _ _ c.look.ensures.kept.0) h)))
    c.acts_on.ensures.refused
