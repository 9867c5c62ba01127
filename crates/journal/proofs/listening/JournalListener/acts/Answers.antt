use Rattle.std.proofs.Common.{[], ◌∷◌, ap, refl}
use Rattle.std.proofs.lemmas.Result.{on_err_weaker, on_ok_weaker}
use Rattle.pram_meaning.specs.Listening.{acted}
use Rattle.journal.specs.Entries.{Entry, entry_is}
use Rattle.journal.specs.HeardLaws.{Unmade}
use Rattle.journal.proofs.Told.{anyway_refused, broken_at, heard_told}
use Rattle.journal.proofs.listening.JournalListener.acts.Goals as goal

pub returns-then-passes-clause-heard : goal.returns-then-passes-clause-heard
returns-then-passes-clause-heard g c = (refl, c.passes.ensures.passed c.if-passes.true _)

-- memory was refused for the entry
pub returns-in_err-entry-clause-refused : goal.returns-in_err-entry-clause-refused
returns-in_err-entry-clause-refused g c =
    anyway_refused c.from_residual.result _ (Unmade (c.passes.ensures.waits c.if-passes.false))

pub returns-clause-heard : goal.returns-clause-heard
returns-clause-heard g c =
    on_ok_weaker c.tell.result
    (λ h. heard_told g.T.Teller.tells g.met.T.Teller.tells_on c.args.self.now.program.now c.args.self.now.teller c.passes.new.self
    c.tell.new.self (acted c.args.run.now c.args.location c.args.action.now c.args.trail.now c.args.effect.now)
    (entry_is c.in_ok-entry.entry) (ap (λ (x : Entry). x ∷ []) c.in_ok-entry.ensures) (c.passes.ensures.waits c.if-passes.false) h)
    c.tell.ensures.told

pub returns-clause-refused : goal.returns-clause-refused
returns-clause-refused g c =
    on_err_weaker c.tell.result
    (λ h. broken_at g.T.Teller.tells g.T.Teller.breaks_off c.args.self.now.program.now c.args.self.now.teller c.passes.new.self
    c.tell.new.self (acted c.args.run.now c.args.location c.args.action.now c.args.trail.now c.args.effect.now)
    (entry_is c.in_ok-entry.entry) (ap (λ (x : Entry). x ∷ []) c.in_ok-entry.ensures) (c.passes.ensures.waits c.if-passes.false) h)
    c.tell.ensures.broken
