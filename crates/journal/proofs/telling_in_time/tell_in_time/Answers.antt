use Rattle.std.proofs.Common.{◌∙◌, refl, sym}
use Rattle.journal.specs.declared.in_time.InTime.{InTime}
use Rattle.journal.specs.RunEntries.{run_entries}
use Rattle.journal.proofs.Complete.{none_told}
use Rattle.journal.proofs.HeardInTime.{answered, ends_up_to, entries_up_to, outcome_up_to, part_in_time, refused_by, started, told_up_to}
use Rattle.journal.proofs.telling_in_time.tell_in_time.Goals as goal

pub returns-in_default-new-clause-part : goal.returns-in_default-new-clause-part
returns-in_default-new-clause-part g c refused =
    none_told g.T.Teller.tells g.T.Teller.breaks_off g.met.T.Teller.tells_nothing c.args.teller
    (run_entries c.args.program.now c.args.input.now c.args.bound)

pub returns-clause-outcome : goal.returns-clause-outcome
returns-clause-outcome g c =
    let o = c.observe-done in
    answered _ c.ending_of.result _ c.ending_of.ensures (
    outcome_up_to g.T.Teller.tells g.T.Teller.breaks_off g.met.T.Teller.tells_on (λ (j : InTime g.row.T.Denot g.row.V.Denot).
    j.journal.program.now) (λ (j : InTime g.row.T.Denot g.row.V.Denot). j.journal.teller)
    (λ (j : InTime g.row.T.Denot g.row.V.Denot). j.until) (λ (j : InTime g.row.T.Denot g.row.V.Denot). j.cut)
    c.args.program.now c.args.input.now c.args.bound (started o.ensures.unheard) o.new.listener refl refl _
    (told_up_to g.T.Teller.tells g.T.Teller.breaks_off g.met.T.Teller.tells_on (λ (j : InTime g.row.T.Denot g.row.V.Denot).
    j.journal.program.now) (λ (j : InTime g.row.T.Denot g.row.V.Denot). j.journal.teller)
    (λ (j : InTime g.row.T.Denot g.row.V.Denot). j.until) (λ (j : InTime g.row.T.Denot g.row.V.Denot). j.cut)
    c.args.program.now c.args.input.now c.args.bound (started o.ensures.unheard) o.new.listener refl refl o.result _ refl o.ensures.outcome o.ensures.heard o.ensures.part o.ensures.unheard))

pub returns-clause-ends : goal.returns-clause-ends
returns-clause-ends g c =
    let o = c.observe-done in
    answered _ c.ending_of.result _ c.ending_of.ensures (
    ends_up_to g.T.Teller.tells g.T.Teller.breaks_off g.met.T.Teller.tells_on (λ (j : InTime g.row.T.Denot g.row.V.Denot).
    j.journal.program.now) (λ (j : InTime g.row.T.Denot g.row.V.Denot). j.journal.teller)
    (λ (j : InTime g.row.T.Denot g.row.V.Denot). j.until) (λ (j : InTime g.row.T.Denot g.row.V.Denot). j.cut)
    c.args.program.now c.args.input.now c.args.bound (started o.ensures.unheard) o.new.listener refl refl _
    (told_up_to g.T.Teller.tells g.T.Teller.breaks_off g.met.T.Teller.tells_on (λ (j : InTime g.row.T.Denot g.row.V.Denot).
    j.journal.program.now) (λ (j : InTime g.row.T.Denot g.row.V.Denot). j.journal.teller)
    (λ (j : InTime g.row.T.Denot g.row.V.Denot). j.until) (λ (j : InTime g.row.T.Denot g.row.V.Denot). j.cut)
    c.args.program.now c.args.input.now c.args.bound (started o.ensures.unheard) o.new.listener refl refl o.result _ refl o.ensures.outcome o.ensures.heard o.ensures.part o.ensures.unheard))

pub returns-clause-told : goal.returns-clause-told
returns-clause-told g c =
    let o = c.observe-done in
    answered _ c.ending_of.result _ c.ending_of.ensures (
    entries_up_to g.T.Teller.tells g.T.Teller.breaks_off g.met.T.Teller.tells_on (λ (j : InTime g.row.T.Denot g.row.V.Denot).
    j.journal.program.now) (λ (j : InTime g.row.T.Denot g.row.V.Denot). j.journal.teller)
    (λ (j : InTime g.row.T.Denot g.row.V.Denot). j.until) (λ (j : InTime g.row.T.Denot g.row.V.Denot). j.cut)
    c.args.program.now c.args.input.now c.args.bound (started o.ensures.unheard) o.new.listener refl refl _
    (told_up_to g.T.Teller.tells g.T.Teller.breaks_off g.met.T.Teller.tells_on (λ (j : InTime g.row.T.Denot g.row.V.Denot).
    j.journal.program.now) (λ (j : InTime g.row.T.Denot g.row.V.Denot). j.journal.teller)
    (λ (j : InTime g.row.T.Denot g.row.V.Denot). j.until) (λ (j : InTime g.row.T.Denot g.row.V.Denot). j.cut)
    c.args.program.now c.args.input.now c.args.bound (started o.ensures.unheard) o.new.listener refl refl o.result _ refl o.ensures.outcome o.ensures.heard o.ensures.part o.ensures.unheard))

pub returns-clause-part : goal.returns-clause-part
returns-clause-part g c refused =
    let o = c.observe-done in
    let by = refused_by o.result c.args.bound _ _ (sym c.ending_of.ensures ∙ refused) in
    part_in_time g.T.Teller.tells g.T.Teller.breaks_off g.met.T.Teller.tells_on (λ (j : InTime g.row.T.Denot g.row.V.Denot).
    j.journal.program.now) (λ (j : InTime g.row.T.Denot g.row.V.Denot). j.journal.teller)
    (λ (j : InTime g.row.T.Denot g.row.V.Denot). j.until) (λ (j : InTime g.row.T.Denot g.row.V.Denot). j.cut)
    (started o.ensures.unheard) o.new.listener _ refl by.1 (o.ensures.part by.0)
