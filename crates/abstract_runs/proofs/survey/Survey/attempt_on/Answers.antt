use Rattle.std.proofs.Common.{rules, sym, subst}
use Rattle.pram_meaning.specs.Attempt.{attempt_step}
use Rattle.pram_meaning.specs.Together.{parts}
use Rattle.abstract_runs.specs.Inner.{IsStill}
use Rattle.abstract_runs.specs.Rows.{ArePartsBy}
use Rattle.abstract_runs.proofs.AlikeParts.{parts_alike}
use Rattle.abstract_runs.proofs.Sets.{leads_attempted, leads_found}
use Rattle.abstract_runs.proofs.SharedFaults.{together_told}
use Rattle.abstract_runs.proofs.survey.Survey.attempt_on.Goals as goal

pub returns-clause-leads : goal.returns-clause-leads
returns-clause-leads c = λ m vs stands active.
    let p = c.args.self.now.program.now in
    leads_found p c.in_ok-rows.rows.items c.in_ok-found.found vs (IsStill c.begin.new.known m) c.note.new.self _
    (leads_attempted p c.args.self.now.bound c.args.line (λ s. attempt_step s c.args.target.now c.args.e.now) vs
    c.args.team.now.items c.args.known.now c.begin.new.known c.begin.new.told c.note.new.self c.rows_of.new.faults c.within.result
    c.in_ok-rows.rows.items m stands (c.if-not-begin.ensures.leads m stands.known_as) c.in_ok-note.ensures.kept
    (λ s h. c.in_ok-rows.ensures.parts s vs h active)
    (λ s by. let xs = parts p s (λ s. attempt_step s c.args.target.now c.args.e.now) vs in
    let known = subst (λ rows. ArePartsBy c.rows_of.new.faults rows xs) (sym c.deref.ensures.value) by in
    together_told c.rows_of.new.faults c.note_conflicts.new.faults c.in_ok-sure.sure c.within.result c.args.line p c.rule-rule.result
    c.deref.result.now xs (sym c.rule-rule.ensures) known
    (λ key among. c.in_ok-note_conflicts.ensures.noted c.rows_of.new.faults xs key known
    (λ t. parts_alike p s c.args.target.now c.args.e.now vs (c.is_alike.ensures t)) c.note_conflicts.ensures.kept among)
    (search rules) c.within.ensures)
    c.in_ok-note.ensures.noted)
    (λ xs h. c.in_ok-found.ensures vs xs h)
