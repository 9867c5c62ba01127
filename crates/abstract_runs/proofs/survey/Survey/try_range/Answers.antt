use Rattle.std.proofs.Common.{◌≡◌, ℤ, ℕ, IsSomeAnd, subst}
use Rattle.pram_meaning.specs.Attempt.{attempt_range}
use Rattle.pram_meaning.specs.Bounded.{evaluated}
use Rattle.pram_meaning.specs.Store.{State, seen}
use Rattle.abstract_runs.specs.Leads.{Leads}
use Rattle.abstract_runs.specs.Standing.{StandsFor}
use Rattle.abstract_runs.proofs.Leading.{leads_evaluated, told_all}
use Rattle.abstract_runs.proofs.survey.Survey.try_range.Goals as goal

pub returns-clause-leads : goal.returns-clause-leads
returns-clause-leads c = λ m h.
    let p = c.args.self.now.program.now in
    subst (λ (procs : ℕ). Leads (λ (r : ℤ × ℕ) (s : State). IsSomeAnd c.in_ok-found.found (λ (q : ℤ × ℕ). r ≡ (q.0, q.1))
    × StandsFor c.begin.new.known s) c.note.new.self
    (evaluated c.args.self.now.bound c.args.line (λ (s : State). attempt_range procs (seen p s) c.args.low.now c.args.high.now) m))
    c.procs-procs.ensures
    (leads_evaluated (λ (r : ℤ × ℕ). IsSomeAnd c.in_ok-found.found (λ (q : ℤ × ℕ). r ≡ (q.0, q.1))) _ _ _ _ _ _ _ _ m
    (c.if-not-begin.ensures.leads m h.known_as) c.in_ok-note.ensures.kept
    (λ s k. c.in_ok-found.ensures.tried (seen p s) (c.outlook_of-seen.ensures s k))
    (told_all _ _ _ _ c.within.ensures c.in_ok-note.ensures.noted) h.team)
