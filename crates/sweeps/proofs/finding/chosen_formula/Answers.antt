use Rattle.std.proofs.Common.{◌≡◌, ◌∙◌, ap, sym, subst, rules, FitsSigned}
use Rattle.std.specs.Int.{w128}
use Rattle.sweeps.specs.declared.formula.Formula.{Formula}
use Rattle.sweeps.specs.declared.term.Term.{Term}
use Rattle.sweeps.specs.declared.term.Term.TheVariants.{Constant, Logarithm, Linear, Linearithmic, Square, Cube}
use Rattle.sweeps.specs.Formulas.{coefficient}
use Rattle.sweeps.specs.Tables.{Explains, term_set}
use Rattle.sweeps.proofs.Candidates.{only, same_as}
use Rattle.sweeps.proofs.Eliminations.{is_true, not_true}
use Rattle.sweeps.proofs.finding.chosen_formula.Goals as goal
use Rattle.sweeps.proofs.finding.chosen_formula.Goals.{else-explains-via-then-explains+else-term_set-choice}
use Rattle.sweeps.proofs.finding.chosen_formula.Goals.{else-explains-via-else-explains}

six : (f : Formula) → FitsSigned w128 f.constant → FitsSigned w128 f.logarithm → FitsSigned w128 f.linear →
    FitsSigned w128 f.linearithmic → FitsSigned w128 f.square → FitsSigned w128 f.cube →
    (term : Term) → FitsSigned w128 (coefficient f term)
six f a b c d e g Constant = a
six f a b c d e g Logarithm = b
six f a b c d e g Linear = c
six f a b c d e g Linearithmic = d
six f a b c d e g Square = e
six f a b c d e g Cube = g

pub returns-then-term_set-choice : goal.returns-then-term_set-choice
returns-then-term_set-choice c =
    let f = c.in-Some.formula in
    let set : term_set f ≡ c.args.choice.bits = sym c.term_set.ensures ∙ c.if-term_set-choice.true in (
      record {
        small = six f (search rules) (search rules) (search rules) (search rules) (search rules) (search rules);
        explains = c.explains.ensures.0 (is_true c.explains.result c.if-explains.true);
        determined = only c.args.table.now c.args.choice.bits f c.in-Some.ensures set;
      },
      set,
    )

pub returns-else-explains : goal.returns-else-explains
returns-else-explains c g candidate is =
    let f = c.in-Some.formula in
    let same : f ≡ g = same_as c.args.table.now c.args.choice.bits f g c.in-Some.ensures candidate is in
    elim c.else-explains.branch [
      | else-explains-via-then-explains+else-term_set-choice w ↦ w.if-term_set-choice.false (w.term_set.ensures ∙ ap term_set same ∙ is)
      | else-explains-via-else-explains w ↦
          not_true c.explains.result w.if-explains.false
          (c.explains.ensures.1 (subst (λ (x : Formula). Explains x c.args.table.now) (sym same) candidate.explains))
    ]
