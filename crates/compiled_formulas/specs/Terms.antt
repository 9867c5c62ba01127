-- A formula as what evaluation has: a term, and what happens at each of its positions.
use Rattle.std.specs.Prelude.{◌≡◌, List, [], ◌∷◌, ◌++◌, pos}
use Rattle.pram_model.specs.Layout.{cell_of}
use Rattle.superstep_machine.specs.Results.{kind_of}
use Rattle.pram_names.specs.declared.body.Expression.{Expression}
use Rattle.pram_meaning.specs.Operation.{operate, operate_before}
use Rattle.pram_meaning.specs.Store.{View}
use Rattle.statement_evaluation.specs.Terms as terms
use Rattle.statement_evaluation.specs.Terms.{Term, term_of}
use Rattle.statement_evaluation.specs.Whole.{Step, testing, reading, value, steps}
use Rattle.plain_form.specs.Formulas.{Formula, Zero, Number, Variable, Index, Local, Read, Before, Between, Pair, formula_of}

-- the term whose value is in the formula's register; of a pair the first one
abbrev pub term : Formula → Term
term Zero = terms.Number (pos 0)
term (Number n) = terms.Number n
term (Variable x) = terms.Uniform x
term Index = terms.Index
term (Local x) = terms.Local x
term (Read a f) = terms.Read a (term f)
term (Before o f) = terms.Before o (term f)
term (Between o f g) = terms.Between o (term f) (term g)
term (Pair f g) = term f

-- what happens in a formula, position by position; in a pair the second one behind the first
abbrev pub steps_in : View → Formula → List Step
steps_in s Zero = []
steps_in s (Number n) = []
steps_in s (Variable x) = []
steps_in s Index = []
steps_in s (Local x) = []
steps_in s (Read a f) = steps_in s f ++ reading (cell_of s.layout a (value s (term f))) ∷ []
steps_in s (Before o f) = steps_in s f ++ testing (kind_of (operate_before o (value s (term f)))) ∷ []
steps_in s (Between o f g) =
    steps_in s f ++ (steps_in s g ++ testing (kind_of (operate o (value s (term f)) (value s (term g)))) ∷ [])
steps_in s (Pair f g) = steps_in s f ++ steps_in s g

-- of an expression they are evaluation's
abbrev pub ExpressionsAreTerms : Type 0
ExpressionsAreTerms = (e : Expression) → term (formula_of e) ≡ term_of e

abbrev pub StepsAreSteps : Type 0
StepsAreSteps = (s : View) (e : Expression) → steps_in s (formula_of e) ≡ steps s (term_of e)
