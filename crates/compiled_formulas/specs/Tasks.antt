-- What a statement evaluates by the code of formulas, as the tasks of evaluation.
use Rattle.std.specs.Prelude.{◌≡◌, ℕ}
use Rattle.superstep_instructions.specs.declared.instr.Side.TheVariants.{Private}
use Rattle.superstep_instructions.specs.Code.{SuperstepCode}
use Rattle.pram_names.specs.declared.body.Expression.{Expression}
use Rattle.pram_check.specs.Checked.{Checked}
use Rattle.pram_meaning.specs.Store.{State, View}
use Rattle.flat_machine.specs.Flat.{Flat}
use Rattle.flat_stretches.specs.Notes.{notes}
use Rattle.statement_evaluation.specs.Terms as terms
use Rattle.statement_evaluation.specs.Terms.{Gets}
use Rattle.statement_evaluation.specs.Whole.{steps}
use Rattle.statement_evaluation.specs.Rows.{rows}
use Rattle.statement_evaluation.specs.Noted.{noted}
use Rattle.plain_form.specs.Formulas.{Formula, Read, Before, Between, Pair, formula_of, positions}
use Rattle.plain_form.specs.Groups.{evaluated}
use Rattle.compiled_formulas.specs.Terms.{term, steps_in}
use Rattle.compiled_formulas.specs.Headings.{heading_of}
use Rattle.compiled_formulas.specs.Inside.{active_ones, MayEvaluateInside}

-- there is no pair in a formula
abbrev pub IsSingle : Formula → Type 0
IsSingle (Read a f) = IsSingle f
IsSingle (Before o f) = IsSingle f
IsSingle (Between o f g) = IsSingle f × IsSingle g
IsSingle (Pair f g) = ⊥
IsSingle f = Unit {0}

-- so it is with expressions
abbrev pub ExpressionsAreSingle : Type 0
ExpressionsAreSingle = (e : Expression) → IsSingle (formula_of e)

-- then the same happens as in its term, and there are as many positions
abbrev pub SinglesAreTerms : Type 0
SinglesAreTerms = (s : View) (e : Formula) → IsSingle e → (steps_in s e ≡ steps s (term e)) × (positions e ≡ terms.positions (term e))

-- inside pardo the code of a single formula notes what evaluation says of the task to get its value
abbrev pub ValuesAreTasks : Type 0
ValuesAreTasks = (code : SuperstepCode) (p : Checked) (locals : ℕ) (m : State) (base : ℕ) (e : Formula) (f : Flat) →
    MayEvaluateInside code p locals m base e f → IsSingle e →
    notes code (evaluated Private base e) f
    ≡ noted (heading_of f) p.rule p.layout (Gets (term e)) (rows p m (Gets (term e)) (active_ones f))
