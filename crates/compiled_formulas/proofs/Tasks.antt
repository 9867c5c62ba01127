-- Single formulas are terms, so what their code notes is what evaluation says of tasks.
use Rattle.std.proofs.Common.{◌≡◌, ℕ, ◌+◌, List, [], ◌∷◌, ◌++◌, map, None, refl, ap, ◌∙◌}
use Rattle.pram_names.specs.declared.body.Expression as body
use Rattle.pram_names.specs.declared.body.Expression.{Expression, Element', Prefix', Chain', Row_of-Link, end_of-Link, more_of-Link}
use Rattle.pram_model.specs.Layout.{cell_of, total_size}
use Rattle.superstep_machine.specs.Results.{kind_of}
use Rattle.pram_check.specs.Checked.{Checked}
use Rattle.pram_meaning.specs.Operation.{operate, operate_before}
use Rattle.pram_meaning.specs.Store.{State, View, member_of, seen_by}
use Rattle.statement_evaluation.specs.Terms as terms
use Rattle.statement_evaluation.specs.Terms.{Gets}
use Rattle.statement_evaluation.specs.Whole.{reading, testing, value, steps}
use Rattle.statement_evaluation.specs.Rows.{rows}
use Rattle.statement_evaluation.specs.Noted.{noted_in}
use Rattle.plain_form.specs.Formulas.{Formula, Zero, Number, Variable, Index, Local, Read, Before, Between, Pair, formula_of, chained}
use Rattle.plain_form.specs.Formulas.{positions}
use Rattle.compiled_formulas.specs.Terms.{term, steps_in}
use Rattle.compiled_formulas.specs.Headings.{heading_of}
use Rattle.compiled_formulas.specs.Inside.{active_ones, row_in}
use Rattle.compiled_formulas.specs.Tasks.{IsSingle, ExpressionsAreSingle, SinglesAreTerms, ValuesAreTasks}
use Rattle.compiled_formulas.proofs.Inside.{formulas_are_evaluated_inside}

mutual
  single : (e : Expression) → IsSingle (formula_of e)
  single (body.Number n) = tt
  single (body.Uniform x) = tt
  single body.Index = tt
  single (body.Local x) = tt
  single (body.Cell a) = tt
  single (Element' a b e) = single e
  single (Prefix' o b e) = single e
  single (Chain' b e q links) = chain_single (formula_of e) links (single e)

  chain_single : (f : Formula) {k : _} (links : Row_of-Link k) → IsSingle f → IsSingle (chained f links)
  chain_single f end_of-Link h = h
  chain_single f (more_of-Link o e links) h = chain_single (Between o f (formula_of e)) links (h, single e)

pub expressions_are_single : ExpressionsAreSingle
expressions_are_single e = single e

pub single_steps : (s : View) (e : Formula) → IsSingle e → steps_in s e ≡ steps s (term e)
single_steps s Zero h = refl
single_steps s (Number n) h = refl
single_steps s (Variable x) h = refl
single_steps s Index h = refl
single_steps s (Local x) h = refl
single_steps s (Read a f) h = λ i. single_steps s f h i ++ reading (cell_of s.layout a (value s (term f))) ∷ []
single_steps s (Before o f) h = λ i. single_steps s f h i ++ testing (kind_of (operate_before o (value s (term f)))) ∷ []
single_steps s (Between o f g) h =
    λ i. single_steps s f h.0 i ++ (single_steps s g h.1 i ++ testing (kind_of (operate o (value s (term f)) (value s (term g)))) ∷ [])
single_steps s (Pair f g) h = absurd h

pub single_positions : (e : Formula) → IsSingle e → positions e ≡ terms.positions (term e)
single_positions Zero h = refl
single_positions (Number n) h = refl
single_positions (Variable x) h = refl
single_positions Index h = refl
single_positions (Local x) h = refl
single_positions (Read a f) h = ap (λ n. n + 1) (single_positions f h)
single_positions (Before o f) h = ap (λ n. n + 1) (single_positions f h)
single_positions (Between o f g) h = λ i. single_positions f h.0 i + single_positions g h.1 i + 1
single_positions (Pair f g) h = absurd h

pub singles_are_terms : SinglesAreTerms
singles_are_terms s e h = (single_steps s e h, single_positions e h)

rows_are : (p : Checked) (m : State) (e : Formula) → IsSingle e → (vs : List ℕ) → map (row_in p m e) vs ≡ rows p m (Gets (term e)) vs
rows_are p m e h [] = refl
rows_are p m e h (v ∷ vs) =
    λ i. record {
      processor = (member_of m.team v).index;
      whole = record {
        steps = single_steps (seen_by p m v) e h i;
        value = record { value = value (seen_by p m v) (term e); cell = None };
      };
    } ∷ rows_are p m e h vs i

pub values_are_tasks : ValuesAreTasks
values_are_tasks code p locals m base e f h single =
    let k = formulas_are_evaluated_inside code p locals m base e f h in
    k.tells
    ∙ (λ i. noted_in (heading_of f) p.rule (total_size p.layout) (single_positions e single i) (rows_are p m e single (active_ones f) i))
