-- An expression as a formula and as a term: the same.
use Rattle.std.proofs.Common.{◌≡◌, [], ◌∷◌, ◌++◌, refl, ap}
use Rattle.pram_model.specs.Layout.{cell_of}
use Rattle.pram_names.specs.declared.body.Expression as body
use Rattle.pram_names.specs.declared.body.Expression.{Expression, Element', Prefix', Chain', Row_of-Link, end_of-Link, more_of-Link}
use Rattle.superstep_machine.specs.Results.{kind_of}
use Rattle.pram_check.specs.Bounded.{Names}
use Rattle.pram_check.specs.Bounded as bounded
use Rattle.pram_meaning.specs.Operation.{operate, operate_before}
use Rattle.pram_meaning.specs.Store.{View}
use Rattle.statement_evaluation.specs.Terms as terms
use Rattle.statement_evaluation.specs.Terms.{Term, term_of}
use Rattle.statement_evaluation.specs.Whole.{reading, testing, value, steps}
use Rattle.plain_form.specs.Formulas.{Formula, Between, formula_of, chained}
use Rattle.compiled_formulas.specs.Terms.{term, steps_in, ExpressionsAreTerms, StepsAreSteps}
use Rattle.compiled_formulas.specs.Environments.{IsNamed, ExpressionsAreNamed}

mutual
  term_is : (e : Expression) → term (formula_of e) ≡ term_of e
  term_is (body.Number n) = refl
  term_is (body.Uniform x) = refl
  term_is body.Index = refl
  term_is (body.Local x) = refl
  term_is (body.Cell a) = refl
  term_is (Element' a b e) = ap (terms.Read a) (term_is e)
  term_is (Prefix' o b e) = ap (terms.Before o) (term_is e)
  term_is (Chain' b e q links) = chain_is (formula_of e) (term_of e) (term_is e) links

  chain_is : (f : Formula) (t : Term) → term f ≡ t → {n : _} (links : Row_of-Link n) → term (chained f links) ≡ terms.chained t links
  chain_is f t h end_of-Link = h
  chain_is f t h (more_of-Link o e links) =
      chain_is (Between o f (formula_of e)) (terms.Between o t (term_of e)) (λ i. terms.Between o (h i) (term_is e i)) links

pub expressions_are_terms : ExpressionsAreTerms
expressions_are_terms e = term_is e

module _ (s : View) where
  mutual
    steps_are : (e : Expression) → steps_in s (formula_of e) ≡ steps s (term_of e)
    steps_are (body.Number n) = refl
    steps_are (body.Uniform x) = refl
    steps_are body.Index = refl
    steps_are (body.Local x) = refl
    steps_are (body.Cell a) = refl
    steps_are (Element' a b e) = λ i. steps_are e i ++ reading (cell_of s.layout a (value s (term_is e i))) ∷ []
    steps_are (Prefix' o b e) = λ i. steps_are e i ++ testing (kind_of (operate_before o (value s (term_is e i)))) ∷ []
    steps_are (Chain' b e q links) = chain_steps (formula_of e) (term_of e) (term_is e) (steps_are e) links

    chain_steps : (f : Formula) (t : Term) → term f ≡ t → steps_in s f ≡ steps s t → {n : _} (links : Row_of-Link n) →
        steps_in s (chained f links) ≡ steps s (terms.chained t links)
    chain_steps f t h k end_of-Link = k
    chain_steps f t h k (more_of-Link o e links) =
        chain_steps (Between o f (formula_of e)) (terms.Between o t (term_of e)) (λ i. terms.Between o (h i) (term_is e i))
        (λ i. k i ++ (steps_are e i ++ testing (kind_of (operate o (value s (h i)) (value s (term_is e i)))) ∷ [])) links

pub steps_are_steps : StepsAreSteps
steps_are_steps s e = steps_are s e

module _ (n : Names) where
  mutual
    named : (e : Expression) → bounded.IsNamed n e → IsNamed n (formula_of e)
    named (body.Number z) h = tt
    named (body.Uniform x) h = h
    named body.Index h = h
    named (body.Local x) h = h
    named (body.Cell a) h = tt
    named (Element' a b e) h = named e h.1
    named (Prefix' o b e) h = named e h
    named (Chain' b e q links) h = chain_named (formula_of e) links (named e h.0) h.1

    chain_named : (f : Formula) {k : _} (links : Row_of-Link k) → IsNamed n f → bounded.AreNamed n links → IsNamed n (chained f links)
    chain_named f end_of-Link h k = h
    chain_named f (more_of-Link o e links) h k = chain_named (Between o f (formula_of e)) links (h, named e k.0) k.1

pub expressions_are_named : ExpressionsAreNamed
expressions_are_named n e h = named n e h
