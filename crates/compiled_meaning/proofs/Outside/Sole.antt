-- A statement with one expression, behind its mark and its code: the value, and what is noted.
use Rattle.std.proofs.Common.{◌≡◌, ℕ, ◌≤◌, List, ◌++◌, Bool, None, ℤ, ap, ◌∙◌, arith}
use Rattle.pram_values.specs.declared.place.Place.TheVariants.{All}
use Rattle.superstep_instructions.specs.declared.instr.Side.TheVariants.{Uniform}
use Rattle.superstep_instructions.specs.declared.instr.Instr.{Instr}
use Rattle.superstep_machine.specs.Keys.{least}
use Rattle.pram_names.specs.declared.body.Expression.{Expression}
use Rattle.pram_check.specs.Checked.{Checked}
use Rattle.pram_check.specs.Bounded as bounded
use Rattle.pram_check.specs.Bounded.{names_of}
use Rattle.pram_meaning.specs.Store.{State, seen}
use Rattle.pram_meaning.specs.Values.{IsValue}
use Rattle.superstep_machine.proofs.KeyOrder.{none_least}
use Rattle.flat_machine.specs.Flat.{Flat}
use Rattle.flat_stretches.specs.Along.{Run}
use Rattle.flat_stretches.specs.Folds.{acts_at_once}
use Rattle.flat_stretches.specs.Notes.{notes}
use Rattle.statement_evaluation.specs.Noted.{notes_behind}
use Rattle.statement_evaluation.specs.Terms.{term_of}
use Rattle.statement_evaluation.specs.Whole.{value, steps}
use Rattle.plain_form.specs.Registers.{behind_variables}
use Rattle.plain_form.specs.Formulas.{Formula, formula_of}
use Rattle.plain_form.specs.Groups.{evaluated, value_at}
use Rattle.verified_form.specs.Straight.{evaluation}
use Rattle.compiled_formulas.specs.Headings.{heading_of}
use Rattle.compiled_formulas.specs.Environments.{IsNamed}
use Rattle.compiled_formulas.proofs.Terms.{expressions_are_terms, steps_are_steps, expressions_are_named}
use Rattle.compiled_meaning.specs.Between.{IsRunOf}
use Rattle.compiled_meaning.specs.Begins.{begun}
use Rattle.compiled_meaning.proofs.EachStatement.Valued.{value_is}
use Rattle.compiled_meaning.specs.Without.{IsWithout}
use Rattle.compiled_meaning.proofs.Inside.Attempted.{one_more}
use Rattle.compiled_meaning.proofs.Outside.Evaluated.{Leaves, is_valued, valued_leaves, part_acts, part_notes}
use Rattle.compiled_meaning.proofs.Outside.Values.{sees_values}

module _ (p : Checked) (t : Run) (of : IsRunOf p t) (keep : Bool) (free line : ℕ) (free_ones : behind_variables p.uniforms ≤ free)
    (held : Bool)
    (m : State) (place spent : ℕ) (f : Flat) (w : IsWithout p t held m place spent f) (e : Expression)
    (named : bounded.IsNamed (names_of p) e) where
  abbrev pub formula : Formula
  formula = formula_of e

  -- its value
  abbrev pub result : ℤ
  result = value (seen p m) (term_of e)

  -- the state behind its code
  abbrev pub there : Flat
  there = acts_at_once t.code (evaluated Uniform free formula) (begun t.code line f)

  formula_named : IsNamed (names_of p) formula
  formula_named = expressions_are_named (names_of p) e named

  pub there_leaves : Leaves p free (one_more m) f there
  there_leaves = valued_leaves p t of held m place spent f w line free formula formula_named free_ones free (omega arith)

  pub there_gives : there.uniform.registers (value_at Uniform free formula) ≡ result
  there_gives =
      let x = is_valued p t of held m place spent f w line free formula formula_named free_ones in
      x.gives ∙ ap (value (seen p m)) (expressions_are_terms e)

  pub result_is : IsValue result
  result_is = value_is (names_of p) (seen p m) (sees_values p m w.values) e named

  pub sole_acts : (is : List Instr) →
      acts_at_once t.code (evaluation keep held Uniform free formula ++ is) (begun t.code line f) ≡ acts_at_once t.code is there
  sole_acts is = part_acts p t of held m place spent f w line free formula formula_named free_ones keep held is

  -- what is noted, if the rest notes nothing
  pub sole_notes : (is : List Instr) → notes t.code is there ≡ None →
      notes t.code (evaluation keep held Uniform free formula ++ is) (begun t.code line f)
      ≡ notes_behind (heading_of (begun t.code line f)) 0 All (steps (seen p m) (term_of e))
  sole_notes is none =
      part_notes p t of held m place spent f w line free formula formula_named free_ones keep held is
      ∙ ap (least _) none ∙ none_least _
      ∙ ap (notes_behind (heading_of (begun t.code line f)) 0 All) (steps_are_steps (seen p m) e)
