-- An assignment to a variable, a print, and the value of a test: the run follows them.
use Rattle.std.proofs.Common.{◌≡◌, ℕ, ◌+◌, ◌<◌, ◌≤◌, List, [], ◌∷◌, length, Bool, false, ℤ, refl, sym, subst, arith}
use Rattle.superstep_instructions.specs.declared.instr.Side.TheVariants.{Uniform}
use Rattle.superstep_instructions.specs.declared.instr.Instr.{Instr}
use Rattle.superstep_instructions.specs.declared.instr.Instr.TheVariants.{Mark, Copy, Print}
use Rattle.pram_names.specs.declared.body.Expression.{Expression}
use Rattle.pram_names.specs.declared.body.Target.TheVariants as target
use Rattle.pram_check.specs.Checked.{Checked}
use Rattle.pram_check.specs.Bounded as bounded
use Rattle.pram_check.specs.Bounded.{names_of}
use Rattle.pram_meaning.specs.Attempt.{Effect, attempt, attempt_assign}
use Rattle.pram_meaning.specs.Store.{State, seen, with_uniform, printed}
use Rattle.pram_meaning.specs.Bounded.{evaluated, found, assign, print}
use Rattle.pram_meaning.specs.Together.{assigned}
use Rattle.pram_meaning.specs.Values.{IsValue}
use Rattle.flat_machine.specs.Flat.{Flat, after_instr}
use Rattle.flat_stretches.specs.Along.{Run}
use Rattle.flat_stretches.specs.Folds.{Stand}
use Rattle.flat_stretches.specs.Tells.{IsCalm}
use Rattle.statement_evaluation.specs.Terms.{term_of, assignment}
use Rattle.statement_evaluation.specs.Whole.{value, steps, whole}
use Rattle.statement_evaluation.proofs.Attempts.{whole_expressions, whole_assignments}
use Rattle.plain_form.specs.Registers.{variable, behind_variables}
use Rattle.plain_form.specs.Formulas.{Formula, formula_of, nesting}
use Rattle.plain_form.specs.Groups.{value_at}
use Rattle.plain_form.specs.Shapes.{still}
use Rattle.verified_form.specs.Straight.{getting, printing}
use Rattle.verified_form.proofs.Fine.{straight_parts_are_fine}
use Rattle.plain_form.specs.Formulas as formulas
use Rattle.std.specs.Prelude.{None}
use Rattle.exchange_bound.specs.Events as events
use Rattle.exchange_bound.specs.Events.{Event, Runs}
use Rattle.compiled_meaning.specs.Paid.{evaluating}
use Rattle.compiled_meaning.specs.Between.{IsRunOf}
use Rattle.compiled_meaning.proofs.EachStatement.Costs.{straight_parts_cost}
use Rattle.compiled_meaning.specs.Without.{IsWithout}
use Rattle.compiled_meaning.proofs.Outside.Leads.{Leads, leads_after}
use Rattle.compiled_meaning.proofs.Outside.Passed.{Passes}
use Rattle.compiled_meaning.proofs.Inside.Attempted.{one_more}
use Rattle.compiled_meaning.proofs.Outside.OneStatement.{evaluates_by}
use Rattle.compiled_meaning.proofs.Outside.Evaluated.{Leaves}
use Rattle.compiled_meaning.proofs.Outside.Effects.{got_leaves, got_notes, printed_leaves, printed_notes}
use Rattle.compiled_meaning.proofs.Outside.Sole.{there, there_leaves, there_gives, result_is, sole_acts, sole_notes}
use Rattle.compiled_meaning.proofs.Outside.Spending.{run_holds, run_spends}
use Rattle.compiled_meaning.proofs.Outside.Straight.{IsStraight, may_begin, part_passed, passed_since}
use Rattle.compiled_meaning.proofs.Outside.Values.{next_values, next_sizes, variable_values, variable_sizes, print_values, print_sizes}

module _ (p : Checked) (t : Run) (of : IsRunOf p t) (keep : Bool) (free line : ℕ) (free_ones : behind_variables p.uniforms ≤ free)
    (held : Bool)
    (m : State) (place spent : ℕ) (f : Flat) (w : IsWithout p t held m place spent f) (e : Expression)
    (named : bounded.IsNamed (names_of p) e) where
  abbrev formula : Formula
  formula = formula_of e

  abbrev result : ℤ
  result = value (seen p m) (term_of e)

  abbrev r : ℕ
  r = value_at Uniform free formula

  abbrev end : Flat
  end = there p t of keep free line free_ones held m place spent f w e named

  end_leaves : Leaves p free (one_more m) f end
  end_leaves = there_leaves p t of keep free line free_ones held m place spent f w e named

  end_gives : end.uniform.registers r ≡ result
  end_gives = there_gives p t of keep free line free_ones held m place spent f w e named

  result_is_value : IsValue result
  result_is_value = result_is p t of keep free line free_ones held m place spent f w e named

  -- ---- an assignment to a variable

  module _ (x : ℕ) (declared : x < p.uniforms) where
    abbrev get : List Instr
    get = getting keep held Uniform free formula (variable x)

    is_got : IsStraight p t free line get held (still held formula) m f (evaluating t formula) (with_uniform x result (one_more m))
    is_got =
        let copied = Copy Uniform (variable x) r ∷ [] in
        let acts = sole_acts p t of keep free line free_ones held m place spent f w e named copied in
        record {
          fine = straight_parts_are_fine.got keep held Uniform free formula (variable x);
          few = straight_parts_cost.got t keep held free formula (variable x);
          leaves = subst (Leaves p free (with_uniform x result (one_more m)) f) (sym acts)
              (subst (λ z. Leaves p free (with_uniform x z (one_more m)) f (after_instr t.code (Copy Uniform (variable x) r) end)) end_gives
              (got_leaves t.code p free (one_more m) f end end_leaves free_ones x r declared (next_sizes p m w.sizes)));
          count = refl;
          sizes = variable_sizes p x result (one_more m) (next_sizes p m w.sizes);
          values = variable_values x result (one_more m) result_is_value (next_values m w.values);
        }

    pub variable_follows : Stand t place (Mark line ∷ get) → IsCalm t.code (place + length (Mark line ∷ get)) →
        Leads t spent held (still held formula) (events.begun t.bound m (Runs (nesting formula) false None (formulas.reads formula) ∷ []))
        (Passes p t free (still held formula) (place + length (Mark line ∷ get)) m f) (assign p t.bound line (target.Uniform x) e m)
    variable_follows stand calm =
        let copied = Copy Uniform (variable x) r ∷ [] in
        let es = Runs (nesting formula) false None (formulas.reads formula) ∷ [] in
        let goes = λ (n : ℕ) (g : Effect) (k : State).
        Passes p t free (still held formula) (place + length (Mark line ∷ get)) m f n tt (assigned (target.Uniform x) g k) in
        let s = seen p (one_more m) in
        leads_after t spent held (still held formula) (events.begun t.bound m es) goes
        (Passes p t free (still held formula) (place + length (Mark line ∷ get)) m f)
        (evaluated t.bound line (λ m. attempt_assign (seen p m) (target.Uniform x) e) m) (λ g m. tt)
        (λ g m. assigned (target.Uniform x) g m)
        (evaluates_by t line get held (still held formula) m place spent f
        (may_begin p t of free line get held (still held formula) m place spent f w (evaluating t formula)
        (with_uniform x result (one_more m))
        is_got stand calm) spent held (still held formula) refl es (λ m. attempt_assign (seen p m) (target.Uniform x) e)
        (whole s (assignment (target.Uniform x) e)) goes (whole_assignments s (target.Uniform x) e)
        (sole_notes p t of keep free line free_ones held m place spent f w e named copied
        (got_notes t.code p free (one_more m) f end end_leaves free_ones (variable x) r))
        (λ below g h. (
          run_holds held formula,
          (
            g,
            passed_since p t free (still held formula) (place + length (Mark line ∷ get)) m f _ (with_uniform x result (one_more m)) g
                (part_passed p t of free line get held (still held formula) m place spent f w (evaluating t formula)
                (with_uniform x result (one_more m)) is_got below g h _
                (let l = run_spends t held formula in omega (arith, l))),
          ),
        )))
        (λ n g k x. x)

  -- ---- a print

  abbrev say : List Instr
  say = printing keep held free formula

  is_said : IsStraight p t free line say held (still held formula) m f (evaluating t formula) (printed result (one_more m))
  is_said =
      let acts = sole_acts p t of keep free line free_ones held m place spent f w e named (Print r ∷ []) in
      record {
        fine = straight_parts_are_fine.printed keep held free formula;
        few = straight_parts_cost.printed t keep held free formula;
        leaves = subst (Leaves p free (printed result (one_more m)) f) (sym acts)
            (subst (λ z. Leaves p free (printed z (one_more m)) f (after_instr t.code (Print r) end)) end_gives
            (printed_leaves t.code p free (one_more m) f end end_leaves free_ones r));
        count = refl;
        sizes = print_sizes p result (one_more m) (next_sizes p m w.sizes);
        values = print_values result (one_more m) result_is_value (next_values m w.values);
      }

  pub print_follows : Stand t place (Mark line ∷ say) → IsCalm t.code (place + length (Mark line ∷ say)) →
      Leads t spent held (still held formula) (events.begun t.bound m (Runs (nesting formula) false None (formulas.reads formula) ∷ []))
      (Passes p t free (still held formula) (place + length (Mark line ∷ say)) m f) (print p t.bound line e m)
  print_follows stand calm =
      let es = Runs (nesting formula) false None (formulas.reads formula) ∷ [] in
      let goes = λ (n : ℕ) (v : ℤ) (k : State).
      Passes p t free (still held formula) (place + length (Mark line ∷ say)) m f n tt (printed v k) in
      let s = seen p (one_more m) in
      leads_after t spent held (still held formula) (events.begun t.bound m es) goes
      (Passes p t free (still held formula) (place + length (Mark line ∷ say)) m f) (found p t.bound line e m) (λ v m. tt)
      (λ v m. printed v m)
      (evaluates_by t line say held (still held formula) m place spent f
      (may_begin p t of free line say held (still held formula) m place spent f w (evaluating t formula)
      (printed result (one_more m)) is_said
      stand calm) spent held (still held formula) refl es (λ m. attempt (seen p m) e [])
      (record { steps = steps s (term_of e); value = result }) goes (whole_expressions s e [])
      (sole_notes p t of keep free line free_ones held m place spent f w e named (Print r ∷ [])
      (printed_notes t.code p free (one_more m) f end end_leaves free_ones r))
      (λ below g h. (
        run_holds held formula,
        (
          g,
          passed_since p t free (still held formula) (place + length (Mark line ∷ say)) m f _ (printed result (one_more m)) g
              (part_passed p t of free line say held (still held formula) m place spent f w (evaluating t formula)
              (printed result (one_more m)) is_said below g h _
              (let l = run_spends t held formula in omega (arith, l))),
        ),
      )))
      (λ n v k x. x)
