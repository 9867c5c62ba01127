-- The test of an `if`, behind which what is held is sent, and that of a loop: the run follows them, and a register has the value.
use Rattle.std.proofs.Common.{◌≡◌, ℕ, ◌+◌, ◌≤◌, List, [], ◌∷◌, ◌++◌, length, Bool, false, None, ℤ, refl, sym, ap, ◌∙◌, subst, arith}
use Rattle.std.proofs.Common.{append-nil}
use Rattle.pram_values.specs.Truth.{is_nonzero}
use Rattle.superstep_instructions.specs.declared.instr.Side.TheVariants.{Uniform}
use Rattle.superstep_instructions.specs.declared.instr.Instr.{Instr}
use Rattle.superstep_instructions.specs.declared.instr.Instr.TheVariants.{Mark}
use Rattle.pram_names.specs.declared.body.Expression.{Expression}
use Rattle.pram_check.specs.Checked.{Checked}
use Rattle.pram_check.specs.Bounded as bounded
use Rattle.pram_check.specs.Bounded.{names_of}
use Rattle.pram_meaning.specs.Attempt.{attempt}
use Rattle.pram_meaning.specs.Store.{State, seen}
use Rattle.pram_meaning.specs.Bounded.{found, tested}
use Rattle.flat_machine.specs.Flat.{Flat}
use Rattle.flat_stretches.specs.Along.{Run}
use Rattle.flat_stretches.specs.Folds.{Stand, acts_at_once, IsFine}
use Rattle.flat_stretches.specs.Notes.{notes}
use Rattle.flat_stretches.specs.Tells.{IsCalm}
use Rattle.statement_evaluation.specs.Terms.{term_of}
use Rattle.statement_evaluation.specs.Whole.{value, steps}
use Rattle.statement_evaluation.proofs.Attempts.{whole_expressions}
use Rattle.plain_form.specs.Registers.{behind_variables}
use Rattle.plain_form.specs.Formulas.{Formula, formula_of, nesting}
use Rattle.plain_form.specs.Groups.{value_at}
use Rattle.plain_form.specs.Shapes.{flush, still}
use Rattle.verified_form.specs.Straight.{evaluation, testing}
use Rattle.verified_form.proofs.Fine.{straight_parts_are_fine}
use Rattle.plain_form.specs.Formulas as formulas
use Rattle.exchange_bound.specs.Events as events
use Rattle.exchange_bound.specs.Events.{Event, Runs, Cut}
use Rattle.exchange_bound.specs.Bound.{one_if}
use Rattle.compiled_meaning.specs.Paid.{evaluating}
use Rattle.compiled_meaning.specs.Paid as paid
use Rattle.exchange_bound.specs.Spent.{held_behind}
use Rattle.compiled_meaning.specs.Between.{IsRunOf}
use Rattle.compiled_meaning.specs.Begins.{done}
use Rattle.compiled_meaning.specs.Costs.{Costs}
use Rattle.compiled_meaning.proofs.EachStatement.Costs.{straight_parts_cost}
use Rattle.compiled_meaning.specs.Without.{IsWithout}
use Rattle.compiled_meaning.proofs.Outside.Leads.{Leads, leads_after}
use Rattle.compiled_meaning.proofs.Outside.Passed.{IsPassed}
use Rattle.compiled_meaning.proofs.Inside.Attempted.{one_more}
use Rattle.compiled_meaning.proofs.Outside.OneStatement.{evaluates_by}
use Rattle.compiled_meaning.proofs.Outside.Evaluated.{Leaves}
use Rattle.compiled_meaning.proofs.Outside.Also.{sent_acts, sent_notes}
use Rattle.compiled_meaning.proofs.Outside.Sole.{there, there_leaves, there_gives, sole_acts, sole_notes}
use Rattle.compiled_meaning.proofs.Outside.Spending.{cut_spends, test_spends}
use Rattle.compiled_meaning.proofs.Outside.Straight.{IsStraight, may_begin, part_passed, seen_register}
use Rattle.compiled_meaning.proofs.Outside.Values.{next_values, next_sizes}

-- the run is behind a test that came out so
abbrev pub Tests : Checked → Run → (free register place : ℕ) → State → Flat → ℕ → Bool → State → Type 0
Tests p t free register place start f spent b m =
    (g : Flat) × IsPassed p t free false place (one_more start) f spent m g × (is_nonzero (g.uniform.registers register) ≡ b)

module _ (p : Checked) (t : Run) (of : IsRunOf p t) (keep : Bool) (free line : ℕ) (free_ones : behind_variables p.uniforms ≤ free)
    (held : Bool)
    (m : State) (place spent : ℕ) (f : Flat) (w : IsWithout p t held m place spent f) (e : Expression)
    (named : bounded.IsNamed (names_of p) e) where
  abbrev formula : Formula
  formula = formula_of e

  abbrev result : ℤ
  result = value (seen p m) (term_of e)

  abbrev r : ℕ
  r = value_at Uniform free formula

  abbrev end : Flat
  end = there p t of keep free line free_ones held m place spent f w e named

  end_leaves : Leaves p free (one_more m) f end
  end_leaves = there_leaves p t of keep free line free_ones held m place spent f w e named

  -- any stretch that evaluates it, and then sends what is held, or nothing
  module _ (some : Bool) (cost : ℕ) (fine : IsFine held (evaluation keep held Uniform free formula ++ flush some) false)
      (few : Costs t held (evaluation keep held Uniform free formula ++ flush some) cost) where
    abbrev test : List Instr
    test = evaluation keep held Uniform free formula ++ flush some

    flush_acts : acts_at_once t.code (flush some) end ≡ end
    flush_acts =
        let l = end_leaves in
        ap (λ is. acts_at_once t.code is end) (sym (append-nil (flush some))) ∙ sent_acts t.code p (one_more m) end l.shows some []

    flush_notes : notes t.code (flush some) end ≡ None
    flush_notes =
        let l = end_leaves in
        ap (λ is. notes t.code is end) (sym (append-nil (flush some))) ∙ sent_notes t.code p (one_more m) end l.shows some []

    test_acts : done t.code line test f ≡ end
    test_acts = sole_acts p t of keep free line free_ones held m place spent f w e named (flush some) ∙ flush_acts

    is_tested : IsStraight p t free line test held false m f cost (one_more m)
    is_tested = record {
      fine = fine;
      few = few;
      leaves = subst (Leaves p free (one_more m) f) (sym test_acts) end_leaves;
      count = refl;
      sizes = next_sizes p m w.sizes;
      values = next_values m w.values;
    }

    -- by events that exchange as much, from where they are counted
    test_follows : (start : ℕ) (before : Bool) → spent + one_if held ≡ start + one_if before → (es : List Event) →
        held_behind es before ≡ false → spent + cost ≤ start + paid.spent t es before →
        Stand t place (Mark line ∷ test) → IsCalm t.code (place + length (Mark line ∷ test)) →
        Leads t start before false (events.begun t.bound m es) (Tests p t free r (place + length (Mark line ∷ test)) m f)
        (tested p t.bound line e m)
    test_follows start before same es none enough stand calm =
        let goes = λ (n : ℕ) (v : ℤ) (k : State). Tests p t free r (place + length (Mark line ∷ test)) m f n (is_nonzero v) k in
        let s = seen p (one_more m) in
        leads_after t start before false (events.begun t.bound m es) goes (Tests p t free r (place + length (Mark line ∷ test)) m f)
        (found p t.bound line e m) (λ v m. is_nonzero v) (λ v m. m)
        (evaluates_by t line test held false m place spent f
        (may_begin p t of free line test held false m place spent f w cost (one_more m) is_tested stand calm) start before false same es
        (λ m. attempt (seen p m) e []) (record { steps = steps s (term_of e); value = result }) goes (whole_expressions s e [])
        (sole_notes p t of keep free line free_ones held m place spent f w e named (flush some) flush_notes)
        (λ below g h. (
          none,
          (
            g,
            part_passed p t of free line test held false m place spent f w cost (one_more m) is_tested below g h _ enough,
            ap is_nonzero
                (seen_register p t of free line test held false m place spent f w cost (one_more m) is_tested below g h r
                ∙ ap (λ (x : Flat). x.uniform.registers r) test_acts
                ∙ there_gives p t of keep free line free_ones held m place spent f w e named),
          ),
        )))
        (λ n v k x. x)

  -- the test of an `if`
  pub branch_follows : Stand t place (Mark line ∷ testing keep held free formula) →
      IsCalm t.code (place + length (Mark line ∷ testing keep held free formula)) →
      Leads t spent held false (events.begun t.bound m (Runs (nesting formula) false None (formulas.reads formula) ∷ Cut ∷ []))
      (Tests p t free r (place + length (Mark line ∷ testing keep held free formula)) m f) (tested p t.bound line e m)
  branch_follows stand calm =
      let l = cut_spends t held formula in
      test_follows (still held formula) (evaluating t formula + one_if (still held formula))
      (straight_parts_are_fine.tested keep held free formula) (straight_parts_cost.tested t keep held free formula) spent held refl
      (Runs (nesting formula) false None (formulas.reads formula) ∷ Cut ∷ []) refl (omega (arith, l)) stand calm

-- the test of a loop, at whose head nothing is held: by events that begin with a cut
pub loop_test_follows : (p : Checked) (t : Run) → IsRunOf p t → (keep : Bool) (free line : ℕ) → behind_variables p.uniforms ≤ free →
    (held : Bool)
    (m : State) (place spent : ℕ) (f : Flat) → IsWithout p t false m place (spent + one_if held) f → (e : Expression) →
    bounded.IsNamed (names_of p) e → Stand t place (Mark line ∷ evaluation keep false Uniform free (formula_of e)) →
    IsCalm t.code (place + length (Mark line ∷ evaluation keep false Uniform free (formula_of e))) →
    Leads t spent held false (events.begun t.bound m (Cut ∷ Runs (nesting (formula_of e)) false None (formulas.reads (formula_of e)) ∷
    Cut ∷ []))
    (Tests p t free (value_at Uniform free (formula_of e))
    (place + length (Mark line ∷ evaluation keep false Uniform free (formula_of e))) m f)
    (tested p t.bound line e m)
loop_test_follows p t of keep free line free_ones held m place spent f w e named =
    subst (λ is. Stand t place (Mark line ∷ is) → IsCalm t.code (place + length (Mark line ∷ is)) →
    Leads t spent held false (events.begun t.bound m (Cut ∷ Runs (nesting (formula_of e)) false None (formulas.reads (formula_of e)) ∷
    Cut ∷ []))
    (Tests p t free (value_at Uniform free (formula_of e)) (place + length (Mark line ∷ is)) m f) (tested p t.bound line e m))
    (append-nil (evaluation keep false Uniform free (formula_of e)))
    (λ stand calm.
    let l = test_spends t held (formula_of e) in
    test_follows p t of keep free line free_ones false m place (spent + one_if held) f w e named false (evaluating t (formula_of e) + 0)
    (straight_parts_are_fine.tested keep false free (formula_of e)) (straight_parts_cost.tested t keep false free (formula_of e)) spent held
    (omega arith) (Cut ∷ Runs (nesting (formula_of e)) false None (formulas.reads (formula_of e)) ∷ Cut ∷ []) refl (omega (arith, l))
    stand calm)
