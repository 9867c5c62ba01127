-- Assignments outside pardo: the run is led along them.
use Rattle.std.proofs.Common.{◌≡◌, ℕ, ◌+◌, ◌≤◌, List, [], ◌∷◌, ◌++◌, length, max, Bool, true, false, refl, sym, ap, ◌∙◌, subst, arith}
use Rattle.pram_tokens.specs.declared.token.Location.{Location}
use Rattle.superstep_instructions.specs.declared.instr.Side.TheVariants.{Uniform}
use Rattle.superstep_instructions.specs.declared.instr.Instr.{Instr}
use Rattle.superstep_instructions.specs.declared.instr.Instr.TheVariants.{Mark}
use Rattle.pram_names.specs.declared.body.Expression.{Expression}
use Rattle.pram_names.specs.declared.body.Statement.{Assign}
use Rattle.pram_names.specs.declared.body.Target.{Target}
use Rattle.pram_names.specs.declared.body.Target.TheVariants as target
use Rattle.pram_check.specs.Checked.{Checked}
use Rattle.pram_check.specs.Bounded.{IsNamed, IsAssign, names_of}
use Rattle.pram_meaning.specs.Attempt.{attempt_assign}
use Rattle.pram_meaning.specs.Store.{State, seen}
use Rattle.pram_meaning.specs.Together.{after_write}
use Rattle.pram_meaning.specs.Bounded.{Goes, then_do, evaluated, assign, perform}
use Rattle.flat_stretches.specs.Along.{Run}
use Rattle.flat_stretches.specs.Folds.{Stand}
use Rattle.flat_stretches.specs.Tells.{IsCalm}
use Rattle.statement_evaluation.specs.Terms.{Writes, term_of}
use Rattle.statement_evaluation.specs.Whole.{whole, cut}
use Rattle.statement_evaluation.proofs.Attempts.{whole_assignments}
use Rattle.plain_form.specs.Formulas.{Formula, Zero, Pair, formula_of, nesting}
use Rattle.plain_form.specs.Outside.{code, left}
use Rattle.plain_form.specs.Registers.{behind_variables}
use Rattle.plain_form.specs.Shapes as shapes
use Rattle.plain_form.specs.Shapes.{flush, sent, still, waits, chosen, looped, turned}
use Rattle.verified_form.specs.Straight.{writing}
use Rattle.verified_form.proofs.Straight.{marks_come_first}
use Rattle.compiled_formulas.specs.Environments as environments
use Rattle.compiled_formulas.specs.Tasks.{IsSingle}
use Rattle.compiled_formulas.specs.Terms.{term}
use Rattle.compiled_formulas.proofs.Tasks.{expressions_are_single}
use Rattle.compiled_formulas.proofs.Terms.{expressions_are_terms, expressions_are_named}
use Rattle.plain_form.specs.Formulas as formulas
use Rattle.std.specs.Prelude.{None}
use Rattle.exchange_bound.specs.Events as events
use Rattle.exchange_bound.specs.Events.{Event, Runs, Cut, behind, row_events, list_events, turns_events, for_events}
use Rattle.compiled_meaning.specs.Between.{IsRunOf}
use Rattle.compiled_meaning.proofs.Outside.Assigns.{variable_follows}
use Rattle.compiled_meaning.proofs.Outside.Leads.{Leads}
use Rattle.compiled_meaning.proofs.Inside.Attempted.{one_more}
use Rattle.compiled_meaning.proofs.Outside.Passed.{Passes}
use Rattle.compiled_meaning.proofs.Outside.Writing.{write_follows}
use Rattle.compiled_meaning.proofs.Outside.Led.{IsLed}

module _ (p : Checked) (t : Run) (of : IsRunOf p t) (keep : Bool) where
  write_leads : (free : ℕ) → behind_variables p.uniforms ≤ free → (line entry : ℕ) (d : Formula) → environments.IsNamed (names_of p) d →
      IsSingle d → (e : Expression) → IsNamed (names_of p) e → (x : Target) → (held : Bool) (place : ℕ) →
      ((m : State) → attempt_assign (seen p m) x e ≡ cut (whole (seen p m) (Writes entry (term d) (term_of e)))) →
      ((m : State) → assign p t.bound line x e m ≡ then_do (evaluated t.bound line (λ m. attempt_assign (seen p m) x e) m) (λ g m.
      Goes tt (after_write g.cell g.value m))) →
      IsLed p t free held true place (shapes.writes keep held line Uniform free entry d (formula_of e)) (assign p t.bound line x e)
      (λ m. events.begun t.bound m (Runs (nesting (Pair d (formula_of e))) true None (formulas.reads (Pair d (formula_of e))) ∷ []))
  write_leads free free_ones line entry d named single e e_named x held place whole_is same m spent f w stand calm =
      let is = flush (still held (Pair d (formula_of e)))
      ++ Mark line ∷ writing keep (waits held (Pair d (formula_of e))) Uniform free entry d (formula_of e) in
      let here = marks_come_first.writes keep held line Uniform free entry d (formula_of e) in
      subst (λ (ys : List Instr). Stand t place ys → IsCalm t.code (place + length ys) →
      Leads t spent held true (events.begun t.bound m (Runs (nesting (Pair d (formula_of e))) true None
      (formulas.reads (Pair d (formula_of e))) ∷ []))
      (Passes p t free true (place + length ys) m f) (assign p t.bound line x e m)) (sym here)
      (λ stand calm.
      subst (Leads t spent held true (events.begun t.bound m (Runs (nesting (Pair d (formula_of e))) true None
      (formulas.reads (Pair d (formula_of e))) ∷ []))
      (Passes p t free true (place + length is) m f)) (sym (same m))
      (write_follows p t of keep free line free_ones m entry d named single e e_named held place spent f w
      (λ m. attempt_assign (seen p m) x e) (whole_is (one_more m)) stand calm)) stand calm

  pub assign_leads : (free : ℕ) → behind_variables p.uniforms ≤ free → (here : Location) (x : Target) (e : Expression) →
      IsAssign (names_of p) x e →
      (held : Bool) (place : ℕ) →
      IsLed p t free held (left held (Assign here x e)) place (code keep free place held (Assign here x e))
      (perform p t.bound (Assign here x e))
      (events.events p t.bound (Assign here x e))
  assign_leads free free_ones here (target.Uniform x) e h held place =
      λ m spent f w stand calm.
      let n = nesting (formula_of e) in
      let r = formulas.reads (formula_of e) in
      subst (λ k. Leads t spent held (still held (formula_of e)) (events.begun t.bound m (Runs (max 0 n) false None k ∷ []))
      (Passes p t free (still held (formula_of e)) (place + length (code keep free place held (Assign here (target.Uniform x) e))) m f)
      (assign p t.bound here.line (target.Uniform x) e m))
      (let k : r ≡ 0 + r = omega arith in k)
      (subst (λ k. Leads t spent held (still held (formula_of e)) (events.begun t.bound m (Runs k false None r ∷ []))
      (Passes p t free (still held (formula_of e)) (place + length (code keep free place held (Assign here (target.Uniform x) e))) m f)
      (assign p t.bound here.line (target.Uniform x) e m))
      (let k : n ≡ max 0 n = omega arith in k)
      (variable_follows p t of keep free here.line free_ones held m place spent f w e h.1.0 x h.0 stand calm))
  assign_leads free free_ones here (target.Cell a) e h held place =
      write_leads free free_ones here.line a Zero tt tt e h.1.0 (target.Cell a) held place
      (λ m. whole_assignments (seen p m) (target.Cell a) e)
      (λ m. refl)
  assign_leads free free_ones here (target.Element a i) e h held place =
      write_leads free free_ones here.line a (formula_of i) (expressions_are_named (names_of p) i h.1.0) (expressions_are_single i) e h.1.1
      (target.Element a i) held place
      (λ m. whole_assignments (seen p m) (target.Element a i) e
      ∙ ap (λ k. cut (whole (seen p m) (Writes a k (term_of e)))) (sym (expressions_are_terms i))) (λ m. refl)
