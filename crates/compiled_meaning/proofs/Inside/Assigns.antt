-- Assignments inside pardo are followed.
use Rattle.std.proofs.Common.{◌≡◌, ℕ, zero, suc, ◌+◌, ◌<◌, ◌≤◌, max, List, [], ◌∷◌, ◌++◌, length, Bool, true, false, not, ◌&&◌}
use Rattle.std.proofs.Common.{Result, Ok, None, refl, sym, ap, ◌∙◌, subst, arith}
use Rattle.std.proofs.Common.{append-nil, length-append}
use Rattle.std.specs.Prelude.{if◌then◌else◌}
use Rattle.write_rules.specs.declared.fault.Fault.{Fault}
use Rattle.superstep_instructions.specs.declared.instr.Side.TheVariants.{Private}
use Rattle.superstep_instructions.specs.declared.instr.Instr.TheVariants.{Mark, Copy}
use Rattle.superstep_machine.specs.Keys.{least}
use Rattle.pram_tokens.specs.declared.token.Location.{Location}
use Rattle.pram_names.specs.declared.body.Expression.{Expression}
use Rattle.pram_names.specs.declared.body.Step as step
use Rattle.pram_names.specs.declared.body.StepTarget.{StepTarget}
use Rattle.pram_names.specs.declared.body.StepTarget.TheVariants as inner
use Rattle.pram_check.specs.Checked.{Checked}
use Rattle.pram_check.specs.Bounded as bounded
use Rattle.pram_check.specs.Bounded.{IsInnerAssign, names_of, with_locals}
use Rattle.pram_meaning.specs.Attempt.{attempt_step}
use Rattle.pram_meaning.specs.Bounded.{Done, Goes, Reaches, then_do, valued, assign_on, attempted_on, perform_on}
use Rattle.pram_meaning.specs.Conflict.{Part}
use Rattle.pram_meaning.specs.Store.{State, seen_by}
use Rattle.pram_meaning.specs.Together.{assigned_by, parts, together}
use Rattle.pram_meaning.specs.Values.{ComesToValues, HasValues, IsValue}
use Rattle.pram_meaning.proofs.ValuesKept.{steps_keep_values}
use Rattle.flat_machine.specs.Flat.{Flat}
use Rattle.flat_stretches.specs.Along.{Run}
use Rattle.flat_stretches.specs.Folds.{Stand}
use Rattle.flat_stretches.specs.Frames.{Frame, present}
use Rattle.flat_stretches.specs.Tells.{IsCalm}
use Rattle.flat_stretches.proofs.Joins.{stands_split}
use Rattle.flat_stretches.proofs.Tells.{notes_nothing}
use Rattle.statement_evaluation.specs.Terms.{Gets, Writes, term_of, inner_assignment}
use Rattle.statement_evaluation.specs.Whole.{value}
use Rattle.statement_evaluation.specs.Rows.{cut_parts}
use Rattle.statement_evaluation.proofs.Attempts.{assignment_parts}
use Rattle.statement_evaluation.proofs.Effects.{locals_are_values}
use Rattle.plain_form.specs.Inside as inside
use Rattle.plain_form.specs.Formulas.{Formula, Zero, Pair, formula_of, nesting}
use Rattle.plain_form.specs.Registers.{local, behind_locals}
use Rattle.plain_form.specs.Shapes as shapes
use Rattle.plain_form.specs.Shapes.{flush, gets, has_reads, still, waits, writes}
use Rattle.verified_form.specs.Straight.{getting, writing}
use Rattle.verified_form.proofs.Fine.{straight_parts_are_fine}
use Rattle.verified_form.proofs.Straight.{marks_come_first}
use Rattle.compiled_formulas.specs.Environments.{IsNamed}
use Rattle.compiled_formulas.specs.Headings.{heading_of}
use Rattle.compiled_formulas.specs.Tasks.{IsSingle}
use Rattle.compiled_formulas.specs.Terms.{term}
use Rattle.compiled_formulas.proofs.Tasks.{expressions_are_single}
use Rattle.compiled_formulas.proofs.Terms.{expressions_are_terms, expressions_are_named}
use Rattle.std.specs.Prelude.{Some}
use Rattle.exchange_bound.specs.Bound.{one_if}
use Rattle.exchange_bound.specs.Events.{Event, Runs, begun, levels, reads, step_events}
use Rattle.plain_form.specs.Formulas as formulas
use Rattle.exchange_bound.specs.Spent as events
use Rattle.compiled_meaning.specs.Paid.{evaluating_on, writes_weigh}
use Rattle.compiled_meaning.specs.Paid as paid
use Rattle.compiled_meaning.specs.Between.{IsRunOf}
use Rattle.compiled_meaning.specs.Follows.{Follows}
use Rattle.compiled_meaning.proofs.EachStatement.Costs.{straight_parts_cost}
use Rattle.compiled_meaning.proofs.EachStatement.Places.{ready_to_write}
use Rattle.compiled_meaning.proofs.EachStatement.Valued.{value_is}
use Rattle.compiled_meaning.specs.Steps.{GoesWithin}
use Rattle.compiled_meaning.specs.Within.{IsWithin}
use Rattle.compiled_meaning.proofs.Inside.Attempted.{one_more, attempted}
use Rattle.compiled_meaning.proofs.Inside.Evaluated.{marked, end, names, register, tells, apart}
use Rattle.compiled_meaning.proofs.Inside.Locals as local_values
use Rattle.compiled_meaning.proofs.Inside.Parts.{Followed, behind_nothing, within_seen}
use Rattle.compiled_meaning.proofs.Inside.Passed.{passed, goes_from}
use Rattle.compiled_meaning.proofs.Inside.Seen.{sees_values}
use Rattle.compiled_meaning.proofs.Inside.Writes as set_writes
use Rattle.std.proofs.lemmas.Bool.{lt-ltb}

-- ---- exchanges

-- a write that has to go before another one, by whether it can wait for reads
sent_first : (held : Bool) (n : ℕ) → one_if (held && not (shapes.any_level n)) ≡ one_if (held && true && not (events.any_level n))
sent_first true zero = refl
sent_first true (suc n) = refl
sent_first false zero = refl
sent_first false (suc n) = refl

either_goes : (held some : Bool) → one_if (held && not some) + one_if (held && some) ≤ one_if held
either_goes true true = omega arith
either_goes true false = omega arith
either_goes false some = omega arith

module _ (p : Checked) (t : Run) (of : IsRunOf p t) (locals base vote : ℕ) (free : behind_locals locals ≤ base) (fr : Frame) (held : Bool)
    (m : State) (place spent : ℕ) (f : Flat) (w : IsWithin p t locals base fr held m place spent f) (here : Location) (keep : Bool) where
  -- an assignment that is made keeps to values of 64 bits
  values_behind : (x : StepTarget) (e : Expression) → IsInnerAssign (with_locals locals (names_of p)) x e → (xs : List Part) →
      parts p m (λ s. attempt_step s x e) (present fr) ≡ xs → m.count < t.bound → together p here.line xs ≡ Ok xs →
      HasValues (assigned_by p x xs (one_more m))
  values_behind x e named xs same l okay =
      subst ComesToValues performed
      (steps_keep_values p t.bound (with_locals locals (names_of p)) (step.Assign here x e) (present fr) m named w.values)
    where
      performed : perform_on p t.bound (step.Assign here x e) (present fr) m ≡ Goes tt (assigned_by p x xs (one_more m))
      performed =
          (λ i. then_do
          (then_do (let d : Done = if lt-ltb m.count t.bound l i then Goes tt (one_more m) else Reaches m.output in d)
          (λ u now. valued (together p here.line (parts p now (λ s. attempt_step s x e) (present fr))) now))
          (λ ys now. Goes tt (assigned_by p x ys now)))
          ∙ ap (λ (r : Result (List Part) Fault). then_do (valued r (one_more m)) (λ ys now. Goes tt (assigned_by p x ys now)))
          (ap (together p here.line) same ∙ okay)

  -- ---- a local

  local_followed : (x : ℕ) (e : Expression) → IsInnerAssign (with_locals locals (names_of p)) (inner.Local x) e →
      Stand t place (gets keep held here.line Private base (formula_of e) (local x)) →
      IsCalm t.code (place + length (gets keep held here.line Private base (formula_of e) (local x))) →
      Followed p t locals base vote fr held (still held (formula_of e)) (gets keep held here.line Private base (formula_of e) (local x))
      place spent
      f (begun t.bound m (Runs (max 0 (levels e)) false (Some (length (present fr))) (0 + reads e) ∷ []))
      (assign_on p t.bound here.line (inner.Local x) e (present fr) m)
  local_followed x e named stand calm =
      let stretch = getting keep held Private base (formula_of e) (local x) in
      let es = Runs (max 0 (levels e)) false (Some (length (present fr))) (0 + reads e) ∷ [] in
      let goes = λ (ys : List Event). GoesWithin p t locals base vote fr (still held (formula_of e))
      (place + length (Mark here.line ∷ stretch)) (spent + paid.spent t ys held) f in
      let a = attempted_on p t.bound here.line (λ s. attempt_step s (inner.Local x) e) (present fr) m in
      let fine = straight_parts_are_fine in
      let cost = straight_parts_cost in
      let shown = w.shows in
      let leaves = local_values.leaves_copied p t of locals base free fr held m place spent f w here.line e named.1.0 keep x named.0 vote in
      let none = leaves.shows in
      let empty = none.rests in
      let last = end p t of locals base free fr held m place spent f w here.line (formula_of e)
      (names p t of locals base free fr held m place spent f w here.line e named.1.0) in
      let r = register p t of locals base free fr held m place spent f w here.line e named.1.0 in
      let xs = cut_parts p m (Gets (term_of e)) (present fr) in
      let h = heading_of (marked p t of locals base free fr held m place spent f w here.line) in
      subst (λ ys. Follows t spent held ys (goes ys) (then_do a (λ xs now. Goes tt (assigned_by p (inner.Local x) xs now))))
      (ap (λ ys. begun t.bound m es ++ ys) (behind_nothing a) ∙ append-nil (begun t.bound m es))
      (attempted p t here.line stretch held (still held (formula_of e)) m place spent f w.between (Gets (term_of e)) (present fr)
      held spent es goes
      (λ xs now. Goes tt (assigned_by p (inner.Local x) xs now)) (λ xs now. []) (λ s. attempt_step s (inner.Local x) e)
      (assignment_parts p m (inner.Local x) e (present fr))
      (record {
        formed = of.formed;
        rests = shown.rests;
        stand = stand;
        fine = fine.got keep held Private base (formula_of e) (local x);
        none = empty.asks;
        calm = subst (IsCalm t.code) (let n : place + length (Mark here.line ∷ stretch) ≡ place + 1 + length stretch = omega arith in n)
            calm;
        apart = apart p t of locals base free fr held m place spent f w here.line (Gets (term_of e));
        tells = tells p t of locals base free fr held m place spent f w here.line e named.1.0 keep held (Copy Private (local x) r ∷ [])
            (ap (λ o. least o None) (notes_nothing t.code (Copy Private (local x) r) refl last));
        few = omega arith;
      })
      (λ l g passes ok okay.
      let team = locals_are_values h p m (term_of e) (present fr) ok x m.team in
      let now : local_values.with_values p t of locals base free fr held m place spent f w here.line e named.1.0 keep x named.0
      ≡ assigned_by p (inner.Local x) xs (one_more m) = ap (λ y. let s : State = record (one_more m) { team = y } in s) (sym team) in
      goes_from p t locals base vote fr (still held (formula_of e)) (place + 1 + length stretch) (place + length (Mark here.line ∷ stretch))
      (spent + paid.spent t es held) (spent + paid.spent t es held) f f _ (omega arith) (omega arith) (λ r k. refl)
      (subst (GoesWithin p t locals base vote fr (still held (formula_of e)) (place + 1 + length stretch) (spent + paid.spent t es held)
      f) now
      (passed p t locals base base vote fr fr held (still held (formula_of e)) m place spent f w here.line stretch _
      (evaluating_on t (length (present fr)) (formula_of e))
      (spent + paid.spent t es held) (cost.got_on t (length (present fr)) keep held base (formula_of e) (local x)) (omega arith) l g
      passes leaves
      (local_values.next_copied p t of locals base free fr held m place spent f w here.line e named.1.0 keep x named.0
      (subst HasValues (sym now)
      (values_behind (inner.Local x) e named xs (assignment_parts p m (inner.Local x) e (present fr)) l okay))))))
      )

  -- ---- a write

  module _ (x : StepTarget) (e : Expression) (entry : ℕ) (d c : Formula) (named : IsNamed (with_locals locals (names_of p)) (Pair d c))
      (sd : IsSingle d) (sc : IsSingle c) (values : (v : ℕ) → IsValue (value (seen_by p m v) (term c)))
      (task : inner_assignment x e ≡ Writes entry (term d) (term c)) (bound : IsInnerAssign (with_locals locals (names_of p)) x e)
      (effect : (xs : List Part) (now : State) → assigned_by p x xs now ≡ assigned_by p (inner.Cell entry) xs now) where
    write_followed : Stand t place (writes keep held here.line Private base entry d c) →
        IsCalm t.code (place + length (writes keep held here.line Private base entry d c)) →
        Followed p t locals base vote fr held true (writes keep held here.line Private base entry d c) place spent
        f (begun t.bound m (Runs (nesting (Pair d c)) true (Some (length (present fr))) (formulas.reads (Pair d c)) ∷ []))
        (assign_on p t.bound here.line x e (present fr) m)
    write_followed stand calm =
        let both = Pair d c in
        let marks = marks_come_first in
        let waiting = waits held both in
        let first = flush (still held both) in
        let stretch = writing keep waiting Private base entry d c in
        let is = marks.writes keep held here.line Private base entry d c in
        let halves = stands_split t place first (Mark here.line ∷ stretch) (subst (Stand t place) is stand) in
        let shown = w.shows in
        let ready = ready_to_write t held (has_reads both) m place spent f w.between shown.rests halves.0 in
        let g = ready.behind in
        let at = place + length first in
        let by = spent + one_if (still held both) in
        let now = within_seen p t locals base fr held waiting m place at spent by f g w ready.between ready.seen in
        let shown_now = now.shows in
        let es = Runs (nesting both) true (Some (length (present fr))) (formulas.reads both) ∷ [] in
        let goes = λ (ys : List Event). GoesWithin p t locals base vote fr true
        (place + length (writes keep held here.line Private base entry d c))
        (spent + paid.spent t ys held) f in
        let a = attempted_on p t.bound here.line (λ s. attempt_step s x e) (present fr) m in
        let fine = straight_parts_are_fine in
        let cost = straight_parts_cost in
        let same_parts = assignment_parts p m x e (present fr) ∙ ap (λ k. cut_parts p m k (present fr)) task in
        let xs = cut_parts p m (Writes entry (term d) (term c)) (present fr) in
        let count = length-append first (Mark here.line ∷ stretch) in
        let whole : length (writes keep held here.line Private base entry d c) ≡ length (first ++ Mark here.line ∷ stretch) =
        ap length is in
        let few = either_goes held (has_reads both) in
        let goes_first : one_if (still held both) ≡ one_if (held && true && not (events.any_level (nesting both))) =
        sent_first held (nesting both) in
        subst (λ ys. Follows t spent held ys (goes ys) (then_do a (λ xs now. Goes tt (assigned_by p x xs now))))
        (ap (λ ys. begun t.bound m es ++ ys) (behind_nothing a) ∙ append-nil (begun t.bound m es))
        (attempted p t here.line stretch waiting true m at by g now.between (Writes entry (term d) (term c)) (present fr) held spent es goes
        (λ xs now. Goes tt (assigned_by p x xs now)) (λ xs now. []) (λ s. attempt_step s x e) same_parts
        (record {
          formed = of.formed;
          rests = shown_now.rests;
          stand = halves.1;
          fine = fine.written keep held Private base entry d c;
          none = set_writes.rests_written p t of locals base free fr waiting m at by g now here.line entry d c named sd sc values keep;
          calm = subst (IsCalm t.code)
              (let n : place + length (writes keep held here.line Private base entry d c) ≡ at + 1 + length stretch =
              omega (arith, count, whole) in n)
              calm;
          apart = apart p t of locals base free fr waiting m at by g now here.line (Writes entry (term d) (term c));
          tells = set_writes.tells_written p t of locals base free fr waiting m at by g now here.line entry d c named sd sc values keep;
          few = omega (arith, few);
        })
        (λ l after passes ok okay.
        let cells = set_writes.with_cells p t of locals base free fr waiting m at by g now here.line entry d c named sd sc values keep in
        let leaves = set_writes.leaves_written p t of locals base free fr waiting m at by g now here.line entry d c named sd sc values
        keep ok vote in
        goes_from p t locals base vote fr true (at + 1 + length stretch)
        (place + length (writes keep held here.line Private base entry d c))
        (spent + paid.spent t es held) (spent + paid.spent t es held) f g (assigned_by p x xs (one_more m)) (omega (arith, count, whole))
        (omega arith)
        (λ r k. ap (λ (y : Flat). y.uniform.registers r) ready.seen)
        (subst (GoesWithin p t locals base vote fr true (at + 1 + length stretch) (spent + paid.spent t es held) g)
        (sym (effect xs (one_more m)))
        (passed p t locals base base vote fr fr waiting true m at by g now here.line stretch cells
        (evaluating_on t (length (present fr)) both + writes_weigh t (length (present fr)))
        (spent + paid.spent t es held) (cost.written_on t (length (present fr)) keep waiting base entry d c) (omega (arith, goes_first))
        l after passes leaves
        (set_writes.next_written p t of locals base free fr waiting m at by g now here.line entry d c named sd sc values keep
        (subst HasValues (effect xs (one_more m)) (values_behind x e bound xs same_parts l okay))))))
        )

  -- ---- each of them

  -- a value of an expression has 64 bits
  values_are : (e : Expression) → bounded.IsNamed (with_locals locals (names_of p)) e → (v : ℕ) →
      IsValue (value (seen_by p m v) (term (formula_of e)))
  values_are e named v =
      subst (λ k. IsValue (value (seen_by p m v) k)) (sym (expressions_are_terms e))
      (value_is (with_locals locals (names_of p)) (seen_by p m v) (sees_values p m v w.values) e named)

  pub assign_followed : (x : StepTarget) (e : Expression) → IsInnerAssign (with_locals locals (names_of p)) x e → (vote_register : ℕ) →
      Stand t place (inside.inner_assign (record { keep = keep; vote = vote_register }) held here.line base x (formula_of e)) →
      IsCalm t.code (place + length (inside.inner_assign (record { keep = keep; vote = vote_register }) held here.line base x
      (formula_of e))) →
      Followed p t locals base vote fr held (inside.inner_assign_left held x (formula_of e))
      (inside.inner_assign (record { keep = keep; vote = vote_register }) held here.line base x (formula_of e)) place spent f
      (step_events p t.bound (step.Assign here x e) (present fr) m) (perform_on p t.bound (step.Assign here x e) (present fr) m)
  assign_followed (inner.Local x) e named n stand calm = local_followed x e named stand calm
  assign_followed (inner.Cell a) e named n stand calm =
      write_followed (inner.Cell a) e a Zero (formula_of e)
      (tt, expressions_are_named (with_locals locals (names_of p)) e named.1.0) tt (expressions_are_single e) (values_are e named.1.0)
      (ap (Writes a (term Zero)) (sym (expressions_are_terms e))) named (λ xs now. refl) stand calm
  assign_followed (inner.Element a i) e named n stand calm =
      write_followed (inner.Element a i) e a (formula_of i) (formula_of e) (
        expressions_are_named (with_locals locals (names_of p)) i named.1.0,
        expressions_are_named (with_locals locals (names_of p)) e
            named.1.1,
      )
      (expressions_are_single i) (expressions_are_single e) (values_are e named.1.1)
      (sym (λ k. Writes a (expressions_are_terms i k) (expressions_are_terms e k))) named (λ xs now. refl) stand calm
