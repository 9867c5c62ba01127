-- The machine's write inside pardo notes and leaves what evaluation says.
use Rattle.std.proofs.Common.{◌≡◌, ℕ, ◌+◌, ◌<◌, List, [], ◌∷◌, Bool, true, false, if◌then◌else◌, Option, Some, None, ℤ, refl, sym, ap}
use Rattle.std.proofs.Common.{◌∙◌, subst, arith}
use Rattle.std.specs.List.{range_with_len}
use Rattle.pram_model.specs.declared.rule.Rule.{Rule}
use Rattle.pram_model.specs.Layout.{cell_of, total_size}
use Rattle.pram_values.specs.declared.place.Place.TheVariants.{Processor}
use Rattle.pram_values.specs.Total.{total}
use Rattle.pram_values.proofs.Totals.{total_same, total_map, total_within}
use Rattle.write_rules.specs.Combining.{AreWriters}
use Rattle.superstep_instructions.specs.declared.instr.Side.TheVariants.{Private}
use Rattle.superstep_instructions.specs.declared.instr.Instr.{Instr}
use Rattle.superstep_instructions.specs.declared.instr.Instr.TheVariants.{Put}
use Rattle.superstep_instructions.specs.Code.{SuperstepCode}
use Rattle.superstep_machine.specs.Keys.{least}
use Rattle.superstep_machine.specs.Results.{missing}
use Rattle.superstep_machine.specs.Sending.{join, verdict_on, settled, put_conflict}
use Rattle.superstep_machine.specs.Steps.{index_of, is_active, under, own_write, write_to}
use Rattle.superstep_machine.proofs.KeyOrder.{keys_are_monoid, none_least}
use Rattle.pram_check.specs.Checked.{Checked}
use Rattle.pram_meaning.specs.Store.{State, member_of, seen_by}
use Rattle.flat_machine.specs.Flat.{Flat, range, cells, noted, single_to, written}
use Rattle.flat_stretches.specs.Applied.{write_conflict}
use Rattle.flat_stretches.specs.Folds.{acts_at_once}
use Rattle.flat_stretches.proofs.Joins.{acts_at_once_join}
use Rattle.flat_stretches.proofs.Notes.{notes_join}
use Rattle.statement_evaluation.specs.Terms.{Writes}
use Rattle.statement_evaluation.specs.Whole.{value}
use Rattle.statement_evaluation.specs.Rows.{Row, row_of}
use Rattle.statement_evaluation.specs.Noted.{moment, note_key, verdict, writes_at, writes_noted}
use Rattle.statement_evaluation.specs.Effects.{entry_by, entry_at}
use Rattle.statement_evaluation.proofs.Effects.{entries_are_the_rule}
use Rattle.plain_form.specs.Formulas.{Formula, Pair, positions}
use Rattle.plain_form.specs.Groups.{evaluated, first_at, second_at}
use Rattle.compiled_formulas.specs.Terms.{term}
use Rattle.compiled_formulas.specs.Headings.{heading_of}
use Rattle.compiled_formulas.specs.Inside.{active_ones, MayEvaluateInside, IsEvaluatedInside}
use Rattle.compiled_formulas.specs.Tasks.{IsSingle}
use Rattle.compiled_formulas.specs.Writes.{write_code, write_rows, IsWrittenInside, WritesAreTasks}
use Rattle.compiled_formulas.proofs.UniformSteps.{fault_is}
use Rattle.compiled_formulas.proofs.LevelConflicts.{total_filter}
use Rattle.compiled_formulas.proofs.Inside.{formulas_are_evaluated_inside, pairs_are_evaluated_inside}
use Rattle.compiled_formulas.proofs.Writes.{missed, write_noted}

-- a processor's write to a cell, as evaluation has it
single_is : (rule : Rule) (c : ℕ) (i : ℤ) (cell : Option ℕ) (value : ℤ) →
    single_to rule c i (write_to cell value) ≡ entry_by rule c i cell value
single_is rule c i None value = refl
single_is rule c i (Some x) value = refl

if_written : (rule : Rule) (c : ℕ) (i : ℤ) (w : Option (ℕ × ℤ)) (b : Bool) →
    single_to rule c i (if b then w else None) ≡ (if b then single_to rule c i w else None)
if_written rule c i w true = refl
if_written rule c i w false = refl

module _ (code : SuperstepCode) (p : Checked) (locals : ℕ) (m : State) (base entry : ℕ) (d e : Formula) (f : Flat)
    (h : MayEvaluateInside code p locals m base (Pair d e) f) (sd : IsSingle d) (se : IsSingle e) where
  abbrev k : Flat
  k = acts_at_once code (evaluated Private base (Pair d e)) f

  abbrev vs : List ℕ
  vs = active_ones f

  abbrev put : Instr
  put = Put Private entry (first_at Private base d e) (second_at Private base d e) (positions d + positions e + 1)

  abbrev cell : ℕ → Option ℕ
  cell v = cell_of p.layout entry (value (seen_by p m v) (term d))

  abbrev index : ℕ → ℤ
  index v = (member_of m.team v).index

  done : IsEvaluatedInside code p locals m base (Pair d e) f
  done = formulas_are_evaluated_inside code p locals m base (Pair d e) f h

  heading : heading_of k ≡ heading_of f
  heading = let x = done in let l = x.left 0 in λ i. record { count = l.count i; line = l.line i }

  width : k.uniform.width ≡ f.uniform.width
  width = let x = done in let l = x.left 0 in l.width

  same_active : (v : ℕ) → is_active (k.own v) ≡ is_active (f.own v)
  same_active v = let x = done in ap under (x.masks v)

  same_index : (v : ℕ) → v < f.uniform.width → index_of k.uniform v ≡ index v
  same_index v w = let x = done in let s = x.shows in s.members v (subst (λ (n : ℕ). v < n) (sym width) w)

  same_cell : (v : ℕ) → v < f.uniform.width → is_active (f.own v) ≡ true →
      cell_of code.layout entry ((k.own v).registers (first_at Private base d e)) ≡ cell v
  same_cell v w a = let x = pairs_are_evaluated_inside code p locals m base d e f h v w a in λ i. cell_of (h.0 i) entry (x.0 i)

  same_value : (v : ℕ) → v < f.uniform.width → is_active (f.own v) ≡ true →
      (k.own v).registers (second_at Private base d e) ≡ value (seen_by p m v) (term e)
  same_value v w a = let x = pairs_are_evaluated_inside code p locals m base d e f h v w a in x.1

  -- a sum over the range of what active processors give is one over these
  over_active : {M : Type 0} (z : M) (op : M → M → M) → ((x : M) → op z x ≡ x) → (x y : ℕ → M) →
      ((v : ℕ) → v < f.uniform.width → is_active (f.own v) ≡ true → x v ≡ y v) →
      total z op (λ v. if is_active (k.own v) then x v else z) (range k) ≡ total z op y vs
  over_active {M} z op neutral x y same =
      (λ i. total z op (λ v. if same_active v i then x v else z) (range_with_len 0 (width i)))
      ∙ total_within z op (λ v. if is_active (f.own v) then x v else z) (λ v. if is_active (f.own v) then y v else z) f.uniform.width 0
      (λ v w. go v (omega (arith, w)) (is_active (f.own v)) refl)
      ∙ sym (total_filter z op neutral (λ v. is_active (f.own v)) y (range f))
    where
      go : (v : ℕ) → v < f.uniform.width → (b : Bool) → is_active (f.own v) ≡ b → (if b then x v else z) ≡ (if b then y v else z)
      go v w true a = same v w a
      go v w false a = refl

  put_noted : noted code put k ≡ missed p m entry d e sd se (heading_of f) vs
  put_noted =
      over_active None least keys_are_monoid.neutral _ (λ v. note_key (heading_of f) (positions d + positions e + 1) (Processor (index v))
      (missing (cell v)))
      (λ v w a. fault_is k.uniform (positions d + positions e + 1) (Processor (index_of k.uniform v)) _
      ∙ (λ i. note_key (heading i) (positions d + positions e + 1) (Processor (same_index v w i)) (missing (same_cell v w a i))))

  put_written : (c : ℕ) → written code put k c ≡ entry_at p.rule c (write_rows p m entry d e f)
  put_written c =
      let i = λ (v : ℕ). index_of k.uniform v in
      let w = λ (v : ℕ). write_to (cell_of code.layout entry ((k.own v).registers (first_at Private base d e)))
      ((k.own v).registers (second_at Private base d e)) in
      total_same None (join code.rule) (λ v. single_to code.rule c (i v) (own_write code put (k.own v)))
      (λ v. if is_active (k.own v) then single_to code.rule c (i v) (w v) else None)
      (λ v. if_written code.rule c (i v) (w v) (is_active (k.own v))) (range k)
      ∙ over_active None (join code.rule) (λ x. refl) (λ v. single_to code.rule c (i v) (w v))
      (λ v. entry_by code.rule c (index v) (cell v) (value (seen_by p m v) (term e)))
      (λ v l a. single_is code.rule c (i v) (cell_of code.layout entry ((k.own v).registers (first_at Private base d e)))
      ((k.own v).registers (second_at Private base d e))
      ∙ (λ z. entry_by code.rule c (same_index v l z) (same_cell v l a z) (same_value v l a z)))
      ∙ (λ z. total None (join (h.1 z)) (λ v. entry_by (h.1 z) c (index v) (cell v) (value (seen_by p m v) (term e))) vs)
      ∙ sym (total_map None (join p.rule) (λ (r : Row). entry_by p.rule c r.processor r.whole.value.cell r.whole.value.value)
      (row_of p m (Writes entry (term d) (term e))) vs)

  put_settled : ((c : ℕ) → AreWriters (writes_at c (write_rows p m entry d e f))) → (c : ℕ) →
      verdict_on code.rule (written code put k c) ≡ verdict p.rule (writes_at c (write_rows p m entry d e f))
  put_settled writers c =
      (λ i. verdict_on (h.1 i) (put_written c i)) ∙ entries_are_the_rule p.rule c (write_rows p m entry d e f) (writers c)

  put_conflicts : ((c : ℕ) → AreWriters (writes_at c (write_rows p m entry d e f))) →
      write_conflict code put k
      ≡ writes_noted (heading_of f) p.rule (total_size p.layout) (write_rows p m entry d e f) (positions d + positions e + 1)
  put_conflicts writers =
      let n = positions d + positions e + 1 in
      total_same None least (λ c. put_conflict (Some (moment (heading_of k) n)) c (verdict_on code.rule (written code put k c)))
      (λ c. put_conflict (Some (moment (heading_of f) n)) c (verdict p.rule (writes_at c (write_rows p m entry d e f))))
      (λ c i. put_conflict (Some (moment (heading i) n)) c (put_settled writers c i)) (cells code)
      ∙ (λ i. total None least
      (λ c. put_conflict (Some (moment (heading_of f) n)) c (verdict p.rule (writes_at c (write_rows p m entry d e f))))
      (range_with_len 0 (total_size (h.0 i))))

  pub is_written : ((c : ℕ) → AreWriters (writes_at c (write_rows p m entry d e f))) → IsWrittenInside code p m base entry d e f
  is_written writers =
      let x = done in
      let left = x.left 0 in
      let start = h.4 in
      let last : acts_at_once code (write_code Private base entry d e) f ≡ acts_at_once code (put ∷ []) k =
      acts_at_once_join code (evaluated Private base (Pair d e)) (put ∷ []) f in
      record {
        tells = notes_join code (evaluated Private base (Pair d e)) (put ∷ []) f
            ∙ (λ i. least (x.tells i)
            ((none_least (least (noted code put k) (write_conflict code put k)) ∙ (λ i. least (put_noted i) (put_conflicts writers i))) i))
            ∙ sym (write_noted p m entry d e sd se (heading_of f) vs p.rule);
        cells = λ c. ap (λ (g : Flat). g.memory c) last
            ∙ (λ i. settled (put_settled writers c i) ((left.memory c ∙ start.outside.cells c) i));
        uniform = ap (λ (g : Flat). g.uniform) last;
        own = ap (λ (g : Flat). g.own) last;
      }

pub writes_are_tasks : WritesAreTasks
writes_are_tasks code p locals m base entry d e f h sd se writers = is_written code p locals m base entry d e f h sd se writers
