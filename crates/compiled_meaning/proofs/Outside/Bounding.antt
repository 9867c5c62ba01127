-- The bounds of a `for`, and a setting of its variable: the run follows them, with the turns in their registers.
use Rattle.std.proofs.Common.{◌≡◌, ℕ, ◌+◌, ◌<◌, ◌≤◌, List, [], ◌∷◌, ◌++◌, length, Bool, false, not, ◌&&◌, Ok, ℤ, ◌+ℤ◌, int_lt, int_le}
use Rattle.std.proofs.Common.{refl, sym, ap, ◌∙◌, subst, arith, append_assoc}
use Rattle.pram_values.specs.Truth.{truth}
use Rattle.pram_values.specs.Value.{checked}
use Rattle.pram_values.specs.declared.place.Place.TheVariants.{All}
use Rattle.superstep_instructions.specs.declared.instr.Side.TheVariants.{Uniform}
use Rattle.superstep_instructions.specs.declared.instr.Truth.TheVariants as comparison
use Rattle.superstep_instructions.specs.declared.instr.Instr.{Instr}
use Rattle.superstep_instructions.specs.declared.instr.Instr.TheVariants.{Mark, Copy, Decide}
use Rattle.superstep_machine.specs.Keys.{least}
use Rattle.pram_names.specs.declared.body.Expression.{Expression}
use Rattle.pram_check.specs.Checked.{Checked}
use Rattle.pram_check.specs.Bounded as bounded
use Rattle.pram_check.specs.Bounded.{names_of}
use Rattle.pram_meaning.specs.Attempt.{attempt_bounds}
use Rattle.pram_meaning.specs.Store.{State, View, seen, with_uniform}
use Rattle.pram_meaning.specs.Bounded.{Done, Goes, Stops, Reaches, then_do, counted, valued, evaluated}
use Rattle.pram_meaning.specs.Values.{IsValue}
use Rattle.statement_evaluation.specs.LeastFaults.{unless_told}
use Rattle.flat_machine.specs.Flat.{Flat}
use Rattle.superstep_machine.proofs.KeyOrder.{none_least}
use Rattle.flat_stretches.specs.Along.{Run}
use Rattle.flat_stretches.specs.Folds.{Stand, acts_at_once}
use Rattle.flat_stretches.specs.Notes.{notes}
use Rattle.flat_stretches.specs.Tells.{IsCalm}
use Rattle.statement_evaluation.specs.Noted.{notes_behind}
use Rattle.statement_evaluation.specs.Terms.{term_of}
use Rattle.statement_evaluation.specs.Whole.{value, steps, whole_bounds}
use Rattle.statement_evaluation.proofs.Attempts.{whole_bounds_of}
use Rattle.plain_form.specs.Registers.{behind_variables, behind_turns, turn, high, more}
use Rattle.plain_form.specs.Formulas.{Formula, Zero, Pair, formula_of, nesting, reads}
use Rattle.plain_form.specs.Groups as groups
use Rattle.plain_form.specs.Groups.{first_at, second_at, stack}
use Rattle.plain_form.specs.Shapes.{flush, still}
use Rattle.verified_form.specs.Straight.{evaluation, bounding, stepping}
use Rattle.verified_form.proofs.Fine.{straight_parts_are_fine}
use Rattle.compiled_formulas.specs.Environments.{IsNamed}
use Rattle.compiled_formulas.specs.Headings.{heading_of}
use Rattle.compiled_formulas.specs.Terms.{steps_in}
use Rattle.compiled_formulas.proofs.Outside.{pairs_are_evaluated_outside}
use Rattle.compiled_formulas.proofs.Terms.{expressions_are_terms, steps_are_steps, expressions_are_named}
use Rattle.plain_form.specs.Formulas as formulas
use Rattle.std.specs.Prelude.{None}
use Rattle.exchange_bound.specs.Events as events
use Rattle.exchange_bound.specs.Events.{Event, Runs, Cut}
use Rattle.exchange_bound.specs.Bound.{one_if}
use Rattle.compiled_meaning.specs.Paid.{evaluating}
use Rattle.compiled_meaning.specs.Between.{IsRunOf}
use Rattle.compiled_meaning.specs.Begins.{begun, done}
use Rattle.compiled_meaning.proofs.EachStatement.Costs.{straight_parts_cost}
use Rattle.compiled_meaning.proofs.EachStatement.Valued.{value_is}
use Rattle.compiled_meaning.specs.Without.{IsWithout}
use Rattle.compiled_meaning.proofs.Outside.Leads.{Leads}
use Rattle.compiled_meaning.proofs.Outside.Passed.{IsPassed}
use Rattle.compiled_meaning.proofs.Inside.Attempted.{one_more}
use Rattle.compiled_meaning.proofs.Outside.OneStatement.{begins_by, evaluates_by}
use Rattle.compiled_meaning.proofs.Outside.Evaluated.{Leaves, may, valued_leaves, part_acts, part_notes}
use Rattle.compiled_meaning.proofs.Outside.Turns.{HasTurns, place_is_apart, bounds_set, bounds_tail, bounds_leave, bounds_are, bounds_acts}
use Rattle.compiled_meaning.proofs.Outside.Turns.{bounds_notes}
use Rattle.compiled_meaning.proofs.Outside.Turns.{stepped_leaves, stepped_turns, stepped_acts, stepped_notes}
use Rattle.compiled_meaning.proofs.Outside.Spending.{cut_spends}
use Rattle.compiled_meaning.proofs.Outside.Straight.{IsStraight, may_begin, part_passed, seen_register}
use Rattle.compiled_meaning.proofs.Outside.Values.{sees_values, next_values, next_sizes, variable_values, variable_sizes}

-- the run is behind the bounds of a `for`
pub record HasBounds (p : Checked) (t : Run) (free place : ℕ) (start : State) (f : Flat) (spent : ℕ) (r : ℤ × ℤ) (m : State)
    (g : Flat) : Type 0
  where
    pub passed : IsPassed p t free false place (one_more start) f spent m g
    pub turns : HasTurns free r.0 r.1 (int_le r.0 r.1) g
    pub low : IsValue r.0
    pub high : IsValue r.1

abbrev pub Bounds : Checked → Run → (free place : ℕ) → State → Flat → ℕ → ℤ × ℤ → State → Type 0
Bounds p t free place start f spent r m = (g : Flat) × HasBounds p t free place start f spent r m g

module _ (p : Checked) (t : Run) (of : IsRunOf p t) (keep : Bool) (free line : ℕ) (free_ones : behind_variables p.uniforms ≤ free)
    (held : Bool)
    (m : State) (place spent : ℕ) (f : Flat) (w : IsWithout p t held m place spent f) (d e : Expression)
    (first_named : bounded.IsNamed (names_of p) d) (second_named : bounded.IsNamed (names_of p) e) where
  abbrev one : Formula
  one = formula_of d

  abbrev two : Formula
  two = formula_of e

  abbrev both : Formula
  both = Pair one two

  abbrev base : ℕ
  base = behind_turns free

  abbrev view : View
  view = seen p (one_more m)

  abbrev a : ℤ
  a = value view (term_of d)

  abbrev b : ℤ
  b = value view (term_of e)

  abbrev start : Flat
  start = begun t.code line f

  abbrev some : Bool
  some = still held both

  abbrev part : List Instr
  part = bounding keep held free one two

  above : behind_variables p.uniforms ≤ base
  above = omega (arith, free_ones)

  both_named : IsNamed (names_of p) both
  both_named = (expressions_are_named (names_of p) d first_named, expressions_are_named (names_of p) e second_named)

  abbrev end : Flat
  end = acts_at_once t.code (groups.evaluated Uniform base both) start

  end_leaves : Leaves p free (one_more m) f end
  end_leaves = valued_leaves p t of held m place spent f w line base both both_named above free (omega arith)

  low_is : end.uniform.registers (first_at Uniform base one two) ≡ a
  low_is =
      (pairs_are_evaluated_outside t.code p (one_more m) base one two start
      (may p t of held m place spent f w line base both both_named above)).0
      ∙ ap (value view) (expressions_are_terms d)

  high_is : end.uniform.registers (second_at Uniform base one two) ≡ b
  high_is =
      (pairs_are_evaluated_outside t.code p (one_more m) base one two start
      (may p t of held m place spent f w line base both both_named above)).1
      ∙ ap (value view) (expressions_are_terms e)

  apart : (free ≡ second_at Uniform base one two) → ⊥
  apart = place_is_apart p free free_ones two (base + reads one) (stack base both + 1) both_named.1 (omega arith) (omega arith)

  abbrev set : Flat
  set = bounds_set t.code p free (one_more m) f free_ones end end_leaves (first_at Uniform base one two)
      (second_at Uniform base one two) apart a b
      low_is high_is

  abbrev tail : List Instr
  tail = bounds_tail t.code p free (one_more m) f free_ones end end_leaves (first_at Uniform base one two)
      (second_at Uniform base one two) apart a b
      low_is high_is some

  part_is : part ≡ evaluation keep held Uniform base both ++ tail
  part_is =
      let front = evaluation keep held Uniform base both in
      let copies = Copy Uniform (turn free) (first_at Uniform base one two)
      ∷ Copy Uniform (high free) (second_at Uniform base one two) ∷ [] in
      let last = Decide Uniform comparison.AtMost (more free) (turn free) (high free) ∷ [] in
      append_assoc (front ++ copies) (flush some) last ∙ append_assoc front copies (flush some ++ last)

  acts_are : done t.code line part f ≡ set
  acts_are =
      ap (λ is. acts_at_once t.code is start) part_is
      ∙ part_acts p t of held m place spent f w line base both both_named above keep held tail
      ∙ bounds_acts t.code p free (one_more m) f free_ones end end_leaves (first_at Uniform base one two)
      (second_at Uniform base one two) apart a b
      low_is high_is some

  notes_are : notes t.code part start ≡ notes_behind (heading_of start) 0 All (steps view (term_of d) ++ steps view (term_of e))
  notes_are =
      let h = heading_of start in
      ap (λ is. notes t.code is start) part_is
      ∙ part_notes p t of held m place spent f w line base both both_named above keep held tail
      ∙ ap (least (notes_behind h 0 All (steps_in view both)))
      (bounds_notes t.code p free (one_more m) f free_ones end end_leaves (first_at Uniform base one two)
      (second_at Uniform base one two) apart a b
      low_is high_is some)
      ∙ none_least (notes_behind h 0 All (steps_in view both))
      ∙ (λ i. notes_behind h 0 All (steps_are_steps view d i ++ steps_are_steps view e i))

  is_bounded : IsStraight p t free line part held false m f (evaluating t both + one_if some) (one_more m)
  is_bounded = record {
    fine = straight_parts_are_fine.bounded keep held free one two;
    few = straight_parts_cost.bounded t keep held free one two;
    leaves = subst (Leaves p free (one_more m) f) (sym acts_are)
        (bounds_leave t.code p free (one_more m) f free_ones end end_leaves (first_at Uniform base one two)
        (second_at Uniform base one two) apart a b
        low_is high_is);
    count = refl;
    sizes = next_sizes p m w.sizes;
    values = next_values m w.values;
  }

  turns_are : HasTurns free a b (int_le a b) (done t.code line part f)
  turns_are = subst (HasTurns free a b (int_le a b)) (sym acts_are)
      (bounds_are t.code p free (one_more m) f free_ones end end_leaves (first_at Uniform base one two)
      (second_at Uniform base one two) apart a b
      low_is high_is)

  pub bounds_follow : Stand t place (Mark line ∷ part) → IsCalm t.code (place + length (Mark line ∷ part)) →
      Leads t spent held false (events.begun t.bound m (Runs (nesting both) false None (formulas.reads both) ∷ Cut ∷ []))
      (Bounds p t free (place + length (Mark line ∷ part)) m f) (evaluated t.bound line (λ m. attempt_bounds (seen p m) d e) m)
  bounds_follow stand calm =
      let cost = evaluating t both + one_if some in
      let values = sees_values p (one_more m) (next_values m w.values) in
      evaluates_by t line part held false m place spent f
      (may_begin p t of free line part held false m place spent f w cost (one_more m) is_bounded stand calm) spent held false refl
      (Runs (nesting both) false None (formulas.reads both) ∷ Cut ∷ []) (λ m. attempt_bounds (seen p m) d e)
      (whole_bounds view (term_of d) (term_of e))
      (Bounds p t free (place + length (Mark line ∷ part)) m f) (whole_bounds_of view d e) notes_are
      (λ below g h. (
        refl,
        (
          g,
          record {
            passed = part_passed p t of free line part held false m place spent f w cost (one_more m) is_bounded below g h _
                (let l = cut_spends t held both in omega (arith, l));
            turns =
                let k = turns_are in
                let same = seen_register p t of free line part held false m place spent f w cost (one_more m) is_bounded below g h in
                record {
                  turn = same (turn free) ∙ k.turn;
                  high = same (high free) ∙ k.high;
                  more = same (more free) ∙ k.more;
                };
            low = value_is (names_of p) view values d first_named;
            high = value_is (names_of p) view values e second_named;
          },
        ),
      ))

-- ---- a setting

-- the run is behind a setting of the variable x to a, with the one_more turn in its register
pub record HasSet (p : Checked) (t : Run) (free place x : ℕ) (a b c : ℤ) (start : State) (f : Flat) (spent : ℕ) (m : State)
    (g : Flat) : Type 0
  where
    pub passed : IsPassed p t free false place (one_more start) f spent (with_uniform x a m) g
    pub turns : HasTurns free c b (int_lt a b) g

abbrev pub Sets : Checked → Run → (free place x : ℕ) → (a b c : ℤ) → State → Flat → ℕ → Unit {0} → State → Type 0
Sets p t free place x a b c start f spent u m = (g : Flat) × HasSet p t free place x a b c start f spent m g

-- to go on with the same state is to go on
goes_on : (d : Done) → then_do d (λ u m. Goes tt m) ≡ d
goes_on (Goes u m) = refl
goes_on (Stops fault out) = refl
goes_on (Reaches out) = refl

pub setting_follows : (p : Checked) (t : Run) → IsRunOf p t → (keep : Bool) (free line : ℕ) → behind_variables p.uniforms ≤ free → (x : ℕ) →
    x < p.uniforms → (a b c : ℤ) → checked (a +ℤ truth (int_lt a b)) ≡ Ok c → IsValue a → (m : State) (place spent : ℕ) (f : Flat) →
    IsWithout p t false m place spent f → f.uniform.registers (turn free) ≡ a → f.uniform.registers (high free) ≡ b →
    Stand t place (Mark line ∷ stepping keep free x) → IsCalm t.code (place + length (Mark line ∷ stepping keep free x)) →
    Leads t spent false false (events.begun t.bound m (Runs 0 false None 0 ∷ []))
    (Sets p t free (place + length (Mark line ∷ stepping keep free x)) x a b c m f) (counted t.bound m)
setting_follows p t of keep free line free_ones x declared a b c fits is_value m place spent f w low up stand calm =
    let part = stepping keep free x in
    let start = begun t.code line f in
    let some = keep && not false in
    let leaves : Leaves p free (one_more m) f start =
    valued_leaves p t of false m place spent f w line free Zero tt free_ones free (omega arith) in
    let sizes = next_sizes p m w.sizes in
    let acts : done t.code line part f ≡ _ =
    stepped_acts t.code p free (one_more m) f free_ones start leaves x declared sizes a b c low up fits some in
    let after = with_uniform x a (one_more m) in
    let straight : IsStraight p t free line part false false m f 0 after = record {
      fine = straight_parts_are_fine.stepped keep free x;
      few = straight_parts_cost.stepped t keep free x;
      leaves = subst (Leaves p free after f) (sym acts)
          (stepped_leaves t.code p free (one_more m) f free_ones start leaves x declared sizes a b c low up fits);
      count = refl;
      sizes = variable_sizes p x a (one_more m) sizes;
      values = variable_values x a (one_more m) is_value (next_values m w.values);
    } in
    let turns : HasTurns free c b (int_lt a b) (done t.code line part f) =
    subst (HasTurns free c b (int_lt a b)) (sym acts)
    (stepped_turns t.code p free (one_more m) f free_ones start leaves x declared sizes a b c low up fits) in
    let es = Runs 0 false None 0 ∷ [] in
    let goes = Sets p t free (place + length (Mark line ∷ part)) x a b c m f in
    subst (λ d. Leads t spent false false (events.begun t.bound m es) goes d) (goes_on (counted t.bound m))
    (begins_by t line part false false m place spent f
    (may_begin p t of free line part false false m place spent f w 0 after straight stand calm) spent false false refl es tt goes
    (λ m. Goes tt m)
    (ap (λ k. valued (unless_told k tt) (one_more m))
    (sym (stepped_notes t.code p free (one_more m) f free_ones start leaves x declared sizes a b c low up fits some)))
    (λ below g h. (
      refl,
      (
        g,
        record {
          passed = part_passed p t of free line part false false m place spent f w 0 after straight below g h _ (omega arith);
          turns =
              let same = seen_register p t of free line part false false m place spent f w 0 after straight below g h in record {
                turn = same (turn free) ∙ turns.turn;
                high = same (high free) ∙ turns.high;
                more = same (more free) ∙ turns.more;
              };
        },
      ),
    )))
