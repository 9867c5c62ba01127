-- A write outside pardo: the run follows it. What is held before it is sent before its mark, or waits for its reads.
use Rattle.std.proofs.Common.{◌≡◌, ℕ, ◌+◌, ◌≤◌, List, [], ◌∷◌, ◌++◌, length, Bool, true, false, not, ◌&&◌, Option, ℤ, refl, sym, ap}
use Rattle.std.proofs.Common.{◌∙◌, subst, arith, length-append}
use Rattle.std.specs.Prelude.{FitsSigned}
use Rattle.std.specs.Int.{w64}
use Rattle.pram_model.specs.Layout.{cell_of, total_size}
use Rattle.pram_values.specs.declared.place.Place.TheVariants.{All}
use Rattle.superstep_instructions.specs.declared.instr.Side.TheVariants.{Uniform}
use Rattle.superstep_instructions.specs.declared.instr.Instr.{Instr}
use Rattle.superstep_instructions.specs.declared.instr.Instr.TheVariants.{Mark, Put}
use Rattle.superstep_machine.specs.Keys.{least}
use Rattle.superstep_machine.specs.Results.{missing}
use Rattle.pram_names.specs.declared.body.Expression.{Expression}
use Rattle.pram_check.specs.Checked.{Checked}
use Rattle.pram_check.specs.Bounded as bounded
use Rattle.pram_check.specs.Bounded.{names_of}
use Rattle.pram_meaning.specs.Attempt.{Attempt, Effect}
use Rattle.pram_meaning.specs.Store.{State, View, seen}
use Rattle.pram_meaning.specs.Bounded.{Goes, then_do, evaluated}
use Rattle.pram_meaning.specs.Together.{after_write}
use Rattle.pram_meaning.specs.Values.{IsValue}
use Rattle.flat_machine.specs.Flat.{Flat}
use Rattle.flat_stretches.specs.Applied.{wrote}
use Rattle.flat_stretches.specs.Along.{Run}
use Rattle.flat_stretches.specs.Folds.{Stand, acts_at_once}
use Rattle.flat_stretches.specs.Notes.{notes}
use Rattle.flat_stretches.specs.Tells.{IsCalm}
use Rattle.flat_stretches.proofs.Joins.{stands_split}
use Rattle.statement_evaluation.specs.Noted.{note_key, notes_behind}
use Rattle.statement_evaluation.specs.Terms.{Writes, term_of}
use Rattle.statement_evaluation.specs.Whole.{testing, value, steps, whole, cut}
use Rattle.statement_evaluation.proofs.Sums.{IsBelow}
use Rattle.statement_evaluation.proofs.Tasks.{write_below}
use Rattle.plain_form.specs.Registers.{behind_variables}
use Rattle.plain_form.specs.Formulas.{Formula, Pair, formula_of, nesting, positions}
use Rattle.plain_form.specs.Groups as groups
use Rattle.plain_form.specs.Groups.{first_at, second_at}
use Rattle.plain_form.specs.Shapes.{flush, has_reads, still, waits}
use Rattle.verified_form.specs.Straight.{writing}
use Rattle.verified_form.proofs.Fine.{straight_parts_are_fine}
use Rattle.compiled_formulas.specs.Environments.{IsNamed}
use Rattle.compiled_formulas.specs.Headings.{heading_of}
use Rattle.compiled_formulas.specs.Tasks.{IsSingle}
use Rattle.compiled_formulas.specs.Terms.{term, steps_in}
use Rattle.compiled_formulas.proofs.Outside.{pairs_are_evaluated_outside}
use Rattle.compiled_formulas.proofs.Tasks.{single_steps}
use Rattle.compiled_formulas.proofs.Terms.{expressions_are_terms, steps_are_steps, expressions_are_named}
use Rattle.plain_form.specs.Formulas as formulas
use Rattle.std.specs.Prelude.{None}
use Rattle.exchange_bound.specs.Events as events
use Rattle.exchange_bound.specs.Events.{Event, Runs}
use Rattle.exchange_bound.specs.Bound.{one_if}
use Rattle.compiled_meaning.specs.Paid.{evaluating, write_weighs}
use Rattle.compiled_meaning.specs.Paid as paid
use Rattle.compiled_meaning.specs.Between.{IsRunOf}
use Rattle.compiled_meaning.specs.Begins.{begun, done}
use Rattle.compiled_meaning.proofs.EachStatement.Costs.{straight_parts_cost}
use Rattle.compiled_meaning.proofs.EachStatement.Valued.{value_is, value_fits}
use Rattle.compiled_meaning.specs.Without.{IsWithout}
use Rattle.compiled_meaning.proofs.Outside.Leads.{Leads, leads_after}
use Rattle.compiled_meaning.proofs.Outside.Passed.{IsPassed, Passes, passed_both, passed_there, passed_here, passed_flush}
use Rattle.compiled_meaning.proofs.Inside.Attempted.{one_more}
use Rattle.compiled_meaning.proofs.Outside.OneStatement.{evaluates_by}
use Rattle.compiled_meaning.proofs.Outside.Evaluated.{Leaves, may, valued_leaves, valued_heading, part_acts, part_notes}
use Rattle.compiled_meaning.proofs.Outside.PairNotes.{pair_then_test}
use Rattle.compiled_meaning.proofs.Outside.Wrote.{put_notes, wrote_leaves}
use Rattle.compiled_meaning.proofs.Outside.Spending.{write_spends, sent_or_waits}
use Rattle.compiled_meaning.proofs.Outside.Straight.{IsStraight, may_begin, part_passed, passed_since}
use Rattle.compiled_meaning.proofs.Outside.Values.{sees_values, next_values, next_sizes, write_values, write_sizes}
use Rattle.pram_meaning.proofs.AgreeAll.{write_count}

-- what is held before a write is sent, or it isn't, where it can wait for reads
before_write : (p : Checked) (t : Run) (free : ℕ) (held reads : Bool) (m : State) (place spent : ℕ) (f : Flat) →
    IsWithout p t held m place spent f →
    Stand t place (flush (held && not reads)) →
    Passes p t free (held && reads) (place + length (flush (held && not reads))) m f (spent + one_if (held && not reads)) tt m
before_write p t free false reads m place spent f w h = (
  f,
  passed_there p t free false place (place + 0) m f spent (spent + 0) m f (omega arith) (omega arith)
      (passed_here p t free false place spent m f w),
)
before_write p t free true true m place spent f w h = (
  f,
  passed_there p t free true place (place + 0) m f spent (spent + 0) m f (omega arith) (omega arith)
      (passed_here p t free true place spent m f w),
)
before_write p t free true false m place spent f w h =
    passed_flush p t free true place m f spent m f h (passed_here p t free true place spent m f w)

module _ (p : Checked) (t : Run) (of : IsRunOf p t) (keep : Bool) (free line : ℕ) (free_ones : behind_variables p.uniforms ≤ free)
    (m : State)
    (entry : ℕ) (d : Formula) (subscript : IsNamed (names_of p) d) (single : IsSingle d) (e : Expression)
    (named : bounded.IsNamed (names_of p) e) where
  abbrev formula : Formula
  formula = formula_of e

  abbrev both : Formula
  both = Pair d formula

  abbrev view : View
  view = seen p (one_more m)

  abbrev cell : Option ℕ
  cell = cell_of p.layout entry (value view (term d))

  abbrev result : ℤ
  result = value view (term_of e)

  abbrev after : State
  after = after_write cell result (one_more m)

  -- ---- behind the send before its mark

  module _ (held : Bool) (place spent : ℕ) (f : Flat) (w : IsWithout p t held m place spent f) where
    abbrev put : Instr
    put = Put Uniform entry (first_at Uniform free d formula) (second_at Uniform free d formula) (positions d + positions formula + 1)

    abbrev write : List Instr
    write = writing keep held Uniform free entry d formula

    abbrev start : Flat
    start = begun t.code line f

    both_named : IsNamed (names_of p) both
    both_named = (subscript, expressions_are_named (names_of p) e named)

    abbrev end : Flat
    end = acts_at_once t.code (groups.evaluated Uniform free both) start

    end_leaves : Leaves p free (one_more m) f end
    end_leaves = valued_leaves p t of held m place spent f w line free both both_named free_ones free (omega arith)

    first_is : end.uniform.registers (first_at Uniform free d formula) ≡ value view (term d)
    first_is =
        (pairs_are_evaluated_outside t.code p (one_more m) free d formula start
        (may p t of held m place spent f w line free both both_named free_ones)).0

    second_is : end.uniform.registers (second_at Uniform free d formula) ≡ result
    second_is =
        (pairs_are_evaluated_outside t.code p (one_more m) free d formula start
        (may p t of held m place spent f w line free both both_named free_ones)).1
        ∙ ap (value view) (expressions_are_terms e)

    result_is : IsValue result
    result_is = value_is (names_of p) view (sees_values p (one_more m) (next_values m w.values)) e named

    fits : FitsSigned w64 (end.uniform.registers (second_at Uniform free d formula))
    fits = subst (FitsSigned w64) (sym second_is) (value_fits result result_is)

    cell_is : cell_of t.code.layout entry (end.uniform.registers (first_at Uniform free d formula)) ≡ cell
    cell_is = λ i. cell_of (of.layout i) entry (first_is i)

    below : IsBelow (total_size p.layout) cell
    below = write_below view (Writes entry (term d) (term_of e))

    writes_leave : Leaves p free after f (done t.code line write f)
    writes_leave =
        subst (Leaves p free after f) (sym (part_acts p t of held m place spent f w line free both both_named free_ones keep held
        (put ∷ [])))
        (subst (λ z. Leaves p free (after_write cell z (one_more m)) f (wrote t.code put end)) second_is
        (wrote_leaves t.code end entry (first_at Uniform free d formula) (second_at Uniform free d formula)
        (positions d + positions formula + 1) fits cell cell_is p free (one_more m) f end_leaves (next_sizes p m w.sizes) below))

    writes_note : notes t.code write start ≡ notes_behind (heading_of start) 0 All (whole view (Writes entry (term d) (term_of e))).steps
    writes_note =
        let h = heading_of start in
        part_notes p t of held m place spent f w line free both both_named free_ones keep held (put ∷ [])
        ∙ ap (least (notes_behind h 0 All (steps_in view both)))
        (put_notes t.code end entry (first_at Uniform free d formula) (second_at Uniform free d formula)
        (positions d + positions formula + 1) fits cell cell_is
        ∙ ap (λ k. note_key k (positions d + positions formula + 1) All (missing cell))
        (valued_heading p t of held m place spent f w line free both both_named free_ones))
        ∙ pair_then_test h view d formula (steps view (term d)) (steps view (term_of e)) (testing (missing cell))
        (single_steps view d single)
        (steps_are_steps view e)

  module _ (held : Bool) (place spent : ℕ) (f : Flat) (w : IsWithout p t held m place spent f) where
    abbrev first : List Instr
    first = flush (still held both)

    abbrev second : List Instr
    second = writing keep (waits held both) Uniform free entry d formula

    abbrev all : List Instr
    all = first ++ Mark line ∷ second

    pub write_follows : (a : State → Attempt Effect) → a (one_more m) ≡ cut (whole view (Writes entry (term d) (term_of e))) →
        Stand t place all → IsCalm t.code (place + length all) →
        Leads t spent held true (events.begun t.bound m (Runs (nesting both) true None (formulas.reads both) ∷ []))
        (Passes p t free true (place + length all) m f)
        (then_do (evaluated t.bound line a m) (λ g m. Goes tt (after_write g.cell g.value m)))
    write_follows a attempted stand calm =
        let n = length-append first (Mark line ∷ second) in
        let stands = stands_split t place first (Mark line ∷ second) stand in
        let from = place + length first in
        let came = spent + one_if (still held both) in
        let sent = before_write p t free held (has_reads both) m place spent f w stands.0 in
        let g = sent.0 in
        let passed : IsPassed p t free (waits held both) from m f came m g = sent.1 in
        let here = passed.without in
        let es = Runs (nesting both) true None (formulas.reads both) ∷ [] in
        let to = place + length all in
        let goes = λ (n : ℕ) (x : Effect) (k : State). Passes p t free true to m f n tt (after_write x.cell x.value k) in
        let straight : IsStraight p t free line second (waits held both) true m g (evaluating t both + write_weighs t) after = record {
          fine = straight_parts_are_fine.written keep held Uniform free entry d formula;
          few = straight_parts_cost.written t keep (waits held both) free entry d formula;
          leaves = writes_leave (waits held both) from came g here;
          count = write_count cell result (one_more m);
          sizes = write_sizes p cell result (one_more m) (next_sizes p m here.sizes);
          values = write_values cell result (one_more m) (result_is (waits held both) from came g here) (next_values m here.values);
        } in
        let behind : from + length (Mark line ∷ second) ≡ to = omega (arith, n) in
        let total = spent + paid.spent t es held in
        let enough : came + (evaluating t both + write_weighs t) ≤ total = (let l = write_spends t held both in omega (arith, l)) in
        let owed = sent_or_waits held both in
        leads_after t spent held true (events.begun t.bound m es) goes (Passes p t free true to m f) (evaluated t.bound line a m)
        (λ x m. tt)
        (λ x m. after_write x.cell x.value m)
        (evaluates_by t line second (waits held both) true m from came g
        (may_begin p t of free line second (waits held both) true m from came g here (evaluating t both + write_weighs t) after straight
        stands.1
        (subst (IsCalm t.code) (sym behind) calm)) spent held true (omega (arith, owed)) es a
        (whole view (Writes entry (term d) (term_of e)))
        goes attempted (writes_note (waits held both) from came g here)
        (λ less x h. (
          refl,
          (
            x,
            passed_both p t free (waits held both) true from to m m f g came total free after x (omega arith) passed
                (passed_there p t free true (from + length (Mark line ∷ second)) to m g total total after x behind (omega arith)
                (passed_since p t free true (from + length (Mark line ∷ second)) m g total after x
                (part_passed p t of free line second (waits held both) true m from came g here
                (evaluating t both + write_weighs t) after straight less x h total enough))),
          ),
        )))
        (λ n x k y. y)
