-- What a statement inside pardo evaluates, from behind its mark: its frame, its values, and what it notes.
use Rattle.std.proofs.Common.{◌≡◌, ℕ, ◌<◌, ◌≤◌, List, ◌++◌, Bool, true, None, sym, ap, ◌∙◌, subst}
use Rattle.std.specs.Prelude.{not}
use Rattle.std.specs.List.{filter, range_with_len}
use Rattle.pram_values.specs.Truth.{is_nonzero}
use Rattle.superstep_instructions.specs.declared.instr.Side.TheVariants.{Private}
use Rattle.superstep_instructions.specs.declared.instr.Instr.{Instr}
use Rattle.superstep_machine.specs.Keys.{least}
use Rattle.superstep_machine.specs.Steps.{under}
use Rattle.pram_names.specs.declared.body.Expression.{Expression}
use Rattle.pram_check.specs.Checked.{Checked}
use Rattle.pram_check.specs.Bounded as bounded
use Rattle.pram_check.specs.Bounded.{names_of, with_locals}
use Rattle.pram_meaning.specs.Store.{State, seen_by}
use Rattle.flat_machine.specs.Flat.{Flat}
use Rattle.superstep_machine.proofs.KeyOrder.{none_least}
use Rattle.flat_stretches.specs.Along.{Run}
use Rattle.flat_stretches.specs.Folds.{acts_at_once}
use Rattle.flat_stretches.specs.Frames.{Frame, StandsIn, present, is_true}
use Rattle.flat_stretches.specs.Leaving.{IsLeft}
use Rattle.flat_stretches.specs.Notes.{notes}
use Rattle.statement_evaluation.specs.Terms.{Task, Gets, term_of}
use Rattle.statement_evaluation.specs.Whole.{value}
use Rattle.statement_evaluation.specs.Rows.{rows, AreApart}
use Rattle.statement_evaluation.specs.Noted.{noted}
use Rattle.plain_form.specs.Formulas.{Formula, formula_of}
use Rattle.plain_form.specs.Groups.{evaluated, value_at}
use Rattle.plain_form.specs.Registers.{behind_locals}
use Rattle.verified_form.specs.Straight.{evaluation}
use Rattle.compiled_formulas.specs.Environments.{IsNamed}
use Rattle.compiled_formulas.specs.Headings.{heading_of}
use Rattle.compiled_formulas.specs.Inside.{ShowsInside, MayEvaluateInside, IsEvaluatedInside, active_ones}
use Rattle.compiled_formulas.proofs.Inside.{formulas_are_evaluated_inside}
use Rattle.compiled_formulas.proofs.Tasks.{expressions_are_single, values_are_tasks}
use Rattle.compiled_formulas.proofs.Terms.{expressions_are_terms, expressions_are_named}
use Rattle.compiled_meaning.specs.Begins.{begun, done}
use Rattle.compiled_meaning.specs.Between.{IsRunOf}
use Rattle.compiled_meaning.proofs.EachStatement.Marked.{begun_is, begun_bare, evaluation_acts_with, evaluation_notes_with}
use Rattle.compiled_meaning.specs.Within.{IsWithin}
use Rattle.compiled_meaning.proofs.Inside.Apart.{sets_are_apart}
use Rattle.compiled_meaning.proofs.Inside.Sets.{tests_agree, active_are_present}
use Rattle.compiled_meaning.proofs.Inside.Shown.{begun_shows}

module _ (p : Checked) (t : Run) (of : IsRunOf p t) (locals base : ℕ) (free : behind_locals locals ≤ base) (fr : Frame) (held : Bool)
    (m : State) (place spent : ℕ) (f : Flat) (w : IsWithin p t locals base fr held m place spent f) (line : ℕ) where
  abbrev pub marked : Flat
  marked = begun t.code line f

  pub marked_stands : StandsIn (behind_locals locals) base fr marked
  marked_stands =
      let s = w.stands in
      subst (StandsIn (behind_locals locals) base fr) (sym (begun_is t.code line f))
      (record { width = s.width; masks = s.masks; flags = s.flags })

  pub marked_shows : ShowsInside p locals m marked
  marked_shows = begun_shows p locals m t.code line f w.shows

  pub all_present : active_ones marked ≡ present fr
  all_present = active_are_present (behind_locals locals) base fr marked marked_stands

  -- no two of them have one index
  pub apart : (task : Task) → AreApart (rows p m task (present fr))
  apart task =
      let k = marked_shows in
      let s = marked_stands in
      subst (λ n. AreApart (rows p m task (filter (λ v. under (fr.masks v)) (range_with_len 0 n)))) s.width
      (sets_are_apart p m task marked k.members (λ v. under (fr.masks v)))

  -- ---- a formula

  module _ (e : Formula) (named : IsNamed (with_locals locals (names_of p)) e) where
    abbrev pub end : Flat
    end = acts_at_once t.code (evaluated Private base e) marked

    pub may : MayEvaluateInside t.code p locals m base e marked
    may = (of.layout, of.rule, named, free, marked_shows)

    pub evaluates : IsEvaluatedInside t.code p locals m base e marked
    evaluates = formulas_are_evaluated_inside t.code p locals m base e marked may

    pub end_shows : ShowsInside p locals m end
    end_shows = let k = evaluates in k.shows

    pub end_left : (any : ℕ) → IsLeft any marked end
    end_left any = let k = evaluates in k.left any

    pub end_stands : StandsIn (behind_locals locals) base fr end
    end_stands =
        let k = evaluates in
        let s = marked_stands in
        let l = k.left 0 in
        record {
          width = l.width ∙ s.width;
          masks = λ v. k.masks v ∙ s.masks v;
          flags = λ v r a b. k.registers v r b ∙ s.flags v r a b;
        }

    -- a stretch begins with it
    pub done_is : (keep some : Bool) (is : List Instr) →
        done t.code line (evaluation keep some Private base e ++ is) f ≡ acts_at_once t.code is end
    done_is keep some is =
        let s = marked_shows in evaluation_acts_with t.code marked (begun_bare t.code line f) s.rests keep some Private base e is

    pub notes_are : (keep some : Bool) (is : List Instr) →
        notes t.code (evaluation keep some Private base e ++ is) marked
        ≡ least (notes t.code (evaluated Private base e) marked) (notes t.code is end)
    notes_are keep some is =
        let s = marked_shows in evaluation_notes_with t.code marked (begun_bare t.code line f) s.rests keep some Private base e is

  -- ---- an expression

  module _ (e : Expression) (named : bounded.IsNamed (with_locals locals (names_of p)) e) where
    abbrev formula : Formula
    formula = formula_of e

    pub names : IsNamed (with_locals locals (names_of p)) formula
    names = expressions_are_named (with_locals locals (names_of p)) e named

    -- the register with its value
    abbrev pub register : ℕ
    register = value_at Private base formula

    pub gives : (v : ℕ) → v < fr.width → under (fr.masks v) ≡ true →
        ((end formula names).own v).registers register ≡ value (seen_by p m v) (term_of e)
    gives v l a =
        let k = evaluates formula names in
        let s = marked_stands in
        k.gives v (subst (λ n. v < n) (sym s.width) l) (ap under (s.masks v) ∙ a) ∙ ap (value (seen_by p m v)) (expressions_are_terms e)

    -- those of the set whose value is true, or false
    pub tests_are : filter (is_true register (end formula names)) (present fr)
        ≡ filter (λ v. is_nonzero (value (seen_by p m v) (term_of e))) (present fr)
    tests_are =
        tests_agree fr (is_true register (end formula names)) (λ v. is_nonzero (value (seen_by p m v) (term_of e)))
        (λ v l a. ap is_nonzero (gives v l a))

    pub others_are : filter (λ v. not (is_true register (end formula names) v)) (present fr)
        ≡ filter (λ v. not (is_nonzero (value (seen_by p m v) (term_of e)))) (present fr)
    others_are =
        tests_agree fr (λ v. not (is_true register (end formula names) v)) (λ v. not (is_nonzero (value (seen_by p m v) (term_of e))))
        (λ v l a. ap (λ z. not (is_nonzero z)) (gives v l a))

    -- with nothing noted behind it
    pub tells : (keep some : Bool) (is : List Instr) → notes t.code is (end formula names) ≡ None →
        notes t.code (evaluation keep some Private base formula ++ is) marked
        ≡ noted (heading_of marked) p.rule p.layout (Gets (term_of e)) (rows p m (Gets (term_of e)) (present fr))
    tells keep some is none =
        notes_are formula names keep some is
        ∙ ap (least (notes t.code (evaluated Private base formula) marked)) none
        ∙ none_least (notes t.code (evaluated Private base formula) marked)
        ∙ values_are_tasks t.code p locals m base formula marked (may formula names) (expressions_are_single e)
        ∙ (λ i. noted (heading_of marked) p.rule p.layout (Gets (expressions_are_terms e i))
        (rows p m (Gets (expressions_are_terms e i)) (all_present i)))
