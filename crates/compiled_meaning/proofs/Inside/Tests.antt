-- The test of an `if` inside pardo: behind it those of the set are active whose value is true.
use Rattle.std.proofs.Common.{◌≡◌, ℕ, ◌+◌, ◌≤◌, List, [], ◌∷◌, ◌++◌, length, Bool, true, false, None, refl, sym, ap, ◌∙◌, subst, arith}
use Rattle.std.specs.Prelude.{not}
use Rattle.superstep_instructions.specs.declared.instr.Instr.{Instr}
use Rattle.superstep_instructions.specs.declared.instr.Instr.TheVariants.{Mark, Mask}
use Rattle.superstep_machine.specs.Keys.{least}
use Rattle.pram_names.specs.declared.body.Expression.{Expression}
use Rattle.pram_check.specs.Checked.{Checked}
use Rattle.pram_check.specs.Bounded as bounded
use Rattle.pram_check.specs.Bounded.{names_of, with_locals}
use Rattle.pram_meaning.specs.Attempt.{attempt_value}
use Rattle.pram_meaning.specs.Bounded.{Done, then_do, tested_on}
use Rattle.pram_meaning.specs.Conflict.{Part}
use Rattle.pram_meaning.specs.Store.{State}
use Rattle.pram_meaning.specs.Together.{those}
use Rattle.flat_machine.specs.Flat.{Flat, after_instr}
use Rattle.flat_stretches.specs.Along.{Run}
use Rattle.flat_stretches.specs.Folds.{Stand}
use Rattle.flat_stretches.specs.Frames.{Frame, StandsIn, present, is_true, narrowed}
use Rattle.flat_stretches.specs.Tells.{IsCalm}
use Rattle.flat_stretches.proofs.Frames.{masks_narrow, sets_narrow}
use Rattle.flat_stretches.proofs.Tells.{notes_nothing}
use Rattle.statement_evaluation.specs.Terms.{Gets, term_of}
use Rattle.statement_evaluation.specs.Rows.{rows, cut_parts}
use Rattle.statement_evaluation.specs.Effects.{AreFine}
use Rattle.statement_evaluation.proofs.Attempts.{test_parts}
use Rattle.statement_evaluation.proofs.Effects.{tests_are_values}
use Rattle.plain_form.specs.Formulas.{Formula, formula_of}
use Rattle.plain_form.specs.Registers.{behind_locals}
use Rattle.plain_form.specs.Shapes.{still}
use Rattle.verified_form.specs.Straight.{masking}
use Rattle.verified_form.proofs.Fine.{straight_parts_are_fine}
use Rattle.compiled_formulas.specs.Headings.{heading_of}
use Rattle.compiled_formulas.specs.Inside.{ShowsInside}
use Rattle.exchange_bound.specs.Events.{Event, behind, begun}
use Rattle.compiled_meaning.specs.Paid.{tests_on, testing_costs}
use Rattle.compiled_meaning.specs.Begins.{done}
use Rattle.compiled_meaning.specs.Between.{IsRunOf}
use Rattle.compiled_meaning.specs.Follows.{Follows}
use Rattle.compiled_meaning.proofs.EachStatement.Costs.{straight_parts_cost}
use Rattle.compiled_meaning.specs.Steps.{GoesWithin}
use Rattle.compiled_meaning.specs.Within.{IsWithin}
use Rattle.compiled_meaning.proofs.Inside.Attempted.{one_more, attempted}
use Rattle.compiled_meaning.proofs.Inside.Evaluated.{marked, end, end_shows, end_left, end_stands, done_is, names, register, tests_are}
use Rattle.compiled_meaning.proofs.Inside.Evaluated.{others_are}
use Rattle.compiled_meaning.proofs.Inside.Evaluated.{tells, apart}
use Rattle.compiled_meaning.proofs.Inside.Passed.{Leaves, IsNext, passed}
use Rattle.compiled_meaning.proofs.Inside.Shown.{counted_shows, mask_shows}

-- a statement more, and all else is as it was
pub next_is : (p : Checked) (t : Run) (locals base : ℕ) (fr : Frame) (held : Bool) (m : State) (place spent : ℕ) (f : Flat) →
    IsWithin p t locals base fr held m place spent f → IsNext p locals m (one_more m)
next_is p t locals base fr held m place spent f w = record {
  count = refl;
  output = refl;
  sizes = (let s = w.sizes in record { uniforms = s.uniforms; cells = s.cells });
  locals_of = w.locals_of;
  values = (let v = w.values in record { output = v.output; uniforms = v.uniforms; cells = v.cells; team = v.team });
}

module _ (p : Checked) (t : Run) (of : IsRunOf p t) (locals base : ℕ) (free : behind_locals locals ≤ base) (fr : Frame) (held : Bool)
    (m : State) (place spent : ℕ) (f : Flat) (w : IsWithin p t locals base fr held m place spent f) (line : ℕ) (e : Expression)
    (named : bounded.IsNamed (with_locals locals (names_of p)) e) (keep : Bool) where
  abbrev formula : Formula
  formula = formula_of e

  abbrev stretch : List Instr
  stretch = masking keep held base formula

  abbrev last : Flat
  last = end p t of locals base free fr held m place spent f w line formula
      (names p t of locals base free fr held m place spent f w line e named)

  abbrev r : ℕ
  r = register p t of locals base free fr held m place spent f w line e named

  -- which of them go on
  abbrev pub passes : ℕ → Bool
  passes = is_true r last

  done_masked : done t.code line stretch f ≡ after_instr t.code (Mask r) last
  done_masked = done_is p t of locals base free fr held m place spent f w line formula
      (names p t of locals base free fr held m place spent f w line e named) keep held (Mask r ∷ [])

  leaves_masked : (vote : ℕ) → Leaves p t locals base vote (narrowed passes fr) line stretch f (one_more m)
  leaves_masked vote =
      let k = end_left p t of locals base free fr held m place spent f w line formula
      (names p t of locals base free fr held m place spent f w line e named) in
      let none = k 0 in
      let s = end_shows p t of locals base free fr held m place spent f w line formula
      (names p t of locals base free fr held m place spent f w line e named) in
      record {
        count = ap (λ (g : Flat). g.uniform.count) done_masked ∙ none.count;
        output = ap (λ (g : Flat). g.uniform.output) done_masked ∙ none.output;
        registers = λ q l. ap (λ (g : Flat). g.uniform.registers q) done_masked ∙ (let a = k (q + 1) in a.registers q (omega arith));
        shows = subst (ShowsInside p locals (one_more m)) (sym done_masked)
            (counted_shows p locals m (m.count + 1) (after_instr t.code (Mask r) last) (mask_shows p locals m t.code last s r));
        stands = subst (StandsIn (behind_locals locals) base (narrowed passes fr)) (sym done_masked)
            (masks_narrow t.code (behind_locals locals) base r fr last
            (end_stands p t of locals base free fr held m place spent f w line formula
            (names p t of locals base free fr held m place spent f w line e named)));
      }

  -- its parts in the meaning
  abbrev pub test_results : List Part
  test_results = cut_parts p m (Gets (term_of e)) (present fr)

  sets_are : AreFine (heading_of (marked p t of locals base free fr held m place spent f w line))
      (rows p m (Gets (term_of e)) (present fr)) →
      (those true test_results ≡ present (narrowed passes fr)) × (those false test_results ≡ present (narrowed (λ v. not (passes v)) fr))
  sets_are fine =
      let h = heading_of (marked p t of locals base free fr held m place spent f w line) in (
        tests_are_values h p m (term_of e) (present fr) fine true
            ∙ sym (tests_are p t of locals base free fr held m place spent f w line e named) ∙ sym (sets_narrow passes fr),
        tests_are_values h p m (term_of e) (present fr) fine false
            ∙ sym (others_are p t of locals base free fr held m place spent f w line e named)
            ∙ sym (sets_narrow (λ v. not (passes v)) fr),
      )

  -- what is run behind the test, from its two sets
  abbrev GoesOnTested : ℕ → (List Event → State → Type 0) → (List Part → State → Done) → (List Part → State → List Event) → Type 0
  GoesOnTested vote goes k rest =
      GoesWithin p t locals base vote (narrowed passes fr) (still held formula) (place + 1 + length stretch)
      (spent + testing_costs t (present fr) e) f
      (one_more m) → (those true test_results ≡ present (narrowed passes fr)) →
      (those false test_results ≡ present (narrowed (λ v. not (passes v)) fr)) →
      Follows t spent held (tests_on (present fr) e ∷ rest test_results (one_more m))
      (goes (tests_on (present fr) e ∷ rest test_results (one_more m))) (k test_results (one_more m))

  pub test_follows : (vote : ℕ) (goes : List Event → State → Type 0) (k : List Part → State → Done) (rest : List Part → State →
      List Event) →
      Stand t place (Mark line ∷ stretch) → IsCalm t.code (place + 1 + length stretch) → GoesOnTested vote goes k rest →
      Follows t spent held
      (begun t.bound m (tests_on (present fr) e ∷ []) ++ behind (tested_on p t.bound line e (present fr) m) rest)
      (goes (begun t.bound m (tests_on (present fr) e ∷ []) ++ behind (tested_on p t.bound line e (present fr) m) rest))
      (then_do (tested_on p t.bound line e (present fr) m) k)
  test_follows vote goes k rest stand calm on =
      let fine = straight_parts_are_fine in
      let cost = straight_parts_cost in
      let shown = w.shows in
      let left = leaves_masked vote in
      let none = left.shows in
      let empty = none.rests in
      attempted p t line stretch held (still held formula) m place spent f w.between (Gets (term_of e)) (present fr) held spent
      (tests_on (present fr) e ∷ []) goes k rest (λ s. attempt_value s e) (test_parts p m e (present fr))
      (record {
        formed = of.formed;
        rests = shown.rests;
        stand = stand;
        fine = fine.masked keep held base formula;
        none = empty.asks;
        calm = calm;
        apart = apart p t of locals base free fr held m place spent f w line (Gets (term_of e));
        tells = tells p t of locals base free fr held m place spent f w line e named keep held (Mask r ∷ [])
            (ap (λ o. least o None) (notes_nothing t.code (Mask r) refl last));
        few = omega arith;
      })
      (λ l g h ok okay.
      let sets = sets_are ok in
      on (passed p t locals base base vote fr (narrowed passes fr) held (still held formula) m place spent f w line stretch (one_more m)
      (testing_costs t (present fr) e) (spent + testing_costs t (present fr) e)
      (cost.masked t (length (present fr)) keep held base formula) (omega arith) l g h left
      (next_is p t locals base fr held m place spent f w)) sets.0 sets.1)
