-- The beginning of a pardo: the run follows it, and stands inside with all its processors active.
use Rattle.std.proofs.Common.{◌≡◌, ℕ, ◌+◌, ◌<◌, ◌≤◌, List, [], ◌∷◌, length, Bool, false, ℤ, refl, sym, ap, ◌∙◌, subst, arith}
use Rattle.pram_values.specs.declared.place.Place.TheVariants.{All}
use Rattle.superstep_instructions.specs.declared.instr.Side.TheVariants.{Uniform}
use Rattle.superstep_instructions.specs.declared.instr.Instr.{Instr}
use Rattle.superstep_instructions.specs.declared.instr.Instr.TheVariants as instr
use Rattle.superstep_instructions.specs.declared.instr.Instr.TheVariants.{Mark, Enter}
use Rattle.superstep_machine.specs.Keys.{least}
use Rattle.superstep_machine.specs.Results.{range_width, or_empty, kind_of}
use Rattle.superstep_machine.specs.Run.{items}
use Rattle.pram_names.specs.declared.body.Expression.{Expression}
use Rattle.pram_check.specs.Checked.{Checked}
use Rattle.pram_check.specs.Bounded as bounded
use Rattle.pram_check.specs.Bounded.{names_of}
use Rattle.pram_meaning.specs.Attempt.{attempt_range}
use Rattle.pram_meaning.specs.Store.{State, View, seen, with_team}
use Rattle.pram_meaning.specs.Bounded.{evaluated}
use Rattle.flat_machine.specs.Flat.{Flat, after_instr}
use Rattle.flat_stretches.specs.Along.{Run}
use Rattle.flat_stretches.specs.Folds.{Stand, acts_at_once, costs}
use Rattle.flat_stretches.specs.Frames.{everybody, StandsIn}
use Rattle.flat_stretches.specs.Notes.{notes}
use Rattle.flat_stretches.specs.Tells.{IsCalm}
use Rattle.flat_stretches.proofs.Statements.{marks_hold}
use Rattle.statement_evaluation.specs.Noted.{note_key, notes_behind}
use Rattle.statement_evaluation.specs.Terms.{term_of}
use Rattle.statement_evaluation.specs.Whole.{testing, value, steps, whole_range}
use Rattle.statement_evaluation.proofs.Attempts.{whole_ranges}
use Rattle.plain_form.specs.Registers.{behind_variables, behind_locals, index}
use Rattle.plain_form.specs.Formulas.{Formula, Pair, formula_of, nesting, positions}
use Rattle.plain_form.specs.Groups as groups
use Rattle.plain_form.specs.Groups.{first_at, second_at}
use Rattle.plain_form.specs.Shapes.{still}
use Rattle.verified_form.specs.Straight.{entering}
use Rattle.verified_form.proofs.Fine.{straight_parts_are_fine}
use Rattle.compiled_formulas.specs.Environments.{IsNamed}
use Rattle.compiled_formulas.specs.Headings.{heading_of}
use Rattle.compiled_formulas.specs.Inside.{ShowsInside}
use Rattle.compiled_formulas.specs.Terms.{steps_in}
use Rattle.compiled_formulas.proofs.Outside.{pairs_are_evaluated_outside}
use Rattle.compiled_formulas.proofs.Terms.{expressions_are_terms, steps_are_steps, expressions_are_named}
use Rattle.plain_form.specs.Formulas as formulas
use Rattle.std.specs.Prelude.{None}
use Rattle.exchange_bound.specs.Events as events
use Rattle.exchange_bound.specs.Events.{Event, Runs}
use Rattle.compiled_meaning.specs.Paid.{evaluating}
use Rattle.compiled_meaning.specs.Between.{IsBetween, IsRunOf}
use Rattle.compiled_meaning.specs.Begins.{begun, done, HasPassed}
use Rattle.compiled_meaning.proofs.EachStatement.Costs.{straight_parts_cost}
use Rattle.compiled_meaning.proofs.EachStatement.Places.{between_at}
use Rattle.compiled_meaning.proofs.EachStatement.Valued.{value_is}
use Rattle.compiled_meaning.specs.Within.{IsWithin}
use Rattle.compiled_meaning.specs.Without.{IsWithout}
use Rattle.compiled_meaning.proofs.Outside.Leads.{Leads}
use Rattle.compiled_meaning.proofs.Inside.Attempted.{one_more}
use Rattle.compiled_meaning.proofs.Outside.OneStatement.{MayBegin, evaluates_by}
use Rattle.compiled_meaning.proofs.Outside.Evaluated.{Leaves, may, valued_leaves, valued_heading, part_acts, part_notes}
use Rattle.compiled_meaning.proofs.Outside.PairNotes.{pair_then_test}
use Rattle.compiled_meaning.proofs.Outside.Entered.{entered_stands, entered_shows, entered_notes, members_have_locals, team_has_values}
use Rattle.compiled_meaning.proofs.Outside.Spending.{run_holds, run_spends}
use Rattle.compiled_meaning.proofs.Outside.Values.{sees_values, next_values, next_sizes}

-- the run is inside the range, with the free uniform registers as they were
pub record HasEntered (p : Checked) (t : Run) (free locals : ℕ) (left : Bool) (place : ℕ) (start : State) (f : Flat) (spent : ℕ) (r : ℤ × ℕ)
    (m : State) (g : Flat) : Type 0 where
  pub within : IsWithin p t locals (behind_locals locals) (everybody r.1) left (with_team r.0 r.1 locals m) place spent g
  pub registers : (r : ℕ) → behind_variables p.uniforms ≤ r → r < free → g.uniform.registers r ≡ f.uniform.registers r
  pub later : start.count ≤ m.count

abbrev pub Enters : Checked → Run → (free locals : ℕ) → Bool → (place : ℕ) → State → Flat → ℕ → ℤ × ℕ → State → Type 0
Enters p t free locals left place start f spent r m = (g : Flat) × HasEntered p t free locals left place start f spent r m g

module _ (p : Checked) (t : Run) (of : IsRunOf p t) (keep : Bool) (free line : ℕ) (free_ones : behind_variables p.uniforms ≤ free)
    (held : Bool)
    (m : State) (place spent : ℕ) (f : Flat) (w : IsWithout p t held m place spent f) (d e : Expression)
    (first_named : bounded.IsNamed (names_of p) d) (second_named : bounded.IsNamed (names_of p) e) (locals : ℕ) where
  abbrev one : Formula
  one = formula_of d

  abbrev two : Formula
  two = formula_of e

  abbrev both : Formula
  both = Pair one two

  abbrev view : View
  view = seen p (one_more m)

  abbrev a : ℤ
  a = value view (term_of d)

  abbrev b : ℤ
  b = value view (term_of e)

  abbrev count : ℕ
  count = or_empty (range_width p.procs a b)

  abbrev start : Flat
  start = begun t.code line f

  abbrev left : Bool
  left = still held both

  abbrev part : List Instr
  part = entering keep held free one two

  abbrev position : ℕ
  position = positions one + positions two + 1

  abbrev low : ℕ
  low = first_at Uniform free one two

  abbrev up : ℕ
  up = second_at Uniform free one two

  both_named : IsNamed (names_of p) both
  both_named = (expressions_are_named (names_of p) d first_named, expressions_are_named (names_of p) e second_named)

  abbrev end : Flat
  end = acts_at_once t.code (groups.evaluated Uniform free both) start

  end_leaves : Leaves p free (one_more m) f end
  end_leaves = valued_leaves p t of held m place spent f w line free both both_named free_ones free (omega arith)

  low_is : end.uniform.registers low ≡ a
  low_is =
      (pairs_are_evaluated_outside t.code p (one_more m) free one two start
      (may p t of held m place spent f w line free both both_named free_ones)).0
      ∙ ap (value view) (expressions_are_terms d)

  up_is : end.uniform.registers up ≡ b
  up_is =
      (pairs_are_evaluated_outside t.code p (one_more m) free one two start
      (may p t of held m place spent f w line free both both_named free_ones)).1
      ∙ ap (value view) (expressions_are_terms e)

  abbrev inside : Flat
  inside = after_instr t.code (instr.Index index) (after_instr t.code (Enter low up position) end)

  acts_are : done t.code line part f ≡ inside
  acts_are = part_acts p t of held m place spent f w line free both both_named free_ones keep held
      (Enter low up position ∷ instr.Index index ∷ [])

  notes_are : notes t.code part start ≡ notes_behind (heading_of start) 0 All (whole_range p.procs view (term_of d) (term_of e)).steps
  notes_are =
      let h = heading_of start in
      let k = kind_of (range_width p.procs a b) in
      part_notes p t of held m place spent f w line free both both_named free_ones keep held
      (Enter low up position ∷ instr.Index index ∷ [])
      ∙ ap (least (notes_behind h 0 All (steps_in view both)))
      (entered_notes t.code p free (one_more m) f end end_leaves of.procs low up position a b low_is up_is locals
      ∙ ap (λ x. note_key x position All k) (valued_heading p t of held m place spent f w line free both both_named free_ones))
      ∙ pair_then_test h view one two (steps view (term_of d)) (steps view (term_of e)) (testing k) (steps_are_steps view d)
      (steps_are_steps view e)

  abbrev team : State
  team = with_team a count locals (one_more m)

  shows_are : ShowsInside p locals team (done t.code line part f)
  shows_are = subst (ShowsInside p locals team) (sym acts_are)
      (entered_shows t.code p free (one_more m) f end end_leaves of.procs low up position a b low_is up_is locals)

  stands_are : StandsIn (behind_locals locals) (behind_locals locals) (everybody count) (done t.code line part f)
  stands_are = subst (StandsIn (behind_locals locals) (behind_locals locals) (everybody count)) (sym acts_are)
      (entered_stands t.code p free (one_more m) f end end_leaves of.procs low up position a b low_is up_is locals)

  may_enter : Stand t place (Mark line ∷ part) → IsCalm t.code (place + length (Mark line ∷ part)) →
      MayBegin t line part held left m place spent f
  may_enter stand calm =
      let x = w.shows in
      let y = shows_are in
      let r = y.rests in
      record {
        formed = of.formed;
        between = w.between;
        rests = x.rests;
        stand = stand;
        fine = straight_parts_are_fine.entered keep held free one two;
        asks = r.asks;
        calm = subst (IsCalm t.code) (let k : place + length (Mark line ∷ part) ≡ place + 1 + length part = omega arith in k) calm;
      }

  part_costs : costs t part (after_instr t.code (Mark line) f) ≤ evaluating t both
  part_costs =
      let x = w.shows in
      let r = x.rests in
      let y = w.between in
      straight_parts_cost.entered t keep held free one two (after_instr t.code (Mark line) f) r.asks
      (marks_hold t.code line held f y.holds)

  -- behind it the run is inside
  has_entered : (m.count < t.bound) → (g : Flat) → HasPassed t line part left place spent f g → (most : ℕ) →
      spent + evaluating t both ≤ most →
      HasEntered p t free locals left (place + length (Mark line ∷ part)) m f most (a, count) (one_more m) g
  has_entered below g h most few =
      let l = end_leaves in
      let k = part_costs in
      let values = sees_values p (one_more m) (next_values m w.values) in
      let state = next_sizes p m w.sizes in
      let here : IsBetween t left team (place + 1 + length part) (spent + costs t part (after_instr t.code (Mark line) f)) g = record {
        comes = h.comes;
        told = h.told;
        holds = h.holds;
        count = ap (λ (x : Flat). x.uniform.count) (h.seen ∙ acts_are) ∙ l.count;
        within = omega (arith, below);
        output = ap (λ (x : Flat). items x.uniform.output) (h.seen ∙ acts_are) ∙ l.output;
      } in
      record {
        within = record {
          between = between_at t left team g (place + 1 + length part) (place + length (Mark line ∷ part))
              (spent + costs t part (after_instr t.code (Mark line) f)) most (omega arith) (omega (arith, k, few)) here;
          shows = subst (ShowsInside p locals team) (sym h.seen) shows_are;
          stands = subst (StandsIn (behind_locals locals) (behind_locals locals) (everybody count)) (sym h.seen) stands_are;
          sizes = record { uniforms = state.uniforms; cells = state.cells };
          locals_of = members_have_locals a count locals;
          values = team_has_values p.procs a b locals (one_more m) (value_is (names_of p) view values d first_named)
              (value_is (names_of p) view values e second_named) (next_values m w.values);
        };
        registers = λ r low up. ap (λ (x : Flat). x.uniform.registers r) (h.seen ∙ acts_are) ∙ l.registers r low up;
        later = omega arith;
      }

  pub enters_follow : Stand t place (Mark line ∷ part) → IsCalm t.code (place + length (Mark line ∷ part)) →
      Leads t spent held left (events.begun t.bound m (Runs (nesting both) false None (formulas.reads both) ∷ []))
      (Enters p t free locals left (place + length (Mark line ∷ part)) m f)
      (evaluated t.bound line (λ m. attempt_range p.procs (seen p m) d e) m)
  enters_follow stand calm =
      evaluates_by t line part held left m place spent f (may_enter stand calm) spent held left refl
      (Runs (nesting both) false None (formulas.reads both) ∷ [])
      (λ m. attempt_range p.procs (seen p m) d e) (whole_range p.procs view (term_of d) (term_of e))
      (Enters p t free locals left (place + length (Mark line ∷ part)) m f) (whole_ranges p.procs view d e) notes_are
      (λ below g h. (run_holds held both, (g, has_entered below g h _ (let l = run_spends t held both in omega (arith, l)))))
