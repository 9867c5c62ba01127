-- What a statement outside pardo evaluates behind its mark: the state there, and what it notes.
use Rattle.std.proofs.Common.{◌≡◌, ℕ, ◌+◌, ◌<◌, ◌≤◌, List, ◌++◌, Bool, ap, ◌∙◌, arith}
use Rattle.pram_values.specs.declared.place.Place.TheVariants.{All}
use Rattle.superstep_instructions.specs.declared.instr.Side.TheVariants.{Uniform}
use Rattle.superstep_instructions.specs.declared.instr.Instr.{Instr}
use Rattle.superstep_machine.specs.Keys.{least}
use Rattle.superstep_machine.specs.Run.{items}
use Rattle.pram_check.specs.Checked.{Checked}
use Rattle.pram_check.specs.Bounded.{names_of}
use Rattle.pram_meaning.specs.Store.{State, seen}
use Rattle.flat_machine.specs.Flat.{Flat}
use Rattle.flat_stretches.specs.Along.{Run}
use Rattle.flat_stretches.specs.Folds.{acts_at_once}
use Rattle.flat_stretches.specs.Notes.{notes}
use Rattle.statement_evaluation.specs.Noted.{notes_behind}
use Rattle.plain_form.specs.Registers.{behind_variables}
use Rattle.plain_form.specs.Formulas.{Formula}
use Rattle.plain_form.specs.Groups.{evaluated}
use Rattle.verified_form.specs.Straight.{evaluation}
use Rattle.compiled_formulas.specs.Terms.{steps_in}
use Rattle.compiled_formulas.specs.Environments.{IsNamed}
use Rattle.compiled_formulas.specs.Headings.{heading_of}
use Rattle.compiled_formulas.specs.Outside.{ShowsOutside, IsEvaluatedOutside, MayEvaluateOutside}
use Rattle.compiled_formulas.proofs.Outside.{formulas_are_evaluated_outside}
use Rattle.compiled_meaning.specs.Between.{IsRunOf}
use Rattle.compiled_meaning.specs.Begins.{begun}
use Rattle.compiled_meaning.proofs.EachStatement.Marked.{begun_bare, begun_rests, evaluation_acts_with, evaluation_notes_with}
use Rattle.compiled_meaning.specs.Without.{IsWithout}
use Rattle.compiled_meaning.proofs.Inside.Attempted.{one_more}

-- a straight part leaves a state of the program in g, with the free registers as they were in f
pub record Leaves (p : Checked) (free : ℕ) (m : State) (f g : Flat) : Type 0 where
  pub shows : ShowsOutside p m g
  pub count : g.uniform.count ≡ m.count
  pub output : items g.uniform.output ≡ m.output
  pub registers : (r : ℕ) → behind_variables p.uniforms ≤ r → r < free → g.uniform.registers r ≡ f.uniform.registers r

module _ (p : Checked) (t : Run) (of : IsRunOf p t) (held : Bool) (m : State) (place spent : ℕ) (f : Flat)
    (w : IsWithout p t held m place spent f) (line base : ℕ) (e : Formula) (named : IsNamed (names_of p) e)
    (free_ones : behind_variables p.uniforms ≤ base) where
  abbrev pub marked : Flat
  marked = begun t.code line f

  -- the state behind the code of the formula
  abbrev pub valued : Flat
  valued = acts_at_once t.code (evaluated Uniform base e) marked

  pub marked_shows : ShowsOutside p (one_more m) marked
  marked_shows =
      let s = w.shows in
      let h = s.shows in record {
        shows = record {
          nothing = h.nothing;
          variables = h.variables;
          indices = h.indices;
          locals = h.locals;
          cells = h.cells;
        };
        bare = begun_bare t.code line f;
        rests = begun_rests t.code line f s.rests;
      }

  pub may : MayEvaluateOutside t.code p (one_more m) base e marked
  may = (of.layout, named, free_ones, marked_shows)

  pub is_valued : IsEvaluatedOutside t.code p (one_more m) base e marked
  is_valued = formulas_are_evaluated_outside t.code p (one_more m) base e marked may

  pub valued_leaves : (free : ℕ) → free ≤ base → Leaves p free (one_more m) f valued
  valued_leaves free l =
      let x = is_valued in
      let left = x.left in
      let b = w.between in record {
        shows = x.shows;
        count = left.count ∙ ap (λ n. n + 1) b.count;
        output = ap items left.output ∙ b.output;
        registers = λ r low up. left.registers r (omega (arith, up, l));
      }

  pub valued_heading : heading_of valued ≡ heading_of marked
  valued_heading = let x = is_valued in let left = x.left in λ i. record { count = left.count i; line = left.line i }

  -- behind it what stands behind its code
  pub part_acts : (keep before : Bool) (is : List Instr) →
      acts_at_once t.code (evaluation keep before Uniform base e ++ is) marked ≡ acts_at_once t.code is valued
  part_acts keep before is =
      let s = marked_shows in evaluation_acts_with t.code marked s.bare s.rests keep before Uniform base e is

  pub part_notes : (keep before : Bool) (is : List Instr) →
      notes t.code (evaluation keep before Uniform base e ++ is) marked
      ≡ least (notes_behind (heading_of marked) 0 All (steps_in (seen p m) e)) (notes t.code is valued)
  part_notes keep before is =
      let s = marked_shows in
      let x = is_valued in
      evaluation_notes_with t.code marked s.bare s.rests keep before Uniform base e is
      ∙ ap (λ k. least k (notes t.code is valued)) x.tells
