-- A pardo: the run goes in, follows its body on all its processors, and goes out.
use Rattle.std.proofs.Common.{◌≡◌, ℕ, zero, suc, ◌+◌, ◌≤◌, List, [], ◌∷◌, ◌++◌, length, Bool, false, ℤ, refl, sym, ap, ◌∙◌, subst, arith}
use Rattle.std.proofs.Common.{length-append}
use Rattle.std.specs.List.{range_with_len}
use Rattle.superstep_instructions.specs.declared.instr.Instr.{Instr}
use Rattle.superstep_instructions.specs.declared.instr.Instr.TheVariants.{Mark, Leave}
use Rattle.pram_names.specs.declared.body.Expression.{Expression}
use Rattle.pram_names.specs.declared.body.Step.{Step}
use Rattle.pram_check.specs.Checked.{Checked}
use Rattle.pram_check.specs.Bounded as bounded
use Rattle.pram_check.specs.Bounded.{AreSteps, names_of, with_locals}
use Rattle.pram_meaning.specs.Attempt.{attempt_range}
use Rattle.pram_meaning.specs.Bounded.{Done, Goes, Stops, Reaches, evaluated, pardo, pardo_done, perform_list_on}
use Rattle.pram_meaning.specs.Store.{State, numbers, seen, with_team, without_team}
use Rattle.flat_machine.specs.Flat.{Flat, after_instr}
use Rattle.flat_stretches.specs.Along.{Run, IsAt}
use Rattle.flat_stretches.specs.Folds.{Stand}
use Rattle.flat_stretches.specs.Frames as frames
use Rattle.flat_stretches.specs.Frames.{everybody, present}
use Rattle.flat_stretches.specs.Tells.{IsCalm}
use Rattle.flat_stretches.proofs.Applied.{instructions_apply}
use Rattle.flat_stretches.proofs.Frames.{everybody_is_present}
use Rattle.flat_stretches.proofs.Joins.{stands_split}
use Rattle.plain_form.specs.Formulas.{Pair, formula_of, nesting}
use Rattle.plain_form.specs.Inside as inner
use Rattle.plain_form.specs.Inside.{steps_code, steps_left}
use Rattle.plain_form.specs.Registers.{behind_variables, behind_locals}
use Rattle.plain_form.specs.Shapes.{still}
use Rattle.verified_form.specs.Straight.{entering}
use Rattle.verified_form.proofs.Calm.{statements_begin_calm, ranges_are_calm}
use Rattle.compiled_formulas.specs.Outside.{ShowsOutside}
use Rattle.plain_form.specs.Formulas as formulas
use Rattle.std.specs.Prelude.{None}
use Rattle.exchange_bound.specs.Events as events
use Rattle.exchange_bound.specs.Events.{Event, Runs, behind, steps_events}
use Rattle.compiled_meaning.specs.Between.{IsRunOf}
use Rattle.compiled_meaning.proofs.EachStatement.Places.{work_between}
use Rattle.compiled_meaning.specs.Within.{IsWithin}
use Rattle.compiled_meaning.specs.Steps.{GoesWithin}
use Rattle.compiled_meaning.proofs.Inside.Grown.{Grows, list_grows}
use Rattle.compiled_meaning.proofs.Inside.Steps.{steps_are_followed}
use Rattle.compiled_meaning.specs.Without.{IsWithout}
use Rattle.compiled_meaning.proofs.Outside.Entering.{HasEntered, Enters, enters_follow}
use Rattle.compiled_meaning.proofs.Outside.Leads.{Leads, leads_then, leads_after, leads_by}
use Rattle.compiled_meaning.proofs.Outside.Passed.{Passes}

-- ---- out of the range

module _ (p : Checked) (t : Run) (locals base : ℕ) (fr : frames.Frame) (left : Bool) (m : State) (place spent : ℕ) (g : Flat)
    (x : IsWithin p t locals base fr left m place spent g) where
  pub leave_range : IsAt t place Leave → IsWithout p t left (without_team m) (place + 1) spent (after_instr t.code Leave g)
  leave_range at =
      let b = work_between t left m place spent g x.between Leave at refl refl refl refl refl in
      let s = x.shows in
      let w = s.outside in
      let r = s.rests in
      let z = x.sizes in
      let v = x.values in
      record {
        between = record {
          comes = b.comes;
          told = b.told;
          holds = b.holds;
          count = b.count;
          within = b.within;
          output = b.output;
        };
        shows = subst (ShowsOutside p (without_team m)) (sym (instructions_apply t.code Leave g refl)) (record {
          shows = record {
            nothing = w.nothing;
            variables = w.variables;
            indices = λ i. absurd i;
            locals = λ x i. absurd i;
            cells = w.cells;
          };
          bare = record { put = refl; held = λ c. refl };
          rests = record { asks = r.asks; awaited = r.awaited; own_asks = λ v. refl; own_awaited = λ v. refl };
        });
        sizes = record { uniforms = z.uniforms; cells = z.cells };
        values = record { output = v.output; uniforms = v.uniforms; cells = v.cells; team = tt };
      }

-- ---- all of it

-- the numbers of all processors, as the meaning has them
range_is_numbers : (a k : ℕ) → range_with_len a k ≡ numbers a k
range_is_numbers a zero = refl
range_is_numbers a (suc k) = ap (λ vs. a ∷ vs) (range_is_numbers (a + 1) k)

-- where it goes on, that is so of the state
grown_also : (t : Run) (n spent : ℕ) (held left : Bool) (es : List Event) (first : ℕ → Unit {0} → State → Type 0) (d : Done) → Grows n d →
    Leads t spent held left es first d → Leads t spent held left es (λ k u m. first k u m × (n ≤ m.count)) d
grown_also t n spent held left es first (Goes u m) l h = (h.0, (h.1, l))
grown_also t n spent held left es first (Stops fault out) l h = h
grown_also t n spent held left es first (Reaches out) l h = h

module _ (p : Checked) (t : Run) (of : IsRunOf p t) (keep : Bool) (free line : ℕ) (free_ones : behind_variables p.uniforms ≤ free)
    (held : Bool)
    (m : State) (place spent : ℕ) (f : Flat) (w : IsWithout p t held m place spent f) (d e : Expression)
    (first_named : bounded.IsNamed (names_of p) d) (second_named : bounded.IsNamed (names_of p) e) (locals : ℕ) (body : List Step)
    (steps_named : AreSteps (with_locals locals (names_of p)) body) where
  abbrev frame : inner.Frame
  frame = record { keep = keep; vote = free }

  abbrev base : ℕ
  base = behind_locals locals

  abbrev before : List Instr
  before = Mark line ∷ entering keep held free (formula_of d) (formula_of e)

  abbrev at : ℕ
  at = place + length before

  abbrev left : Bool
  left = still held (Pair (formula_of d) (formula_of e))

  abbrev steps : List Instr
  steps = steps_code frame base at left body

  abbrev all : List Instr
  all = before ++ steps ++ (Leave ∷ [])

  abbrev last : Bool
  last = steps_left left body

  abbrev ends : ℕ → Unit {0} → State → Type 0
  ends = Passes p t free last (place + length all) m f

  -- the body, from inside on
  body_leads : Stand t at steps → IsCalm t.code (at + length steps) → IsAt t (at + length steps) Leave → (n : ℕ) (r : ℤ × ℕ) (m1 : State)
      (g : Flat) → HasEntered p t free locals left at m f n r m1 g →
      Leads t n left last (steps_events p t.bound body (numbers 0 r.1) (with_team r.0 r.1 locals m1)) ends
      (pardo_done p t.bound locals body r.0 r.1 m1)
  body_leads stand calm leave n r m1 g x =
      let k = r.1 in
      let team = with_team r.0 k locals m1 in
      let vs = present (everybody k) in
      let goes = λ (s : ℕ) (u : Unit {0}) (m2 : State). GoesWithin p t locals base free (everybody k) last (at + length steps) s g m2 in
      let h = steps_are_followed p t frame locals base (everybody k) left body team at n g (record {
        of = of;
        free = omega arith;
        vote = free_ones;
        named = steps_named;
        stand = stand;
        calm = calm;
        within = x.within;
      }) in
      let es = steps_events p t.bound body vs team in
      let d = perform_list_on p t.bound body vs team in
      let here : Leads t n left last es goes d =
      leads_by t n left last es goes _ d h.follows h.left (λ u m2 y. y) in
      let there : Leads t n left last (steps_events p t.bound body (numbers 0 k) team) goes
      (perform_list_on p t.bound body (numbers 0 k) team) =
      subst (λ us. Leads t n left last (steps_events p t.bound body us team) goes (perform_list_on p t.bound body us team))
      (everybody_is_present k ∙ range_is_numbers 0 k) here in
      let sizes = length-append (before ++ steps) (Leave ∷ []) in
      let sizes2 = length-append before steps in
      leads_after t n left last (steps_events p t.bound body (numbers 0 k) team) (λ s u m2. goes s u m2 × (team.count ≤ m2.count)) ends
      (perform_list_on p t.bound body (numbers 0 k) team) (λ u m2. tt) (λ u m2. without_team m2)
      (grown_also t team.count n left last (steps_events p t.bound body (numbers 0 k) team) goes
      (perform_list_on p t.bound body (numbers 0 k) team) (list_grows p t.bound body team.count (numbers 0 k) team (omega arith)) there)
      (λ s u m2 y.
      let inside = y.0 in
      let out = leave_range p t locals base (everybody k) last m2 (at + length steps) s inside.behind inside.within leave in
      let begun = x.later in
      let grown = y.1 in (
        after_instr t.code Leave inside.behind,
        record {
          without = subst (λ n. IsWithout p t last (without_team m2) n s (after_instr t.code Leave inside.behind))
              (let q : at + length steps + 1 ≡ place + length all = omega (arith, sizes, sizes2) in q) out;
          registers = λ r low up. inside.registers r up ∙ x.registers r low up;
          later = omega (arith, begun, grown);
        },
      ))

  pub pardo_follows : Stand t place all → IsCalm t.code (place + length all) →
      Leads t spent held last (events.begun t.bound m (Runs (nesting (Pair (formula_of d) (formula_of e))) false None
      (formulas.reads (Pair (formula_of d) (formula_of e))) ∷ [])
      ++ behind (evaluated t.bound line (λ m. attempt_range p.procs (seen p m) d e) m)
      (λ r m. steps_events p t.bound body (numbers 0 r.1) (with_team r.0 r.1 locals m))) ends
      (pardo p t.bound line d e locals body m)
  pardo_follows stand calm =
      let calms = ranges_are_calm t place before steps stand (statements_begin_calm.steps t frame base at left body) calm in
      let outer = stands_split t place (before ++ steps) (Leave ∷ []) stand in
      let parts = stands_split t place before steps outer.0 in
      let sizes = length-append before steps in
      let e2 : place + length (before ++ steps) ≡ at + length steps = omega (arith, sizes) in
      leads_then t spent held left last (events.begun t.bound m (Runs (nesting (Pair (formula_of d) (formula_of e))) false None
      (formulas.reads (Pair (formula_of d) (formula_of e))) ∷ []))
      (Enters p t free locals left at m f) ends (evaluated t.bound line (λ m. attempt_range p.procs (seen p m) d e) m)
      (λ r. pardo_done p t.bound locals body r.0 r.1) (λ r m. steps_events p t.bound body (numbers 0 r.1) (with_team r.0 r.1 locals m))
      (enters_follow p t of keep free line free_ones held m place spent f w d e first_named second_named locals parts.0 calms.0)
      (λ n r m1 x. body_leads parts.1 (subst (IsCalm t.code) e2 calms.1) (subst (λ k. IsAt t k Leave) e2 outer.1.0) n r m1 x.0 x.1)
