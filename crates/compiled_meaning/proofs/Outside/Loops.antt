-- The loops outside pardo, whose bodies the run is led along wherever they stand.
use Rattle.std.proofs.Common.{◌≡◌, ℕ, ◌+◌, ◌<◌, ◌≤◌, List, [], ◌∷◌, ◌++◌, length, Bool, false, refl, subst, arith}
use Rattle.std.proofs.Common.{length-append}
use Rattle.pram_model.specs.Layout.{width}
use Rattle.superstep_instructions.specs.declared.instr.Side.TheVariants.{Uniform}
use Rattle.superstep_instructions.specs.declared.instr.Instr.{Instr}
use Rattle.superstep_instructions.specs.declared.instr.Instr.TheVariants.{Mark, Jump, JumpIfZero}
use Rattle.pram_names.specs.declared.body.Expression.{Expression}
use Rattle.pram_check.specs.Checked.{Checked}
use Rattle.pram_check.specs.Bounded.{IsNamed, names_of}
use Rattle.pram_meaning.specs.Attempt.{attempt_bounds}
use Rattle.pram_meaning.specs.Store.{State, seen}
use Rattle.pram_meaning.specs.Bounded.{Done, evaluated, tested, turns, for_turns, for_all}
use Rattle.flat_stretches.specs.Along.{Run}
use Rattle.flat_stretches.specs.Tells.{IsCalm}
use Rattle.flat_stretches.proofs.Joins.{stands_split, stands_join}
use Rattle.plain_form.specs.Formulas.{Pair, formula_of, nesting}
use Rattle.plain_form.specs.Groups.{value_at}
use Rattle.plain_form.specs.Registers.{behind_variables, behind_turns, more}
use Rattle.plain_form.specs.Shapes as shapes
use Rattle.plain_form.specs.Shapes.{flush, sent, still, waits, chosen, looped, turned}
use Rattle.verified_form.specs.Calm.{BeginsCalm}
use Rattle.verified_form.specs.Straight.{evaluation, bounding, stepping}
use Rattle.verified_form.proofs.Calm.{statements_begin_calm, parts_end_calm, loops_are_calm, turns_are_calm}
use Rattle.plain_form.specs.Formulas as formulas
use Rattle.std.specs.Prelude.{None}
use Rattle.exchange_bound.specs.Events as events
use Rattle.exchange_bound.specs.Events.{Event, Runs, Cut, behind, row_events, list_events, turns_events, for_events}
use Rattle.exchange_bound.specs.Bound.{one_if}
use Rattle.compiled_meaning.specs.Between.{IsRunOf}
use Rattle.compiled_meaning.proofs.Outside.Bounding.{Bounds, bounds_follow}
use Rattle.compiled_meaning.proofs.Outside.Fors.{turns_stand, for_leads}
use Rattle.compiled_meaning.proofs.Outside.Leads.{leads_then, leads_as}
use Rattle.compiled_meaning.proofs.Outside.Parts.{RunsPart, part_sent}
use Rattle.compiled_meaning.proofs.Outside.Passed.{Passes, passed_both, passed_there, passed_here, passed_flush}
use Rattle.compiled_meaning.proofs.Outside.Straight.{passed_since}
use Rattle.compiled_meaning.proofs.Outside.Whiles.{loop_stands, while_leads}
use Rattle.compiled_meaning.proofs.Outside.Led.{IsLed}

module _ (p : Checked) (t : Run) (of : IsRunOf p t) (keep : Bool) where
  module _ (free line : ℕ) (free_ones : behind_variables p.uniforms ≤ free) (e : Expression) (named : IsNamed (names_of p) e)
      (held : Bool) where
    abbrev r : ℕ
    r = value_at Uniform free (formula_of e)

    -- a loop whose body the run follows wherever that stands
    pub loop_leads : (part : ℕ → List Instr) (last : Bool) (performed : State → Done) (inside : State → List Event) →
        ((at : ℕ) → BeginsCalm t at (part at)) → ((at : ℕ) → IsLed p t free false last at (part at) performed inside) → (place : ℕ) →
        IsLed p t free held false place (shapes.while_code keep held place line free (formula_of e) (λ n. sent (part n) last))
        (turns (t.bound + 1) (tested p t.bound line e) performed)
        (turns_events (t.bound + 1) (λ m. events.begun t.bound m (Cut ∷ Runs (nesting (formula_of e)) false None
        (formulas.reads (formula_of e)) ∷ Cut ∷ []))
        (tested p t.bound line e) performed inside)
    loop_leads part last performed inside begins leads place m spent f w stand calm =
        let test = Mark line ∷ evaluation keep false Uniform free (formula_of e) in
        let head = place + length (flush held) in
        let start = head + length test + 1 in
        let own = part start in
        let body = λ (n : ℕ). sent (part n) last in
        let fork = JumpIfZero r (start + length (body start) + 1) in
        let loop = looped head test r body in
        let n1 = length-append (flush held) loop in
        let n2 = length-append test (fork ∷ []) in
        let n3 = length-append (test ++ fork ∷ []) (body start) in
        let n4 = length-append ((test ++ fork ∷ []) ++ body start) (Jump head ∷ []) in
        let split = stands_split t place (flush held) loop stand in
        let stands = loop_stands t head test r part last split.1 in
        let all = stands_join t start own (flush last) stands.body stands.send in
        let calms = loops_are_calm t head line r (evaluation keep false Uniform free (formula_of e)) body split.1
        (statements_begin_calm.sent t start own last (begins start))
        (subst (IsCalm t.code) (let k : place + length (flush held ++ loop) ≡ head + length loop = omega (arith, n1) in k) calm) in
        let own_calm = parts_end_calm t start own last all calms.1 in
        let begun = passed_flush p t free held place m f spent m f split.0 (passed_here p t free held place spent m f w) in
        let first = begun.1 in
        leads_as t spent held false
        (turns_events (t.bound + 1) (λ m. events.begun t.bound m (Cut ∷ Runs (nesting (formula_of e)) false None
        (formulas.reads (formula_of e)) ∷ Cut ∷ []))
        (tested p t.bound line e) performed inside m)
        (Passes p t free false (start + length (body start) + 1) m begun.0)
        (Passes p t free false (place + length (flush held ++ loop)) m f)
        (turns (t.bound + 1) (tested p t.bound line e) performed m)
        (while_leads p t of keep free line free_ones e named head own last performed inside stands calms.0
        (λ m n g x. leads start m n g x stands.body own_calm) (t.bound + 1) held m spent begun.0 first.without (omega arith))
        (λ n u m2 x. (
          x.0,
          passed_there p t free false (start + length (body start) + 1) (place + length (flush held ++ loop)) m f n n m2 x.0
              (omega (arith, n1, n2, n3, n4)) (omega arith)
              (passed_both p t free false false head (start + length (body start) + 1) m m f begun.0 (spent + one_if held) n free m2 x.0
              (omega arith)
              first x.1),
        ))

  -- a `for` whose body the run follows wherever that stands
  pub turns_leads : (free line : ℕ) → behind_variables p.uniforms ≤ free → (x : ℕ) → x < p.uniforms → (d e : Expression) →
      IsNamed (names_of p) d →
      IsNamed (names_of p) e → (held : Bool) (part : ℕ → List Instr) (last : Bool) (performed : State → Done)
      (inside : State → List Event) →
      ((at : ℕ) → BeginsCalm t at (part at)) → ((at : ℕ) → IsLed p t (behind_turns free) false last at (part at) performed inside) →
      (place : ℕ) →
      IsLed p t free held false place
      (shapes.for_code keep held place line free x (formula_of d) (formula_of e) (λ n. sent (part n) last))
      (for_all p t.bound line x d e performed)
      (λ m. events.begun t.bound m (Runs (nesting (Pair (formula_of d) (formula_of e))) false None
      (formulas.reads (Pair (formula_of d) (formula_of e))) ∷ Cut ∷ [])
      ++ behind (evaluated t.bound line (λ m. attempt_bounds (seen p m) d e) m)
      (λ r. for_events t.bound (width r.0 r.1) x r.0 performed inside))
  turns_leads free line free_ones x declared d e first_named second_named held part last performed inside begins leads place m spent f w
      stand
      calm =
      let first = Mark line ∷ bounding keep held free (formula_of d) (formula_of e) in
      let set = Mark line ∷ stepping keep free x in
      let body = λ (n : ℕ). sent (part n) last in
      let from = place + length first in
      let rest = turned from (more free) set body in
      let to = place + length (first ++ rest) in
      let start = from + 1 + length set in
      let own = body start in
      let n = length-append first rest in
      let n1 = length-append (set ++ own) (JumpIfZero (more free) (from + 1 + length (set ++ own) + 2) ∷ Jump (from + 1) ∷ []) in
      let split = stands_split t place first rest stand in
      let end_calm = subst (IsCalm t.code) (let k : to ≡ from + length rest = omega (arith, n) in k) calm in
      let calms = turns_are_calm t from line (more free) (stepping keep free x) body split.1
      (statements_begin_calm.sent t start (part start) last (begins start)) end_calm in
      let stands = turns_stand t from (more free) set body split.1 in
      let runs : RunsPart p t (behind_turns free) start own false performed (λ m. inside m ++ Cut ∷ []) =
      part_sent p t (behind_turns free) start (part start) last performed inside stands.body
      (λ m n g y. leads start m n g y (stands_split t start (part start) (flush last) stands.body).0
      (parts_end_calm t start (part start) last stands.body calms.2)) in
      let end = from + 1 + length (set ++ own) + 2 in
      leads_then t spent held false false
      (events.begun t.bound m (Runs (nesting (Pair (formula_of d) (formula_of e))) false None
      (formulas.reads (Pair (formula_of d) (formula_of e))) ∷ Cut ∷ [])) (Bounds p t free from m f)
      (Passes p t free false to m f) (evaluated t.bound line (λ m. attempt_bounds (seen p m) d e) m)
      (λ r. for_turns t.bound (width r.0 r.1) x r.0 performed) (λ r. for_events t.bound (width r.0 r.1) x r.0 performed inside)
      (bounds_follow p t of keep free line free_ones held m place spent f w d e first_named second_named split.0 calms.0)
      (λ k r m1 y.
      let g = y.0 in
      let h = y.1 in
      let passed = h.passed in
      leads_as t k false false (for_events t.bound (width r.0 r.1) x r.0 performed inside m1) (Passes p t free false end m1 g)
      (Passes p t free false to m f) (for_turns t.bound (width r.0 r.1) x r.0 performed m1)
      (for_leads p t of keep free line free_ones x declared from own performed inside stands calms.1 runs r.0 r.1 m1 k g passed.without
      h.turns
      h.low h.high (width r.0 r.1) refl)
      (λ j u m2 z. (
        z.0,
        passed_there p t free false end to m f j j m2 z.0 (omega (arith, n, n1)) (omega arith)
            (passed_both p t free false false from end m m1 f g k j free m2 z.0 (omega arith)
            (passed_since p t free false from m f k m1 g passed) z.1),
      )))
