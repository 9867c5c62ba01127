-- An `if` outside pardo, whose parts the run is led along wherever they stand.
use Rattle.std.proofs.Common.{◌≡◌, ℕ, ◌+◌, ◌≤◌, List, [], ◌∷◌, ◌++◌, length, Bool, true, false, subst, arith}
use Rattle.std.proofs.Common.{length-append}
use Rattle.std.specs.Prelude.{if◌then◌else◌}
use Rattle.superstep_instructions.specs.declared.instr.Side.TheVariants.{Uniform}
use Rattle.superstep_instructions.specs.declared.instr.Instr.{Instr}
use Rattle.superstep_instructions.specs.declared.instr.Instr.TheVariants.{Mark, Jump}
use Rattle.pram_names.specs.declared.body.Expression.{Expression}
use Rattle.pram_values.specs.Truth.{is_nonzero}
use Rattle.pram_check.specs.Checked.{Checked}
use Rattle.pram_check.specs.Bounded.{IsNamed, names_of}
use Rattle.pram_meaning.specs.Store.{State}
use Rattle.pram_meaning.specs.Bounded.{Done, Goes, then_do, tested}
use Rattle.flat_machine.specs.Flat.{Flat}
use Rattle.flat_stretches.specs.Along.{Run}
use Rattle.flat_stretches.specs.Folds.{Stand}
use Rattle.flat_stretches.specs.Tells.{IsCalm}
use Rattle.flat_stretches.proofs.Joins.{stands_split}
use Rattle.plain_form.specs.Formulas.{formula_of, nesting}
use Rattle.plain_form.specs.Groups.{value_at}
use Rattle.plain_form.specs.Registers.{behind_variables}
use Rattle.plain_form.specs.Shapes.{flush, sent, chosen}
use Rattle.verified_form.specs.Calm.{BeginsCalm}
use Rattle.verified_form.specs.Straight.{testing}
use Rattle.verified_form.proofs.Calm.{statements_begin_calm, parts_end_calm, branches_are_calm}
use Rattle.plain_form.specs.Formulas as formulas
use Rattle.std.specs.Prelude.{None}
use Rattle.exchange_bound.specs.Events as events
use Rattle.exchange_bound.specs.Events.{Event, Runs, Cut, behind, row_events, list_events, turns_events, for_events}
use Rattle.compiled_meaning.specs.Between.{IsRunOf}
use Rattle.compiled_meaning.specs.Without.{IsWithout}
use Rattle.compiled_meaning.proofs.Outside.Leads.{Leads, leads_then, leads_as}
use Rattle.compiled_meaning.proofs.Outside.Parts.{RunsPart, part_sent, chosen_alone, chosen_of_two}
use Rattle.compiled_meaning.proofs.Outside.Passed.{Passes, passed_both, passed_there}
use Rattle.compiled_meaning.proofs.Outside.Straight.{passed_since}
use Rattle.compiled_meaning.proofs.Outside.Tests.{Tests, branch_follows}
use Rattle.compiled_meaning.proofs.Outside.Led.{IsLed}

module _ (p : Checked) (t : Run) (of : IsRunOf p t) (keep : Bool) where
  module _ (free line : ℕ) (free_ones : behind_variables p.uniforms ≤ free) (e : Expression) (named : IsNamed (names_of p) e)
      (held : Bool) where
    abbrev r : ℕ
    r = value_at Uniform free (formula_of e)

    -- an `if`, from behind its test on
    module _ (part : ℕ → List Instr) (last : Bool) (performed : State → Done) (inside : State → List Event)
        (begins : (at : ℕ) → BeginsCalm t at (part at)) (leads : (at : ℕ) → IsLed p t free false last at (part at) performed inside)
        (place : ℕ) where
      abbrev test : List Instr
      test = Mark line ∷ testing keep held free (formula_of e)

      abbrev at : ℕ
      at = place + length test

      abbrev own : List Instr
      own = sent (part (at + 1)) last

      own_begins : BeginsCalm t (at + 1) own
      own_begins = statements_begin_calm.sent t (at + 1) (part (at + 1)) last (begins (at + 1))

      -- what either part does, behind the test
      abbrev Chooses : (some : Bool) (other : ℕ → List Instr) (other_performed : State → Done) (other_inside : State → List Event) → Type 0
      Chooses some other other_performed other_inside =
          (n : ℕ) (m : State) (g : Flat) → IsWithout p t false m at n g → (b : Bool) → is_nonzero (g.uniform.registers r) ≡ b →
          Leads t n false false ((if b then inside m else other_inside m) ++ Cut ∷ [])
          (Passes p t free false (at + length (chosen at r own some other)) m g) (if b then performed m else other_performed m)

      branch_leads : (some : Bool) (other : ℕ → List Instr) (other_performed : State → Done) (other_inside : State → List Event) →
          ((n : ℕ) → BeginsCalm t n (other n)) →
          (Stand t at (chosen at r own some other) → IsCalm t.code (at + 1 + length own) →
          IsCalm t.code (at + length (chosen at r own some other)) → Chooses some other other_performed other_inside) →
          IsLed p t free held false place (test ++ chosen at r own some other)
          (λ m. then_do (tested p t.bound line e m) (λ b m. if b then performed m else other_performed m))
          (λ m. events.begun t.bound m (Runs (nesting (formula_of e)) false None (formulas.reads (formula_of e)) ∷ Cut ∷ [])
          ++ behind (tested p t.bound line e m) (λ b m. (if b then inside m else other_inside m) ++ Cut ∷ []))
      branch_leads some other other_performed other_inside others choose m spent f w stand calm =
          let rest = chosen at r own some other in
          let n = length-append test rest in
          let split = stands_split t place test rest stand in
          let to = place + length (test ++ rest) in
          let end_calm = subst (IsCalm t.code) (let k : to ≡ at + length rest = omega (arith, n) in k) calm in
          let calms = branches_are_calm t at r own some other split.1 own_begins others end_calm in
          leads_then t spent held false false (events.begun t.bound m (Runs (nesting (formula_of e)) false None
          (formulas.reads (formula_of e)) ∷ Cut ∷ []))
          (Tests p t free r at m f) (Passes p t free false to m f) (tested p t.bound line e m)
          (λ b m. if b then performed m else other_performed m) (λ b m. (if b then inside m else other_inside m) ++ Cut ∷ [])
          (branch_follows p t of keep free line free_ones held m place spent f w e named split.0 calms.0)
          (λ k b m1 x.
          let passed = x.1 in
          leads_as t k false false ((if b then inside m1 else other_inside m1) ++ Cut ∷ [])
          (Passes p t free false (at + length rest) m1 x.0)
          (Passes p t free false to m f) (if b then performed m1 else other_performed m1)
          (choose split.1 calms.1 end_calm k m1 x.0 passed.without b x.2)
          (λ j u m2 y. (
            y.0,
            passed_there p t free false (at + length rest) to m f j j m2 y.0 (omega (arith, n)) (omega arith)
                (passed_both p t free false false at (at + length rest) m m1 f x.0 k j free m2 y.0 (omega arith)
                (passed_since p t free false at m f k m1 x.0 passed) y.1),
          )))

      -- the first part, where it stands
      own_runs : Stand t (at + 1) own → IsCalm t.code (at + 1 + length own) →
          RunsPart p t free (at + 1) own false performed (λ m. inside m ++ Cut ∷ [])
      own_runs stand calm =
          part_sent p t free (at + 1) (part (at + 1)) last performed inside stand
          (λ m n g x. leads (at + 1) m n g x (stands_split t (at + 1) (part (at + 1)) (flush last) stand).0
          (parts_end_calm t (at + 1) (part (at + 1)) last stand calm))

      pub alone_leads : IsLed p t free held false place (test ++ chosen at r own false (λ n. []))
          (λ m. then_do (tested p t.bound line e m) (λ b m. if b then performed m else Goes tt m))
          (λ m. events.begun t.bound m (Runs (nesting (formula_of e)) false None (formulas.reads (formula_of e)) ∷ Cut ∷ [])
          ++ behind (tested p t.bound line e m) (λ b m. (if b then inside m else []) ++ Cut ∷ []))
      alone_leads =
          branch_leads false (λ n. []) (λ m. Goes tt m) (λ m. [])
          (λ n stand calm. subst (IsCalm t.code) (let k : n + 0 ≡ n = omega arith in k) calm)
          (λ stand calm end_calm n m g w b e.
          chosen_alone p t free at r own m n g w performed inside (own_runs stand.1 calm) (λ n. []) stand b e)

      -- and one of two parts
      pub pair_leads : (part2 : ℕ → List Instr) (last2 : Bool) (performed2 : State → Done) (inside2 : State → List Event) →
          ((at : ℕ) → BeginsCalm t at (part2 at)) → ((at : ℕ) → IsLed p t free false last2 at (part2 at) performed2 inside2) →
          IsLed p t free held false place (test ++ chosen at r own true (λ n. sent (part2 n) last2))
          (λ m. then_do (tested p t.bound line e m) (λ b m. if b then performed m else performed2 m))
          (λ m. events.begun t.bound m (Runs (nesting (formula_of e)) false None (formulas.reads (formula_of e)) ∷ Cut ∷ [])
          ++ behind (tested p t.bound line e m) (λ b m. (if b then inside m else inside2 m) ++ Cut ∷ []))
      pair_leads part2 last2 performed2 inside2 begins2 leads2 =
          let other = λ (n : ℕ). sent (part2 n) last2 in
          branch_leads true other performed2 inside2 (λ n. statements_begin_calm.sent t n (part2 n) last2 (begins2 n))
          (λ stand calm end_calm n m g w b e.
          let from = at + 1 + length own + 1 in
          let jump = Jump (from + length (other from)) in
          let k = length-append own (jump ∷ other from) in
          let split = stands_split t (at + 1) own (jump ∷ other from) stand.1 in
          let second_calm = subst (IsCalm t.code)
          (let q : at + length (chosen at r own true other) ≡ from + length (other from) = omega (arith, k) in q) end_calm in
          chosen_of_two p t free at r own m n g w performed inside (own_runs split.0 calm) other performed2 inside2
          (part_sent p t free from (part2 from) last2 performed2 inside2 split.1.1
          (λ m n g x. leads2 from m n g x (stands_split t from (part2 from) (flush last2) split.1.1).0
          (parts_end_calm t from (part2 from) last2 split.1.1 second_calm))) stand b e)
