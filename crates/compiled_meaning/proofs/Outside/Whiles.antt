-- A `while` outside pardo, from its head on: the run follows its turns.
use Rattle.std.proofs.Common.{◌≡◌, ℕ, zero, suc, ◌+◌, ◌<◌, ◌≤◌, List, [], ◌∷◌, ◌++◌, length, Bool, true, false, refl, subst, arith}
use Rattle.std.proofs.Common.{length-append}
use Rattle.std.specs.Prelude.{if◌then◌else◌}
use Rattle.superstep_instructions.specs.declared.instr.Side.TheVariants.{Uniform}
use Rattle.superstep_instructions.specs.declared.instr.Instr.{Instr}
use Rattle.superstep_instructions.specs.declared.instr.Instr.TheVariants.{Mark, Jump, JumpIfZero}
use Rattle.pram_names.specs.declared.body.Expression.{Expression}
use Rattle.pram_check.specs.Checked.{Checked}
use Rattle.pram_check.specs.Bounded as bounded
use Rattle.pram_check.specs.Bounded.{names_of}
use Rattle.pram_meaning.specs.Store.{State}
use Rattle.pram_meaning.specs.Bounded.{Done, Goes, then_do, tested, turns}
use Rattle.flat_machine.specs.Flat.{Flat}
use Rattle.flat_stretches.specs.Along.{Run, IsAt}
use Rattle.flat_stretches.specs.Folds.{Stand}
use Rattle.flat_stretches.specs.Tells.{IsCalm}
use Rattle.flat_stretches.proofs.Joins.{stands_split}
use Rattle.plain_form.specs.Registers.{behind_variables}
use Rattle.plain_form.specs.Formulas.{formula_of, nesting}
use Rattle.plain_form.specs.Groups.{value_at}
use Rattle.plain_form.specs.Shapes.{flush, sent, looped}
use Rattle.verified_form.specs.Straight.{evaluation}
use Rattle.plain_form.specs.Formulas as formulas
use Rattle.std.specs.Prelude.{None}
use Rattle.exchange_bound.specs.Events as events
use Rattle.exchange_bound.specs.Events.{Event, Runs, Cut, behind, turns_events}
use Rattle.exchange_bound.specs.Bound.{one_if}
use Rattle.compiled_meaning.specs.Between.{IsRunOf}
use Rattle.compiled_meaning.specs.Without.{IsWithout}
use Rattle.compiled_meaning.proofs.Outside.Leads.{Leads, leads_then, leads_as}
use Rattle.compiled_meaning.proofs.Outside.Passed.{IsPassed, Passes, passed_both, passed_there, passed_flush, passed_jump, forks_without}
use Rattle.compiled_meaning.proofs.Inside.Attempted.{one_more}
use Rattle.compiled_meaning.proofs.Outside.Parts.{RunsPart}
use Rattle.compiled_meaning.proofs.Outside.Straight.{passed_since}
use Rattle.compiled_meaning.proofs.Outside.Tests.{Tests, loop_test_follows}

-- what stands in a loop: its test, the fork behind it, its body, the send of what that holds, and the jump back
pub record LoopStands (t : Run) (head : ℕ) (first : List Instr) (r : ℕ) (part : List Instr) (left : Bool) : Type 0 where
  pub test : Stand t head first
  pub fork : IsAt t (head + length first) (JumpIfZero r (head + length first + 1 + length (sent part left) + 1))
  pub body : Stand t (head + length first + 1) part
  pub send : Stand t (head + length first + 1 + length part) (flush left)
  pub jump : IsAt t (head + length first + 1 + length part + length (flush left)) (Jump head)

pub loop_stands : (t : Run) (head : ℕ) (test : List Instr) (r : ℕ) (part : ℕ → List Instr) (left : Bool) →
    Stand t head (looped head test r (λ n. sent (part n) left)) → LoopStands t head test r (part (head + length test + 1)) left
loop_stands t head test r part left h =
    let start = head + length test + 1 in
    let own = part start in
    let body = sent own left in
    let fork = JumpIfZero r (start + length body + 1) in
    let first = stands_split t head ((test ++ fork ∷ []) ++ body) (Jump head ∷ []) h in
    let second = stands_split t head (test ++ fork ∷ []) body first.0 in
    let third = stands_split t head test (fork ∷ []) second.0 in
    let n1 = length-append test (fork ∷ []) in
    let n2 = length-append (test ++ fork ∷ []) body in
    let n3 = length-append own (flush left) in
    let all = subst (λ k. Stand t k body) (let e : head + length (test ++ fork ∷ []) ≡ start = omega (arith, n1) in e) second.1 in
    let parts = stands_split t start own (flush left) all in
    record {
      test = third.0;
      fork = third.1.0;
      body = parts.0;
      send = parts.1;
      jump = subst (λ k. IsAt t k (Jump head))
          (let e : head + length ((test ++ fork ∷ []) ++ body) ≡ start + length own + length (flush left) = omega (arith, n1, n2, n3) in e)
          first.1.0;
    }

module _ (p : Checked) (t : Run) (of : IsRunOf p t) (keep : Bool) (free line : ℕ) (free_ones : behind_variables p.uniforms ≤ free)
    (e : Expression) (named : bounded.IsNamed (names_of p) e) (head : ℕ) (part : List Instr) (left : Bool) (performed : State → Done)
    (inside : State → List Event) where
  abbrev r : ℕ
  r = value_at Uniform free (formula_of e)

  abbrev test : List Instr
  test = Mark line ∷ evaluation keep false Uniform free (formula_of e)

  abbrev start : ℕ
  start = head + length test + 1

  abbrev end : ℕ
  end = start + length (sent part left) + 1

  abbrev heads : State → List Event
  heads m = events.begun t.bound m (Cut ∷ Runs (nesting (formula_of e)) false None (formulas.reads (formula_of e)) ∷ Cut ∷ [])

  module _ (stands : LoopStands t head test r part left) (calm : IsCalm t.code (head + length test))
      (runs : RunsPart p t free start part left performed inside) where
    -- from the fork behind a test on, by how it came out, where the rest of the turns is known
    turn_leads : (k : ℕ) (m : State) (f : Flat) →
        ((m2 : State) (j : ℕ) (g : Flat) → IsWithout p t false m2 head (j + one_if left) g → m.count + 1 ≤ m2.count →
        Leads t j left false (turns_events k heads (tested p t.bound line e) performed inside m2) (Passes p t free false end m2 g)
        (turns k (tested p t.bound line e) performed m2)) →
        (n : ℕ) (m1 : State) (g : Flat) (b : Bool) → IsPassed p t free false (head + length test) (one_more m) f n m1 g →
        IsWithout p t false m1 (if b then head + length test + 1 else end) n g →
        Leads t n false false
        (if b then inside m1 ++ behind (performed m1) (λ u. turns_events k heads (tested p t.bound line e) performed inside) else [])
        (Passes p t free false end m f)
        (if b then then_do (performed m1) (λ u. turns k (tested p t.bound line e) performed) else Goes tt m1)
    turn_leads k m f again n m1 g false x here =
        let so_far = passed_since p t free false (head + length test) m f n m1 g x in
        let over : IsPassed p t free false end m f n m1 g =
        record { without = here; registers = so_far.registers; later = so_far.later } in
        (refl, (g, passed_there p t free false end end m f n (n + 0) m1 g refl (omega arith) over))
    turn_leads k m f again n m1 g true x here =
        leads_then t n false left false (inside m1) (Passes p t free left (start + length part) m1 g) (Passes p t free false end m f)
        (performed m1) (λ u. turns k (tested p t.bound line e) performed)
        (λ u. turns_events k heads (tested p t.bound line e) performed inside) (runs m1 n g here)
        (λ j u m2 y.
        let back = passed_flush p t free left (start + length part) m1 g j m2 y.0 stands.send y.1 in
        let there = passed_jump p t free false (start + length part + length (flush left)) head m1 g (j + one_if left) m2 back.0 stands.jump
        back.1 in
        let l1 = x.later in
        let l2 = there.later in
        let so_far = passed_both p t free false false (head + length test) head m m1 f g n (j + one_if left) free m2 back.0 (omega arith)
        (passed_since p t free false (head + length test) m f n m1 g x) there in
        leads_as t j left false (turns_events k heads (tested p t.bound line e) performed inside m2) (Passes p t free false end m2 back.0)
        (Passes p t free false end m f) (turns k (tested p t.bound line e) performed m2)
        (again m2 j back.0 there.without (omega (arith, l1, l2)))
        (λ i v m3 z. (
          z.0,
          passed_both p t free false false head end m m2 f back.0 (j + one_if left) i free m3 z.0
              (omega arith) so_far z.1,
        )))

    pub while_leads : (k : ℕ) (held : Bool) (m : State) (spent : ℕ) (f : Flat) → IsWithout p t false m head (spent + one_if held) f →
        t.bound < k + m.count →
        Leads t spent held false (turns_events k heads (tested p t.bound line e) performed inside m) (Passes p t free false end m f)
        (turns k (tested p t.bound line e) performed m)
    while_leads zero held m spent f w enough = let b = w.between in let l = b.within in absurd (omega (arith, l, enough))
    while_leads (suc k) held m spent f w enough =
        leads_then t spent held false false (heads m) (Tests p t free r (head + length test) m f) (Passes p t free false end m f)
        (tested p t.bound line e m) (λ b m. if b then then_do (performed m)
        (λ u. turns k (tested p t.bound line e) performed) else Goes tt m)
        (λ b m. if b then inside m ++ behind (performed m) (λ u. turns_events k heads (tested p t.bound line e) performed inside) else [])
        (loop_test_follows p t of keep free line free_ones held m head spent f w e named stands.test calm)
        (λ n b m1 x.
        let passed = x.1 in
        turn_leads k m f (λ m2 j g v l. while_leads k left m2 j g v (omega (arith, l, enough))) n m1 x.0 b passed
        (forks_without p t false m1 (head + length test) n x.0 passed.without r end stands.fork b x.2))
