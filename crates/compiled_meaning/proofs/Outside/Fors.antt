-- The turns of a `for`, from a setting of its variable on: the run follows them.
use Rattle.std.proofs.Common.{◌≡◌, ℕ, zero, suc, ◌+◌, ◌<◌, ◌≤◌, List, [], ◌∷◌, ◌++◌, length, Bool, true, false, Ok, ℤ, pos, ◌+ℤ◌, int_lt}
use Rattle.std.proofs.Common.{int_le}
use Rattle.std.proofs.Common.{refl, ap, ◌∙◌, subst, arith, length-append, append_assoc}
use Rattle.std.specs.Prelude.{if◌then◌else◌}
use Rattle.pram_model.specs.Layout.{width}
use Rattle.pram_values.specs.Truth.{is_nonzero, truth}
use Rattle.pram_values.specs.Value.{checked}
use Rattle.superstep_instructions.specs.declared.instr.Instr.{Instr}
use Rattle.superstep_instructions.specs.declared.instr.Instr.TheVariants.{Mark, Jump, JumpIfZero}
use Rattle.pram_check.specs.Checked.{Checked}
use Rattle.pram_meaning.specs.Store.{State, with_uniform}
use Rattle.pram_meaning.specs.Bounded.{Done, then_do, counted, for_turns}
use Rattle.pram_meaning.specs.Values.{IsValue}
use Rattle.flat_machine.specs.Flat.{Flat}
use Rattle.flat_stretches.specs.Along.{Run, IsAt}
use Rattle.flat_stretches.specs.Folds.{Stand}
use Rattle.flat_stretches.specs.Tells.{IsCalm}
use Rattle.flat_stretches.proofs.Joins.{stands_split}
use Rattle.plain_form.specs.Registers.{behind_variables, behind_turns, turn, high, more}
use Rattle.plain_form.specs.Shapes.{turned}
use Rattle.verified_form.specs.Straight.{stepping}
use Rattle.std.specs.Prelude.{None}
use Rattle.exchange_bound.specs.Events as events
use Rattle.exchange_bound.specs.Events.{Event, Runs, Cut, behind, for_events}
use Rattle.compiled_meaning.specs.Between.{IsRunOf}
use Rattle.compiled_meaning.specs.Without.{IsWithout}
use Rattle.compiled_meaning.proofs.Outside.Bounding.{HasSet, Sets, setting_follows}
use Rattle.compiled_meaning.proofs.Outside.Leads.{Leads, leads_then, leads_as}
use Rattle.compiled_meaning.proofs.Outside.Numbers.{none_between, some_between, no_more, one_turn_more, next_last, next_is, step_is}
use Rattle.compiled_meaning.proofs.Outside.Numbers.{stay_is}
use Rattle.compiled_meaning.proofs.Outside.Parts.{RunsPart}
use Rattle.compiled_meaning.proofs.Outside.Passed.{IsPassed, Passes, passed_both, passed_there, passed_here, passed_jump, forks_without}
use Rattle.compiled_meaning.proofs.Outside.Straight.{passed_since}
use Rattle.compiled_meaning.proofs.Outside.Turns.{HasTurns}
use Rattle.pram_values.proofs.TruthValues.{is_nonzero-truth}

-- what stands in the turns: the fork over them, the setting, the body, and the fork and the jump behind it
pub record TurnsStand (t : Run) (start r : ℕ) (first part : List Instr) : Type 0 where
  pub over : IsAt t start (JumpIfZero r (start + 1 + length (first ++ part) + 2))
  pub set : Stand t (start + 1) first
  pub body : Stand t (start + 1 + length first) part
  pub fork : IsAt t (start + 1 + length first + length part) (JumpIfZero r (start + 1 + length (first ++ part) + 2))
  pub jump : IsAt t (start + 1 + length first + length part + 1) (Jump (start + 1))

pub turns_stand : (t : Run) (start r : ℕ) (set : List Instr) (part : ℕ → List Instr) → Stand t start (turned start r set part) →
    TurnsStand t start r set (part (start + 1 + length set))
turns_stand t start r set part h =
    let head = start + 1 in
    let own = part (head + length set) in
    let turns = set ++ own in
    let end = head + length turns + 2 in
    let first = stands_split t head turns (JumpIfZero r end ∷ Jump head ∷ []) h.1 in
    let second = stands_split t head set own first.0 in
    let n = length-append set own in
    let e : head + length turns ≡ head + length set + length own = omega (arith, n) in
    record {
      over = h.0;
      set = second.0;
      body = second.1;
      fork = subst (λ k. IsAt t k (JumpIfZero r end)) e first.1.0;
      jump = subst (λ k. IsAt t (k + 1) (Jump head)) e first.1.1.0;
    }

module _ (p : Checked) (t : Run) (of : IsRunOf p t) (keep : Bool) (free line : ℕ) (free_ones : behind_variables p.uniforms ≤ free) (x : ℕ)
    (declared : x < p.uniforms) (begins : ℕ) (part : List Instr) (performed : State → Done) (inside : State → List Event)
    (stands : TurnsStand t begins (more free) (Mark line ∷ stepping keep free x) part)
    (calm : IsCalm t.code (begins + 1 + length (Mark line ∷ stepping keep free x)))
    (runs : RunsPart p t (behind_turns free) (begins + 1 + length (Mark line ∷ stepping keep free x)) part false performed
    (λ m. inside m ++ Cut ∷ [])) where
  abbrev set : List Instr
  set = Mark line ∷ stepping keep free x

  abbrev head : ℕ
  head = begins + 1

  abbrev body : ℕ
  body = head + length set

  abbrev end : ℕ
  end = head + length (set ++ part) + 2

  abbrev ends : (m : State) (f : Flat) → ℕ → Unit {0} → State → Type 0
  ends m f = Passes p t free false end m f

  module _ (a b : ℤ) (m : State) (spent : ℕ) (f : Flat) (w : IsWithout p t false m head spent f)
      (low : f.uniform.registers (turn free) ≡ a) (up : f.uniform.registers (high free) ≡ b) (low_is : IsValue a) where
    -- from a setting on, where the rest is known from the end of its turn on
    turn_leads : (k : ℕ) (c : ℤ) → checked (a +ℤ truth (int_lt a b)) ≡ Ok c →
        ((n : ℕ) (m1 : State) (g : Flat) → HasSet p t free body x a b c m f n m1 g → (j : ℕ) (m2 : State) (h : Flat) →
        IsPassed p t (behind_turns free) false (body + length part) (with_uniform x a m1) g j m2 h →
        Leads t j false false (for_events t.bound k x (a +ℤ pos 1) performed inside m2) (ends m f)
        (for_turns t.bound k x (a +ℤ pos 1) performed m2)) →
        Leads t spent false false (for_events t.bound (suc k) x a performed inside m) (ends m f)
        (for_turns t.bound (suc k) x a performed m)
    turn_leads k c fits rest =
        leads_then t spent false false false (events.begun t.bound m (Runs 0 false None 0 ∷ [])) (Sets p t free body x a b c m f) (ends m f)
        (counted t.bound m)
        (λ u m. then_do (performed (with_uniform x a m)) (λ u. for_turns t.bound k x (a +ℤ pos 1) performed))
        (λ u m. inside (with_uniform x a m) ++ Cut ∷ behind (performed (with_uniform x a m))
        (λ u. for_events t.bound k x (a +ℤ pos 1) performed inside))
        (setting_follows p t of keep free line free_ones x declared a b c fits low_is m head spent f w low up stands.set calm)
        (λ n u m1 y.
        let g = y.0 in
        let s = y.1 in
        let passed = s.passed in
        let m2 = with_uniform x a m1 in
        let later = behind (performed m2) (λ u. for_events t.bound k x (a +ℤ pos 1) performed inside) in
        subst (λ es. Leads t n false false es (ends m f)
        (then_do (performed m2) (λ u. for_turns t.bound k x (a +ℤ pos 1) performed)))
        (append_assoc (inside m2) (Cut ∷ []) later)
        (leads_then t n false false false (inside m2 ++ Cut ∷ [])
        (Passes p t (behind_turns free) false (body + length part) m2 g) (ends m f) (performed m2)
        (λ u. for_turns t.bound k x (a +ℤ pos 1) performed) (λ u. for_events t.bound k x (a +ℤ pos 1) performed inside)
        (runs m2 n g passed.without) (λ j v m3 z. rest n m1 g s j m3 z.0 z.1)))

    module _ (c : ℤ) (n : ℕ) (m1 : State) (g : Flat) (s : HasSet p t free body x a b c m f n m1 g) (j : ℕ) (m2 : State) (h : Flat)
        (z : IsPassed p t (behind_turns free) false (body + length part) (with_uniform x a m1) g j m2 h) where
      -- the end of the turn
      so_far : IsPassed p t free false (body + length part) m f j m2 h
      so_far =
          passed_both p t free false false body (body + length part) m (with_uniform x a m1) f g n j (behind_turns free) m2 h (omega arith)
          (passed_since p t free false body m f n (with_uniform x a m1) g s.passed) z

      kept : (r : ℕ) → free ≤ r → r < behind_turns free → h.uniform.registers r ≡ g.uniform.registers r
      kept r l k = z.registers r (omega (arith, l, free_ones)) k

      forked : (any : Bool) → int_lt a b ≡ any →
          IsPassed p t free false (if any then body + length part + 1 else end) m f j m2 h
      forked any e =
          let turns = s.turns in
          let passed = so_far in
          record {
            without = forks_without p t false m2 (body + length part) j h z.without (more free) end stands.fork any
                (ap is_nonzero (kept (more free) (omega arith) (omega arith) ∙ turns.more ∙ ap truth e) ∙ is_nonzero-truth any);
            registers = passed.registers;
            later = passed.later;
          }

      back : int_lt a b ≡ true → IsPassed p t free false head m f j m2 h
      back e = passed_jump p t free false (body + length part + 1) head m f j m2 h stands.jump (forked true e)

      next_turn : h.uniform.registers (turn free) ≡ c
      next_turn = let turns = s.turns in kept (turn free) (omega arith) (omega arith) ∙ turns.turn

      same_high : h.uniform.registers (high free) ≡ b
      same_high = let turns = s.turns in kept (high free) (omega arith) (omega arith) ∙ turns.high

  pub turns_lead : (k : ℕ) (a b : ℤ) (m : State) (spent : ℕ) (f : Flat) → IsWithout p t false m head spent f →
      f.uniform.registers (turn free) ≡ a → f.uniform.registers (high free) ≡ b → b ≡ a +ℤ pos k → IsValue a → IsValue b →
      Leads t spent false false (for_events t.bound (suc k) x a performed inside m) (ends m f) (for_turns t.bound (suc k) x a performed m)
  turns_lead zero a b m spent f w low up far low_is up_is =
      turn_leads a b m spent f w low up low_is zero a (stay_is a b far low_is)
      (λ n m1 g s j m2 h z. (
        refl,
        (
          h,
          passed_there p t free false end end m f j (j + 0) m2 h refl (omega arith)
              (forked a b m spent f w low up low_is a n m1 g s j m2 h z false (no_more a b far)),
        ),
      ))
  turns_lead (suc k) a b m spent f w low up far low_is up_is =
      let c = a +ℤ pos 1 in
      turn_leads a b m spent f w low up low_is (suc k) c (step_is a b k far low_is up_is)
      (λ n m1 g s j m2 h z.
      let there = back a b m spent f w low up low_is c n m1 g s j m2 h z (one_turn_more a b k far) in
      leads_as t j false false (for_events t.bound (suc k) x c performed inside m2) (ends m2 h) (ends m f)
      (for_turns t.bound (suc k) x c performed m2)
      (turns_lead k c b m2 j h there.without (next_turn a b m spent f w low up low_is c n m1 g s j m2 h z)
      (same_high a b m spent f w low up low_is c n m1 g s j m2 h z) (next_last a b k far) (next_is a b k far low_is up_is) up_is)
      (λ i v m3 q. (q.0, passed_both p t free false false head end m m2 f h j i free m3 q.0 (omega arith) there q.1)))

  -- from the fork over them on, as many turns as there are numbers
  pub for_leads : (a b : ℤ) (m : State) (spent : ℕ) (f : Flat) → IsWithout p t false m begins spent f → HasTurns free a b (int_le a b) f →
      IsValue a → IsValue b → (count : ℕ) → width a b ≡ count →
      Leads t spent false false (for_events t.bound count x a performed inside m) (ends m f) (for_turns t.bound count x a performed m)
  for_leads a b m spent f w turns low_is up_is zero e =
      let forked = forks_without p t false m begins spent f w (more free) end stands.over false
      (ap is_nonzero (turns.more ∙ ap truth (none_between a b e))) in (
        refl,
        (
          f,
          passed_there p t free false end end m f spent (spent + 0) m f refl (omega arith)
              (passed_here p t free false end spent m f forked),
        ),
      )
  for_leads a b m spent f w turns low_is up_is (suc k) e =
      let far = some_between a b k e in
      let forked = forks_without p t false m begins spent f w (more free) end stands.over true
      (ap is_nonzero (turns.more ∙ ap truth far.any)) in
      turns_lead k a b m spent f forked turns.turn turns.high far.last low_is up_is
