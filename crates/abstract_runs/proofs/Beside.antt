-- The processors that take no part in a statement are as they were.
use Rattle.std.proofs.Common.{◌≡◌, ◌≢◌, ℕ, zero, suc, ◌+◌, List, [], ◌∷◌, Bool, true, false, refl, ap, sym, subst, ◌∙◌}
use Rattle.std.specs.Prelude.{slice_set}
use Rattle.std.specs.List.{AllByRecursion}
use Rattle.pram_check.specs.Checked.{Checked}
use Rattle.pram_names.specs.declared.body.Expression.{Expression}
use Rattle.pram_names.specs.declared.body.StepTarget.{StepTarget}
use Rattle.pram_names.specs.declared.body.StepTarget.TheVariants as target
use Rattle.pram_names.specs.declared.body.Step as step
use Rattle.pram_names.specs.declared.body.Step.{Step, Row_of-Step, end_of-Step, more_of-Step}
use Rattle.pram_meaning.specs.Attempt.{Attempt, Effect, attempt_step, attempt_value}
use Rattle.pram_meaning.specs.Bounded.{Done, Goes, attempted_on, perform_list_on, perform_on, perform_row_on, tested_on}
use Rattle.pram_meaning.specs.Bounded.{then_do, turns_on, unless_none}
use Rattle.pram_meaning.specs.Conflict.{Part}
use Rattle.pram_meaning.specs.Store as store
use Rattle.pram_meaning.specs.Store.{State, View, member_of, with_local}
use Rattle.pram_meaning.specs.Together.{assigned_by, part_of, parts, those, value_in, with_locals}
use Rattle.abstract_runs.proofs.Made.{AreMade, attempted_made, chosen_hold}
use Rattle.abstract_runs.proofs.Onward.{onward_on, onward_then}
use Rattle.abstract_runs.specs.Onward.{Onward}

-- one that is none of these
abbrev pub IsNone : List ℕ → ℕ → Type 0
IsNone vs u = AllByRecursion (λ v. u ≢ v) vs

abbrev pub AreBeside : List ℕ → State → State → Type 0
AreBeside vs before m = (u : ℕ) → IsNone vs u → member_of m.team u ≡ member_of before.team u

-- ---- an assignment

set_other : (gs : List store.Member) (u v : ℕ) (g : store.Member) → u ≢ v → member_of (slice_set gs v g) u ≡ member_of gs u
set_other [] u v g apart = refl
set_other (h ∷ gs) zero zero g apart = absurd (apart refl)
set_other (h ∷ gs) zero (suc v) g apart = refl
set_other (h ∷ gs) (suc u) zero g apart = refl
set_other (h ∷ gs) (suc u) (suc v) g apart = set_other gs u v g (λ same. apart (ap suc same))

locals_beside : (x : ℕ) (p : Checked) (m : State) (a : View → Attempt Effect) (vs : List ℕ) (gs : List store.Member) (u : ℕ) → IsNone vs u →
    member_of (with_locals x (parts p m a vs) gs) u ≡ member_of gs u
locals_beside x p m a [] gs u h = refl
locals_beside x p m a (v ∷ vs) gs u h =
    locals_beside x p m a vs (with_local x v (value_in (part_of p m a v).attempt) gs) u h.1
    ∙ set_other gs u v _ h.0

assigned_beside : (p : Checked) (x : StepTarget) (a : View → Attempt Effect) (vs : List ℕ) (before : State) (xs : List Part) (m : State) →
    AreMade p a vs before xs m → AreBeside vs before (assigned_by p x xs m)
assigned_beside p (target.Local x) a vs before xs m h u none =
    ap (λ xs. member_of (with_locals x xs m.team) u) h.made ∙ locals_beside x p m a vs m.team u none ∙ ap (λ gs. member_of gs u) h.team
assigned_beside p (target.Cell c) a vs before xs m h u none = ap (λ gs. member_of gs u) h.team
assigned_beside p (target.Element c f) a vs before xs m h u none = ap (λ gs. member_of gs u) h.team

-- ---- blocks

beside_then : (vs ws : List ℕ) (a b c : State) → AreBeside vs a b → AreBeside ws b c → ((u : ℕ) → IsNone vs u → IsNone ws u) → AreBeside vs a c
beside_then vs ws a b c h g fewer u none = g u (fewer u none) ∙ h u none

made_beside : (p : Checked) (a : View → Attempt Effect) (vs : List ℕ) (before : State) (xs : List Part) (m : State) → AreMade p a vs before xs m →
    AreBeside vs before m
made_beside p a vs before xs m h u none = ap (λ gs. member_of gs u) h.team

-- one that is none of the set is none of those of it whose test came out so
fewer : (p : Checked) (a : View → Attempt Effect) (vs : List ℕ) (before : State) (xs : List Part) (m : State) (way : Bool) →
    AreMade p a vs before xs m → (u : ℕ) → IsNone vs u → IsNone (those way xs) u
fewer p a vs before xs m way h u none =
    subst (λ xs. IsNone (those way xs) u) (sym h.made) (chosen_hold (λ v. u ≢ v) p m a way vs none)

abbrev pub AsBeside : List ℕ → State → Unit {0} → State → Type 0
AsBeside vs before u m = AreBeside vs before m

module _ (p : Checked) (n line : ℕ) (e : Expression) (body : List ℕ → State → Done)
    (stays : (vs : List ℕ) (m : State) → Onward (AsBeside vs m) (body vs m)) where
  abbrev pub test_of : View → Attempt Effect
  test_of s = attempt_value s e

  -- a turn, where the others stay through the turns behind it
  turn_beside : (k : ℕ) (vs : List ℕ) (m : State) (xs : List Part) (s : State) → AreMade p test_of vs m xs s → (ws : List ℕ) →
      those true xs ≡ ws → ((z : State) → Onward (AsBeside ws z) (turns_on k (tested_on p n line e) body ws z)) →
      Onward (AsBeside vs m) (unless_none ws (Goes tt s) (then_do (body ws s) (λ u. turns_on k (tested_on p n line e) body ws)))
  turn_beside k vs m xs s h [] is rest = made_beside p test_of vs m xs s h
  turn_beside k vs m xs s h (w ∷ ws) is rest =
      let less : (u : ℕ) → IsNone vs u → IsNone (w ∷ ws) u =
      λ u none. subst (λ ws. IsNone ws u) is (fewer p test_of vs m xs s true h u none) in
      onward_then (AsBeside (w ∷ ws) s) (AsBeside vs m) (body (w ∷ ws) s) (λ u. turns_on k (tested_on p n line e) body (w ∷ ws)) (stays (w ∷ ws) s)
      (λ u t g. onward_on (AsBeside (w ∷ ws) t) (AsBeside vs m) (turns_on k (tested_on p n line e) body (w ∷ ws) t) (rest t)
      (λ u z f. beside_then vs (w ∷ ws) m s z (made_beside p test_of vs m xs s h)
      (beside_then (w ∷ ws) (w ∷ ws) s t z g f (λ u none. none)) less))

  pub turns_beside : (k : ℕ) (vs : List ℕ) (m : State) → Onward (AsBeside vs m) (turns_on k (tested_on p n line e) body vs m)
  turns_beside zero vs m = tt
  turns_beside (suc k) vs m =
      onward_then (AreMade p test_of vs m) (AsBeside vs m) (tested_on p n line e vs m) _ (attempted_made p n line test_of vs m)
      (λ xs s h. turn_beside k vs m xs s h (those true xs) refl (λ z. turns_beside k (those true xs) z))

module _ (p : Checked) (n : ℕ) where
  mutual
    pub step_beside : (s : Step) (vs : List ℕ) (m : State) → Onward (AsBeside vs m) (perform_on p n s vs m)
    step_beside (step.Assign here x e) vs m =
        let a : View → Attempt Effect = λ s. attempt_step s x e in
        onward_then (AreMade p a vs m) (AsBeside vs m) (attempted_on p n here.line a vs m) (λ xs m. Goes tt (assigned_by p x xs m))
        (attempted_made p n here.line a vs m) (λ xs s h. assigned_beside p x a vs m xs s h)
    step_beside (step.If' here e q then_part r else_part) vs m =
        let a : View → Attempt Effect = λ s. attempt_value s e in
        onward_then (AreMade p a vs m) (AsBeside vs m) (tested_on p n here.line e vs m) _ (attempted_made p n here.line a vs m)
        (λ xs s h. onward_then (AsBeside (those true xs) s) (AsBeside vs m) (perform_row_on p n then_part (those true xs) s) _
        (row_beside then_part (those true xs) s)
        (λ u t g. onward_on (AsBeside (those false xs) t) (AsBeside vs m) (perform_row_on p n else_part (those false xs) t)
        (row_beside else_part (those false xs) t)
        (λ u z f. beside_then vs (those false xs) m t z
        (beside_then vs (those true xs) m s t (made_beside p a vs m xs s h) g (fewer p a vs m xs s true h)) f (fewer p a vs m xs s false h))))
    step_beside (step.While' here e q body) vs m =
        turns_beside p n here.line e (perform_row_on p n body) (λ vs m. row_beside body vs m) (n + 1) vs m

    pub row_beside : {k : _} (ss : Row_of-Step k) (vs : List ℕ) (m : State) → Onward (AsBeside vs m) (perform_row_on p n ss vs m)
    row_beside end_of-Step vs m = λ u none. refl
    row_beside (more_of-Step s ss) vs m =
        onward_then (AsBeside vs m) (AsBeside vs m) (perform_on p n s vs m) _ (step_beside s vs m)
        (λ u t g. onward_on (AsBeside vs t) (AsBeside vs m) (perform_row_on p n ss vs t) (row_beside ss vs t)
        (λ u z f. beside_then vs vs m t z g f (λ u none. none)))

  pub list_beside : (ss : List Step) (vs : List ℕ) (m : State) → Onward (AsBeside vs m) (perform_list_on p n ss vs m)
  list_beside [] vs m = λ u none. refl
  list_beside (s ∷ ss) vs m =
      onward_then (AsBeside vs m) (AsBeside vs m) (perform_on p n s vs m) _ (step_beside s vs m)
      (λ u t g. onward_on (AsBeside vs t) (AsBeside vs m) (perform_list_on p n ss vs t) (list_beside ss vs t)
      (λ u z f. beside_then vs vs m t z g f (λ u none. none)))
