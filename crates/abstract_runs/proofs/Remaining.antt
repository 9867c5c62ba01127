-- Statements that assign to no local leave all processors as they were.
use Rattle.std.proofs.Common.{◌≡◌, ℕ, zero, suc, ◌+◌, List, [], ◌∷◌, true, false, refl, ap, sym, subst, ◌∙◌, Global, Vec}
use Rattle.std.specs.List.{AllByRecursion}
use Rattle.pram_check.specs.Checked.{Checked}
use Rattle.pram_tokens.specs.declared.token.Location.{Location}
use Rattle.pram_names.specs.declared.body.Expression.{Expression}
use Rattle.pram_names.specs.declared.body.StepTarget.{StepTarget}
use Rattle.pram_names.specs.declared.body.StepTarget.TheVariants as target
use Rattle.pram_names.specs.declared.body.Step as step
use Rattle.pram_names.specs.declared.body.Step.{Step}
use Rattle.pram_meaning.specs.Attempt.{Attempt, Effect, attempt_step, attempt_value}
use Rattle.pram_meaning.specs.Bounded.{Behaviour, Done, Goes, attempted_on, perform_list_on, perform_on, tested_on, then_do, turns_on, unless_none}
use Rattle.pram_meaning.specs.Store.{State, View}
use Rattle.pram_meaning.specs.Together.{assigned_by, those}
use Rattle.abstract_runs.specs.Staying.{AreStaying, AsBefore, IsStaying}
use Rattle.abstract_runs.specs.Onward.{Onward}
use Rattle.abstract_runs.proofs.BlocksOn.{if_is, while_is}
use Rattle.abstract_runs.proofs.Made.{AreMade, attempted_made}
use Rattle.abstract_runs.proofs.Onward.{onward_on, onward_then}

stays_then : {A : Type 0} (m : State) (b : Behaviour A) (f : A → State → Done) → Onward (AsBefore m) b →
    ((a : A) (s : State) → Onward (AsBefore s) (f a s)) → Onward (AsBefore m) (then_do b f)
stays_then m b f h g =
    onward_then (AsBefore m) (AsBefore m) b f h
    (λ a s same. onward_on (AsBefore s) (AsBefore m) (f a s) (g a s) (λ u t later. later ∙ same))

made_stays : (p : Checked) (n line : ℕ) (a : View → Attempt Effect) (vs : List ℕ) (m : State) → Onward (AsBefore m) (attempted_on p n line a vs m)
made_stays p n line a vs m =
    onward_on (AreMade p a vs m) (AsBefore m) (attempted_on p n line a vs m) (attempted_made p n line a vs m) (λ xs s h. h.team)

-- ---- statements

pub cell_stays : (s : Step) (here : Location) (x : StepTarget) (c : ℕ) (e : Expression) → s ≡ step.Assign here x e → x ≡ target.Cell c →
    IsStaying s
cell_stays s here x c e is to p n vs m =
    subst (λ s. Onward (AsBefore m) (perform_on p n s vs m)) (sym (is ∙ ap (λ x. step.Assign here x e) to))
    (stays_then m (attempted_on p n here.line (λ s. attempt_step s (target.Cell c) e) vs m) (λ xs s. Goes tt (assigned_by p (target.Cell c) xs s))
    (made_stays p n here.line (λ s. attempt_step s (target.Cell c) e) vs m) (λ xs s. refl))

pub element_stays : (s : Step) (here : Location) (x : StepTarget) (c : ℕ) (f e : Expression) → s ≡ step.Assign here x e → x ≡ target.Element c f →
    IsStaying s
element_stays s here x c f e is to p n vs m =
    subst (λ s. Onward (AsBefore m) (perform_on p n s vs m)) (sym (is ∙ ap (λ x. step.Assign here x e) to))
    (stays_then m (attempted_on p n here.line (λ s. attempt_step s (target.Element c f) e) vs m)
    (λ xs s. Goes tt (assigned_by p (target.Element c f) xs s)) (made_stays p n here.line (λ s. attempt_step s (target.Element c f) e) vs m)
    (λ xs s. refl))

test_stays : (p : Checked) (n line : ℕ) (e : Expression) (vs : List ℕ) (m : State) → Onward (AsBefore m) (tested_on p n line e vs m)
test_stays p n line e vs m = made_stays p n line (λ s. attempt_value s e) vs m

pub if_stays : (s : Step) (here : Location) (e : Expression) (a b : Vec Step Global) → s ≡ step.If here e a b → AreStaying a.items →
    AreStaying b.items → IsStaying s
if_stays s here e a b is h g p n vs m =
    subst (Onward (AsBefore m)) (sym (ap (λ s. perform_on p n s vs m) is ∙ if_is p n here e a b vs m))
    (stays_then m (tested_on p n here.line e vs m) _ (test_stays p n here.line e vs m)
    (λ xs s. stays_then s (perform_list_on p n a.items (those true xs) s) (λ u. perform_list_on p n b.items (those false xs))
    (h p n (those true xs) s) (λ u t. g p n (those false xs) t)))

module _ (p : Checked) (n line : ℕ) (e : Expression) (body : List Step) (h : AreStaying body) where
  turn_stays : (k : ℕ) (ws : List ℕ) (s : State) → ((z : State) → Onward (AsBefore z) (turns_on k (tested_on p n line e) (perform_list_on p n body) ws z)) →
      Onward (AsBefore s) (unless_none ws (Goes tt s) (then_do (perform_list_on p n body ws s) (λ u. turns_on k (tested_on p n line e) (perform_list_on p n body) ws)))
  turn_stays k [] s rest = refl
  turn_stays k (w ∷ ws) s rest =
      stays_then s (perform_list_on p n body (w ∷ ws) s) (λ u. turns_on k (tested_on p n line e) (perform_list_on p n body) (w ∷ ws))
      (h p n (w ∷ ws) s) (λ u z. rest z)

  turns_stay : (k : ℕ) (vs : List ℕ) (m : State) → Onward (AsBefore m) (turns_on k (tested_on p n line e) (perform_list_on p n body) vs m)
  turns_stay zero vs m = tt
  turns_stay (suc k) vs m =
      stays_then m (tested_on p n line e vs m) _ (test_stays p n line e vs m)
      (λ xs s. turn_stays k (those true xs) s (λ z. turns_stay k (those true xs) z))

pub while_stays : (s : Step) (here : Location) (e : Expression) (body : Vec Step Global) → s ≡ step.While here e body → AreStaying body.items →
    IsStaying s
while_stays s here e body is h p n vs m =
    subst (Onward (AsBefore m)) (sym (ap (λ s. perform_on p n s vs m) is ∙ while_is p n here e body vs m)) (turns_stay p n here.line e body.items h (n + 1) vs m)

-- ---- a block

-- where each of its statements does
pub list_stays : (ss : List Step) → AllByRecursion IsStaying ss → AreStaying ss
list_stays [] h p n vs m = refl
list_stays (s ∷ ss) h p n vs m =
    stays_then m (perform_on p n s vs m) (λ u. perform_list_on p n ss vs) (h.0 p n vs m)
    (λ u z. list_stays ss h.1 p n vs z)
