-- Statements inside pardo under a weaker rule.
use Rattle.std.proofs.Common.{◌≡◌, ◌+◌, ap, ℕ, zero, suc, true, false, List, [], ◌∷◌, Option, Some, None, refl}
use Rattle.std.specs.List.{AllByRecursion}
use Rattle.pram_model.specs.declared.rule.Rule.{Rule}
use Rattle.pram_check.specs.Bounded.{ArePartSteps, AreSteps, IsNamed, IsStep, Names}
use Rattle.pram_check.specs.Checked.{Checked}
use Rattle.pram_check.specs.OtherRule.{under}
use Rattle.pram_names.specs.declared.body.Expression.{Expression}
use Rattle.pram_names.specs.declared.body.Step.{Row_of-Step, Step, end_of-Step, more_of-Step}
use Rattle.pram_names.specs.declared.body.Step as step
use Rattle.pram_names.specs.declared.body.StepTarget.{StepTarget}
use Rattle.pram_names.specs.declared.body.StepTarget.TheVariants as inner
use Rattle.pram_meaning.specs.declared.key.Key.{Key}
use Rattle.pram_meaning.specs.Attempt.{Attempt, Effect, attempt_step, attempt_value}
use Rattle.pram_meaning.specs.Bounded.{Behaviour, Done, Goes, Reaches, Stops, attempted_on, counted, perform_list_on, perform_on}
use Rattle.pram_meaning.specs.Bounded.{perform_row_on, tested_on, then_do, valued}
use Rattle.pram_meaning.specs.Conflict.{IsLeast, Part, keys, least}
use Rattle.pram_meaning.specs.Store.{Member, State, View, member_of, seen_by}
use Rattle.pram_meaning.specs.Together.{assigned_by, on_key, parts, those, together}
use Rattle.pram_meaning.specs.Values.{ComesToValues, HasValues, IsMember}
use Rattle.pram_meaning.proofs.LeastKey.{least_is_least}
use Rattle.pram_meaning.proofs.SoundValues.{zero_is}
use Rattle.pram_meaning.proofs.ValuesKept.{steps_keep_values}
use Rattle.pram_meaning.proofs.ValuesOfAttempts.{SeesValues, step_gives, value_gives}
use Rattle.rule_laws.proofs.Behaviours.{Fit, GoesFit, Holds, Lawful, Same, counted_fit, holds_then, kept, same_then, itself, turns_on_same}
use Rattle.rule_laws.proofs.OneCell.{Eases, Needs}
use Rattle.rule_laws.proofs.OneStatement.{AreParts, GivesValue, IsLawful, same_cells, same_least}

-- ---- what the processors of a set see and give

member_is : (team : List Member) (v : ℕ) → AllByRecursion IsMember team → IsMember (member_of team v)
member_is [] v h = record { index = zero_is; locals = tt }
member_is (g ∷ team) zero h = h.0
member_is (g ∷ team) (suc v) h = member_is team v h.1

sees_by : (p : Checked) (m : State) (v : ℕ) → HasValues m → SeesValues (seen_by p m v)
sees_by p m v h = let g = member_is m.team v h.team in record { uniforms = h.uniforms; cells = h.cells; index = g.index; locals = g.locals }

parts_are : (p : Checked) (m : State) (a : View → Attempt Effect) (vs : List ℕ) → ((v : ℕ) → GivesValue (a (seen_by p m v))) →
    AreParts (parts p m a vs)
parts_are p m a [] h = tt
parts_are p m a (v ∷ vs) h = (h v, parts_are p m a vs h)

-- ---- states behind statements

pub comes_then : (b : Done) (f : Unit {0} → State → Done) → ComesToValues b →
    ((m : State) → HasValues m → ComesToValues (f tt m)) → ComesToValues (then_do b f)
comes_then (Goes u m) f h rest = rest m h
comes_then (Stops k out) f h rest = h
comes_then (Reaches out) f h rest = h

row_keeps : (p : Checked) (n : ℕ) (names : Names) {k : _} (xs : Row_of-Step k) → ArePartSteps names xs → (vs : List ℕ) (m : State) →
    HasValues m → ComesToValues (perform_row_on p n xs vs m)
row_keeps p n names end_of-Step is vs m h = h
row_keeps p n names (more_of-Step x xs) is vs m h =
    comes_then (perform_on p n x vs m) (λ u. perform_row_on p n xs vs) (steps_keep_values p n names x vs m is.0 h)
    (λ m g. row_keeps p n names xs is.1 vs m g)

-- a set's statement has no fault, so all its parts have values
abbrev Faultless : Rule → Rule → List Part → State → Type 0
Faultless r s xs m = (keys r xs ≡ []) × Needs s (AreParts xs) × Fit s m

module _ (r s : Rule) (x : Eases r s) (p : Checked) (n : ℕ) where
  -- ---- one statement

  lawful_key : (line : ℕ) (xs : List Part) (m : State) (o : Option Key) → Lawful r (valued (on_key line o xs) m) → IsLawful r s x o
  lawful_key line xs m None h = tt
  lawful_key line xs m (Some k) h = h

  valued_same : (line : ℕ) (xs : List Part) (m : State) → Needs s (AreParts xs) →
      Same r (valued (together (under r p) line xs) m) (valued (together (under s p) line xs) m)
  valued_same line xs m fit lawful =
      ap (λ o. valued (on_key line o xs) m) (same_least r s x xs fit (lawful_key line xs m (least (keys r xs)) lawful))

  valued_holds : (line : ℕ) (xs : List Part) (m : State) → Needs s (AreParts xs) → Fit s m →
      Holds (Faultless r s) (valued (together (under r p) line xs) m)
  valued_holds line xs m are fit = by (least (keys r xs)) (least_is_least (keys r xs))
    where
      by : (o : Option Key) → IsLeast (keys r xs) o → Holds (Faultless r s) (valued (on_key line o xs) m)
      by None is = (is, are, fit)
      by (Some k) is = tt

  module _ (a : View → Attempt Effect) (gives : (v : View) → Needs s (SeesValues v → GivesValue (a v))) where
    parts_fit : (vs : List ℕ) (m : State) → Fit s m → Needs s (AreParts (parts (under r p) m a vs))
    parts_fit vs m fit i =
        parts_are (under r p) m a vs (λ v. gives (seen_by (under r p) m v) i (sees_by (under r p) m v (fit i)))

    attempted_same : (line : ℕ) (vs : List ℕ) (m : State) → Fit s m →
        Same r (attempted_on (under r p) n line a vs m) (attempted_on (under s p) n line a vs m)
    attempted_same line vs m fit =
        same_then r (λ u m. Fit s m) (counted n m) (counted n m)
        (λ u m. valued (together (under r p) line (parts (under r p) m a vs)) m)
        (λ u m. valued (together (under s p) line (parts (under s p) m a vs)) m)
        (itself r (counted n m)) (counted_fit s n m fit)
        (λ u m fit. valued_same line (parts (under r p) m a vs) m (parts_fit vs m fit))

    attempted_holds : (line : ℕ) (vs : List ℕ) (m : State) → Fit s m →
        Holds (Faultless r s) (attempted_on (under r p) n line a vs m)
    attempted_holds line vs m fit =
        holds_then (λ u m. Fit s m) (Faultless r s) (counted n m)
        (λ u m. valued (together (under r p) line (parts (under r p) m a vs)) m) (counted_fit s n m fit)
        (λ u m fit. valued_holds line (parts (under r p) m a vs) m (parts_fit vs m fit) fit)

  assigned_same : (t : StepTarget) (xs : List Part) (m : State) → Faultless r s xs m →
      assigned_by (under s p) t xs m ≡ assigned_by (under r p) t xs m
  assigned_same (inner.Local k) xs m h = refl
  assigned_same (inner.Cell k) xs m h = ap (λ cells. record m { cells = cells }) (same_cells r s x xs h.1 h.0 0 m.cells)
  assigned_same (inner.Element k e) xs m h = ap (λ cells. record m { cells = cells }) (same_cells r s x xs h.1 h.0 0 m.cells)

  -- ---- all statements

  module _ (names : Names) where
    sees_test : (e : Expression) → Needs s (IsNamed names e) → (v : View) → Needs s (SeesValues v → GivesValue (attempt_value v e))
    sees_test e named v i sees = value_gives names v sees e (named i)

    tested_same : (line : ℕ) (e : Expression) → Needs s (IsNamed names e) → (vs : List ℕ) (m : State) → Fit s m →
        Same r (tested_on (under r p) n line e vs m) (tested_on (under s p) n line e vs m)
    tested_same line e named = attempted_same (λ v. attempt_value v e) (sees_test e named) line

    tested_holds : (line : ℕ) (e : Expression) → Needs s (IsNamed names e) → (vs : List ℕ) (m : State) → Fit s m →
        Holds (Faultless r s) (tested_on (under r p) n line e vs m)
    tested_holds line e named = attempted_holds (λ v. attempt_value v e) (sees_test e named) line

    tested_goes : (line : ℕ) (e : Expression) → Needs s (IsNamed names e) → (vs : List ℕ) (m : State) → Fit s m →
        GoesFit s (tested_on (under r p) n line e vs m)
    tested_goes line e named vs m fit = by (tested_on (under r p) n line e vs m) (tested_holds line e named vs m fit)
      where
        by : (b : Behaviour (List Part)) → Holds (Faultless r s) b → GoesFit s b
        by (Goes xs m) h = h.2
        by (Stops k out) h = tt
        by (Reaches out) h = tt

    row_goes : {k : _} (xs : Row_of-Step k) → Needs s (ArePartSteps names xs) → (vs : List ℕ) (m : State) → Fit s m →
        GoesFit s (perform_row_on (under r p) n xs vs m)
    row_goes xs are vs m fit =
        kept s (perform_row_on (under r p) n xs vs m) (λ i. row_keeps (under r p) n names xs (are i) vs m (fit i))

    step_goes : (y : Step) → Needs s (IsStep names y) → (vs : List ℕ) (m : State) → Fit s m → GoesFit s (perform_on (under r p) n y vs m)
    step_goes y is vs m fit =
        kept s (perform_on (under r p) n y vs m) (λ i. steps_keep_values (under r p) n names y vs m (is i) (fit i))

    mutual
      perform_same : (y : Step) → Needs s (IsStep names y) → (vs : List ℕ) (m : State) → Fit s m →
          Same r (perform_on (under r p) n y vs m) (perform_on (under s p) n y vs m)
      perform_same (step.Assign here t e) is vs m fit =
          same_then r (Faultless r s) (attempted_on (under r p) n here.line (λ v. attempt_step v t e) vs m)
          (attempted_on (under s p) n here.line (λ v. attempt_step v t e) vs m) (λ xs m. Goes tt (assigned_by (under r p) t xs m))
          (λ xs m. Goes tt (assigned_by (under s p) t xs m))
          (attempted_same (λ v. attempt_step v t e) (λ v i sees. step_gives names v sees t e (is i)) here.line vs m fit)
          (attempted_holds (λ v. attempt_step v t e) (λ v i sees. step_gives names v sees t e (is i)) here.line vs m fit)
          (λ xs m h lawful. ap (λ m. Goes tt m) (assigned_same t xs m h))
      perform_same (step.If' here e q a o b) is vs m fit =
          same_then r (Faultless r s) (tested_on (under r p) n here.line e vs m) (tested_on (under s p) n here.line e vs m)
          (λ xs m. then_do (perform_row_on (under r p) n a (those true xs) m) (λ u. perform_row_on (under r p) n b (those false xs)))
          (λ xs m. then_do (perform_row_on (under s p) n a (those true xs) m) (λ u. perform_row_on (under s p) n b (those false xs)))
          (tested_same here.line e (λ i. (is i).0.0) vs m fit) (tested_holds here.line e (λ i. (is i).0.0) vs m fit)
          (λ xs m h. same_then r (λ u m. Fit s m) (perform_row_on (under r p) n a (those true xs) m)
          (perform_row_on (under s p) n a (those true xs) m) (λ u. perform_row_on (under r p) n b (those false xs))
          (λ u. perform_row_on (under s p) n b (those false xs)) (row_same a (λ i. (is i).1) (those true xs) m h.2)
          (row_goes a (λ i. (is i).1) (those true xs) m h.2) (λ u m g. row_same b (λ i. (is i).2) (those false xs) m g))
      perform_same (step.While' here e q body) is vs m fit =
          turns_on_same r s (n + 1) (tested_on (under r p) n here.line e) (tested_on (under s p) n here.line e)
          (perform_row_on (under r p) n body) (perform_row_on (under s p) n body)
          (λ vs m g. tested_same here.line e (λ i. (is i).0.0) vs m g) (λ vs m g. tested_goes here.line e (λ i. (is i).0.0) vs m g)
          (λ vs m g. row_same body (λ i. (is i).1) vs m g) (λ vs m g. row_goes body (λ i. (is i).1) vs m g) vs m fit

      row_same : {k : _} (ys : Row_of-Step k) → Needs s (ArePartSteps names ys) → (vs : List ℕ) (m : State) → Fit s m →
          Same r (perform_row_on (under r p) n ys vs m) (perform_row_on (under s p) n ys vs m)
      row_same end_of-Step are vs m fit = λ lawful. refl
      row_same (more_of-Step y ys) are vs m fit =
          same_then r (λ u m. Fit s m) (perform_on (under r p) n y vs m) (perform_on (under s p) n y vs m)
          (λ u. perform_row_on (under r p) n ys vs) (λ u. perform_row_on (under s p) n ys vs) (perform_same y (λ i. (are i).0) vs m fit)
          (step_goes y (λ i. (are i).0) vs m fit) (λ u m g. row_same ys (λ i. (are i).1) vs m g)

    pub list_on_same : (ys : List Step) → Needs s (AreSteps names ys) → (vs : List ℕ) (m : State) → Fit s m →
        Same r (perform_list_on (under r p) n ys vs m) (perform_list_on (under s p) n ys vs m)
    list_on_same [] are vs m fit = λ lawful. refl
    list_on_same (y ∷ ys) are vs m fit =
        same_then r (λ u m. Fit s m) (perform_on (under r p) n y vs m) (perform_on (under s p) n y vs m)
        (λ u. perform_list_on (under r p) n ys vs) (λ u. perform_list_on (under s p) n ys vs) (perform_same y (λ i. (are i).0) vs m fit)
        (step_goes y (λ i. (are i).0) vs m fit) (λ u m g. list_on_same ys (λ i. (are i).1) vs m g)
