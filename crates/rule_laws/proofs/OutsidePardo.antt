-- Statements outside pardo under a weaker rule.
use Rattle.std.proofs.Common.{◌+◌, ℕ, zero, suc, ℤ, pos, ◌+ℤ◌, Bool, true, false, List, [], ◌∷◌, if◌then◌else◌, refl}
use Rattle.std.specs.List.{AllByRecursion}
use Rattle.pram_model.specs.declared.rule.Rule.{Rule}
use Rattle.pram_model.specs.Layout.{width}
use Rattle.pram_check.specs.Bounded.{ArePartStatements, AreStatements, AreSteps, IsStatement, Names, with_locals}
use Rattle.pram_check.specs.Checked.{Checked}
use Rattle.pram_check.specs.OtherRule.{under}
use Rattle.pram_names.specs.declared.body.Expression.{Expression}
use Rattle.pram_names.specs.declared.body.Statement.{Assign, For', If', Pardo, Print, Row_of-Statement, Statement, While', end_of-Statement}
use Rattle.pram_names.specs.declared.body.Statement.{more_of-Statement}
use Rattle.pram_names.specs.declared.body.Step.{Step}
use Rattle.pram_values.specs.Truth.{is_nonzero}
use Rattle.pram_meaning.specs.Attempt.{attempt, attempt_bounds, attempt_range}
use Rattle.pram_meaning.specs.Bounded.{Goes, evaluated, for_turns, found, pardo_done, perform, perform_list}
use Rattle.pram_meaning.specs.Bounded.{perform_list_on, perform_row, tested}
use Rattle.pram_meaning.specs.Store.{State, members, numbers, seen, with_team, without_team}
use Rattle.pram_meaning.specs.Values.{ComesToValues, HasValues, IsMember}
use Rattle.pram_meaning.proofs.SoundValues.{AreNumbers, numbers_first, numbers_rest, zero_is, zeros_are}
use Rattle.pram_meaning.proofs.ValuesKept.{statements_keep_values}
use Rattle.pram_meaning.proofs.ValuesOfAttempts.{SeesValues, bounds_give, range_gives}
use Rattle.rule_laws.proofs.Behaviours.{Any, Anywhere, Fit, GivesFit, GoesFit, Same, anywhere, evaluated_fit, evaluated_goes, for_same}
use Rattle.rule_laws.proofs.Behaviours.{holds_then, itself, kept, same_then, turns_same}
use Rattle.rule_laws.proofs.InsidePardo.{comes_then, list_on_same}
use Rattle.rule_laws.proofs.OneCell.{Eases, Needs}

sees_one : (p : Checked) (m : State) → HasValues m → SeesValues (seen p m)
sees_one p m h = record { uniforms = h.uniforms; cells = h.cells; index = zero_is; locals = tt }

members_are : (a : ℤ) (k locals : ℕ) → AreNumbers a k → AllByRecursion IsMember (members a k locals)
members_are a zero locals all = tt
members_are a (suc k) locals all = (
  record { index = numbers_first a k all; locals = zeros_are locals },
  members_are (a +ℤ pos 1) k locals (numbers_rest a k all),
)

team_fit : (s : Rule) (a : ℤ) (k locals : ℕ) (m : State) → Needs s (AreNumbers a k) → Fit s m → Fit s (with_team a k locals m)
team_fit s a k locals m are fit i =
    let h = fit i in
    record { output = h.output; uniforms = h.uniforms; cells = h.cells; team = members_are a k locals (are i) }

row_keeps : (p : Checked) (n : ℕ) (names : Names) {k : _} (xs : Row_of-Statement k) → ArePartStatements names xs → (m : State) →
    HasValues m → ComesToValues (perform_row p n xs m)
row_keeps p n names end_of-Statement is m h = h
row_keeps p n names (more_of-Statement x xs) is m h =
    comes_then (perform p n x m) (λ u. perform_row p n xs) (statements_keep_values p n names x m is.0 h)
    (λ m g. row_keeps p n names xs is.1 m g)

module _ (r s : Rule) (x : Eases r s) (p : Checked) (n : ℕ) where
  tested_goes : (line : ℕ) (e : Expression) (m : State) → Fit s m → GoesFit s (tested (under r p) n line e m)
  tested_goes line e m fit =
      holds_then (GivesFit s Any) (λ z m. Fit s m) (found (under r p) n line e m) (λ v m. Goes (is_nonzero v) m)
      (evaluated_goes s n line (λ m. attempt (seen (under r p) m) e []) m fit) (λ v m h. h.1)

  pardo_same : (names : Names) (locals : ℕ) (body : List Step) (a : ℤ) (k : ℕ) → Needs s (AreSteps names body) →
      Needs s (AreNumbers a k) → (m : State) → Fit s m →
      Same r (pardo_done (under r p) n locals body a k m) (pardo_done (under s p) n locals body a k m)
  pardo_same names locals body a k are all m fit =
      same_then r Anywhere (perform_list_on (under r p) n body (numbers 0 k) (with_team a k locals m))
      (perform_list_on (under s p) n body (numbers 0 k) (with_team a k locals m)) (λ u m. Goes tt (without_team m))
      (λ u m. Goes tt (without_team m))
      (list_on_same r s x p n names body are (numbers 0 k) (with_team a k locals m) (team_fit s a k locals m all fit))
      (anywhere (perform_list_on (under r p) n body (numbers 0 k) (with_team a k locals m))) (λ u m h lawful. refl)

  module _ (names : Names) where
    row_goes : {k : _} (xs : Row_of-Statement k) → Needs s (ArePartStatements names xs) → (m : State) → Fit s m →
        GoesFit s (perform_row (under r p) n xs m)
    row_goes xs are m fit = kept s (perform_row (under r p) n xs m) (λ i. row_keeps (under r p) n names xs (are i) m (fit i))

    goes : (y : Statement) → Needs s (IsStatement names y) → (m : State) → Fit s m → GoesFit s (perform (under r p) n y m)
    goes y is m fit = kept s (perform (under r p) n y m) (λ i. statements_keep_values (under r p) n names y m (is i) (fit i))

    mutual
      perform_same : (y : Statement) → Needs s (IsStatement names y) → (m : State) → Fit s m →
          Same r (perform (under r p) n y m) (perform (under s p) n y m)
      perform_same (Assign here t e) is m fit = λ lawful. refl
      perform_same (Print here e) is m fit = λ lawful. refl
      perform_same (While' here e q body) is m fit =
          turns_same r s (n + 1) (tested (under r p) n here.line e) (perform_row (under r p) n body) (perform_row (under s p) n body)
          (λ m g. tested_goes here.line e m g) (λ m g. row_same body (λ i. (is i).1) m g) (λ m g. row_goes body (λ i. (is i).1) m g) m fit
      perform_same (If' here e q a o b) is m fit =
          same_then r (λ z m. Fit s m) (tested (under r p) n here.line e m) (tested (under s p) n here.line e m)
          (λ z m. if z then perform_row (under r p) n a m else perform_row (under r p) n b m)
          (λ z m. if z then perform_row (under s p) n a m else perform_row (under s p) n b m)
          (itself r (tested (under r p) n here.line e m)) (tested_goes here.line e m fit)
          (λ z m g. one z m (row_same a (λ i. (is i).1) m g) (row_same b (λ i. (is i).2) m g))
        where
          one : (z : Bool) (m : State) → Same r (perform_row (under r p) n a m) (perform_row (under s p) n a m) →
              Same r (perform_row (under r p) n b m) (perform_row (under s p) n b m) →
              Same r (if z then perform_row (under r p) n a m else perform_row (under r p) n b m)
              (if z then perform_row (under s p) n a m else perform_row (under s p) n b m)
          one true m first second = first
          one false m first second = second
      perform_same (For' here v e f q body) is m fit =
          same_then r (GivesFit s (λ (b : ℤ × ℤ). AreNumbers b.0 (width b.0 b.1)))
          (evaluated n here.line (λ m. attempt_bounds (seen (under r p) m) e f) m)
          (evaluated n here.line (λ m. attempt_bounds (seen (under s p) m) e f) m)
          (λ b. for_turns n (width b.0 b.1) v b.0 (perform_row (under r p) n body))
          (λ b. for_turns n (width b.0 b.1) v b.0 (perform_row (under s p) n body))
          (itself r (evaluated n here.line (λ m. attempt_bounds (seen (under r p) m) e f) m))
          (evaluated_fit s (λ (b : ℤ × ℤ). AreNumbers b.0 (width b.0 b.1)) n here.line (λ m. attempt_bounds (seen (under r p) m) e f) m fit
          (λ m g i. bounds_give names (seen (under r p) m) (sees_one (under r p) m (g i)) e f (is i).1.0 (is i).1.1))
          (λ b m h. for_same r s n (width b.0 b.1) v b.0 (perform_row (under r p) n body) (perform_row (under s p) n body) h.0
          (λ m g. row_same body (λ i. (is i).2) m g) (λ m g. row_goes body (λ i. (is i).2) m g) m h.1)
      perform_same (Pardo here e f locals body) is m fit =
          same_then r (GivesFit s (λ (b : ℤ × ℕ). AreNumbers b.0 b.1))
          (evaluated n here.line (λ m. attempt_range p.procs (seen (under r p) m) e f) m)
          (evaluated n here.line (λ m. attempt_range p.procs (seen (under s p) m) e f) m)
          (λ b. pardo_done (under r p) n locals body.items b.0 b.1) (λ b. pardo_done (under s p) n locals body.items b.0 b.1)
          (itself r (evaluated n here.line (λ m. attempt_range p.procs (seen (under r p) m) e f) m))
          (evaluated_fit s (λ (b : ℤ × ℕ). AreNumbers b.0 b.1) n here.line (λ m. attempt_range p.procs (seen (under r p) m) e f) m fit
          (λ m g i. range_gives names (seen (under r p) m) (sees_one (under r p) m (g i)) p.procs e f (is i).0.0 (is i).0.1))
          (λ b m h. pardo_same (with_locals locals names) locals body.items b.0 b.1 (λ i. (is i).1) h.0 m h.1)

      row_same : {k : _} (ys : Row_of-Statement k) → Needs s (ArePartStatements names ys) → (m : State) → Fit s m →
          Same r (perform_row (under r p) n ys m) (perform_row (under s p) n ys m)
      row_same end_of-Statement are m fit = λ lawful. refl
      row_same (more_of-Statement y ys) are m fit =
          same_then r (λ u m. Fit s m) (perform (under r p) n y m) (perform (under s p) n y m) (λ u. perform_row (under r p) n ys)
          (λ u. perform_row (under s p) n ys) (perform_same y (λ i. (are i).0) m fit) (goes y (λ i. (are i).0) m fit)
          (λ u m g. row_same ys (λ i. (are i).1) m g)

    pub list_same : (ys : List Statement) → Needs s (AreStatements names ys) → (m : State) → Fit s m →
        Same r (perform_list (under r p) n ys m) (perform_list (under s p) n ys m)
    list_same [] are m fit = λ lawful. refl
    list_same (y ∷ ys) are m fit =
        same_then r (λ u m. Fit s m) (perform (under r p) n y m) (perform (under s p) n y m) (λ u. perform_list (under r p) n ys)
        (λ u. perform_list (under s p) n ys) (perform_same y (λ i. (are i).0) m fit) (goes y (λ i. (are i).0) m fit)
        (λ u m g. list_same ys (λ i. (are i).1) m g)
