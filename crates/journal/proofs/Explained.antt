-- What is told as the cause of a failing attempt has its fault.
use Rattle.std.proofs.Common.{◌≡◌, ℕ, ℤ, pos, [], Bool, true, false, if◌then◌else◌, Option, Some, None, Result, Ok, Err, refl, ap}
use Rattle.std.proofs.Common.{sym, ◌∙◌, subst, arith, nat_lt}
use Rattle.pram_model.specs.Layout.{cell_of, width}
use Rattle.pram_values.specs.declared.kind.Kind.{Kind}
use Rattle.pram_values.specs.declared.kind.Kind.TheVariants.{TooWide}
use Rattle.pram_values.specs.Value.{Value}
use Rattle.pram_check.specs.Checked.{Checked}
use Rattle.pram_names.specs.declared.body.Expression as term
use Rattle.pram_names.specs.declared.body.Expression.{Expression, Row_of-Link, end_of-Link, more_of-Link}
use Rattle.pram_names.specs.declared.body.Target.{Target}
use Rattle.pram_names.specs.declared.body.Target.TheVariants as target
use Rattle.pram_names.specs.declared.body.StepTarget.{StepTarget}
use Rattle.pram_names.specs.declared.body.StepTarget.TheVariants as step
use Rattle.pram_meaning.specs.Attempt.{Attempt, Fails, Gives, Trail, and_then, attempt, attempt_assign, attempt_bounds, attempt_links}
use Rattle.pram_meaning.specs.Attempt.{attempt_range, attempt_step, attempt_value, next, operation, ranged, read, unwritten, write}
use Rattle.pram_meaning.specs.Moments.{Action, Assigns, AssignsOn, Bounds, Chooses, ChoosesOn, Prints, Ranges, Sets, StepAction, Turns}
use Rattle.pram_meaning.specs.Moments.{TurnsOn, writing}
use Rattle.pram_meaning.specs.Operation.{operate, operate_before}
use Rattle.pram_meaning.specs.Store.{View}
use Rattle.journal.specs.Causes.{Before, Between, Cause, Wide}
use Rattle.journal.specs.FoundCauses.{and_find, cause_alone, cause_in, cause_of_assign, cause_of_bounds, cause_of_cell, cause_of_element}
use Rattle.journal.specs.FoundCauses.{cause_of_range, cause_of_single, cause_of_step, cause_of_value, cause_of_width, links_or_cause}
use Rattle.journal.specs.FoundCauses.{read_or_cause, then_cause, unless_wrong, value_or_cause}
use Rattle.journal.specs.Faults.{AloneExplained, Answers, Explains, HasFault, Sees, ValuesAgree, attempted, attempted_on}

module _ (p : Checked) where
  -- ---- one part behind the other

  find_then : (a : Attempt ℤ) (r : Result ℤ Cause) (f : Trail → ℤ → Attempt ℤ) (g : ℤ → Result ℤ Cause) → Answers p a r →
      ((t : Trail) (v : ℤ) → Answers p (f t v) (g v)) → Answers p (and_then a f) (and_find r g)
  find_then (Gives t v) r f g h more = subst (λ r. Answers p (f t v) (and_find r g)) (sym h) (more t v)
  find_then (Fails t k) (Ok v) f g h more = absurd h
  find_then (Fails t k) (Err c) f g h more = h

  told_then : {A : Type 0} (a : Attempt ℤ) (r : Result ℤ Cause) (f : Trail → ℤ → Attempt A) (g : ℤ → Option Cause) → Answers p a r →
      ((t : Trail) (v : ℤ) → Explains p (f t v) (g v)) → Explains p (and_then a f) (then_cause r g)
  told_then (Gives t v) r f g h more = subst (λ r. Explains p (f t v) (then_cause r g)) (sym h) (more t v)
  told_then (Fails t k) (Ok v) f g h more = absurd h
  told_then (Fails t k) (Err c) f g h more = h

  -- ---- expressions

  operation_told : (x y : Value) (c : Cause) (t : Trail) → x ≡ y → ((k : Kind) → x ≡ Err k → HasFault p k c) →
      Answers p (operation y t) (unless_wrong c y)
  operation_told x (Ok v) c t e h = refl
  operation_told x (Err k) c t e h = h k e

  module _ (s : View) (same : Sees p s) where
    no_cell : (a : ℕ) (z : ℤ) → cell_of s.layout a z ≡ None → cell_of p.layout a z ≡ None
    no_cell a z e = ap (λ l. cell_of l a z) (sym same) ∙ e

    read_told : (a : ℕ) (z : ℤ) (o : Option ℕ) (t : Trail) → cell_of s.layout a z ≡ o → Answers p (read s o t) (read_or_cause s a z o)
    read_told a z (Some c) t e = refl
    read_told a z None t e = (refl, no_cell a z e)

    mutual
      pub value_told : (e : Expression) (t : Trail) → Answers p (attempt s e t) (value_or_cause s e)
      value_told (term.Number n) t = refl
      value_told (term.Uniform x) t = refl
      value_told term.Index t = refl
      value_told (term.Local x) t = refl
      value_told (term.Cell a) t = read_told a (pos 0) (cell_of s.layout a (pos 0)) t refl
      value_told (term.Element' a b e) t =
          find_then (attempt s e t) (value_or_cause s e) (λ t z. read s (cell_of s.layout a z) t)
          (λ z. read_or_cause s a z (cell_of s.layout a z)) (value_told e t) (λ t z. read_told a z (cell_of s.layout a z) t refl)
      value_told (term.Prefix' o b e) t =
          find_then (attempt s e t) (value_or_cause s e) (λ t v. operation (operate_before o v) t)
          (λ v. unless_wrong (Before o v) (operate_before o v)) (value_told e t)
          (λ t v. operation_told (operate_before o v) (operate_before o v) (Before o v) t refl (λ k e. e))
      value_told (term.Chain' b e q links) t =
          find_then (attempt s e t) (value_or_cause s e) (attempt_links s links) (links_or_cause s links) (value_told e t)
          (λ t v. links_told links t v)

      links_told : {n : _} (links : Row_of-Link n) (t : Trail) (v : ℤ) → Answers p (attempt_links s links t v) (links_or_cause s links v)
      links_told end_of-Link t v = refl
      links_told (more_of-Link o e links) t v =
          find_then (attempt s e t) (value_or_cause s e) (λ t w. and_then (operation (operate o v w) t) (attempt_links s links))
          (λ w. and_find (unless_wrong (Between v o w) (operate o v w)) (links_or_cause s links)) (value_told e t)
          (λ t w. find_then (operation (operate o v w) t) (unless_wrong (Between v o w) (operate o v w)) (attempt_links s links)
          (links_or_cause s links) (operation_told (operate o v w) (operate o v w) (Between v o w) t refl (λ k e. e))
          (λ t u. links_told links t u))

    -- ---- statements

    only : (a : Attempt ℤ) (r : Result ℤ Cause) → Answers p a r → Explains p a (then_cause r (λ v. None))
    only (Gives t v) r h = ap (λ r. then_cause r (λ v. None)) h
    only (Fails t k) (Ok v) h = absurd h
    only (Fails t k) (Err c) h = h

    -- a test, or what is printed
    pub test_told : (e : Expression) (t : Trail) → Explains p (attempt s e t) (cause_of_value s e)
    test_told e t = only (attempt s e t) (value_or_cause s e) (value_told e t)

    attempt_told : (e : Expression) → Explains p (attempt_value s e) (cause_of_value s e)
    attempt_told e = told_then (attempt s e []) (value_or_cause s e) unwritten (λ v. None) (value_told e []) (λ t v. refl)

    write_told : (a : ℕ) (z : ℤ) (o : Option ℕ) (t : Trail) (v : ℤ) → cell_of s.layout a z ≡ o →
        Explains p (write o t v) (cause_of_cell a z o)
    write_told a z (Some c) t v e = refl
    write_told a z None t v e = (refl, no_cell a z e)

    single_told : (a : ℕ) (e : Expression) →
        Explains p (and_then (attempt s e []) (write (cell_of s.layout a (pos 0)))) (cause_of_single s a e)
    single_told a e =
        told_then (attempt s e []) (value_or_cause s e) (write (cell_of s.layout a (pos 0)))
        (λ v. cause_of_cell a (pos 0) (cell_of s.layout a (pos 0))) (value_told e [])
        (λ t v. write_told a (pos 0) (cell_of s.layout a (pos 0)) t v refl)

    element_told : (a : ℕ) (f e : Expression) →
        Explains p (and_then (attempt s f []) (λ t z. and_then (attempt s e t) (write (cell_of s.layout a z)))) (cause_of_element s a f e)
    element_told a f e =
        told_then (attempt s f []) (value_or_cause s f) (λ t z. and_then (attempt s e t) (write (cell_of s.layout a z)))
        (λ z. then_cause (value_or_cause s e) (λ v. cause_of_cell a z (cell_of s.layout a z))) (value_told f [])
        (λ t z. told_then (attempt s e t) (value_or_cause s e) (write (cell_of s.layout a z))
        (λ v. cause_of_cell a z (cell_of s.layout a z)) (value_told e t) (λ t v. write_told a z (cell_of s.layout a z) t v refl))

    pub assign_told : (x : Target) (e : Expression) → Explains p (attempt_assign s x e) (cause_of_assign s x e)
    assign_told (target.Uniform x) e = attempt_told e
    assign_told (target.Cell a) e = single_told a e
    assign_told (target.Element a f) e = element_told a f e

    step_told : (x : StepTarget) (e : Expression) → Explains p (attempt_step s x e) (cause_of_step s x e)
    step_told (step.Local x) e = attempt_told e
    step_told (step.Cell a) e = single_told a e
    step_told (step.Element a f) e = element_told a f e

    pub bounds_told : (e f : Expression) → Explains p (attempt_bounds s e f) (cause_of_bounds s e f)
    bounds_told e f =
        told_then (attempt s e []) (value_or_cause s e) (λ t a. and_then (attempt s f t) (λ t b. Gives t (a, b)))
        (λ a. cause_of_value s f) (value_told e [])
        (λ t a. told_then (attempt s f t) (value_or_cause s f) (λ t b. Gives t (a, b)) (λ b. None) (value_told f t) (λ t b. refl))

    width_told : (a b : ℤ) (t : Trail) → Explains p (ranged p.procs a (width a b) t) (cause_of_width p.procs a b)
    width_told a b t = by (nat_lt p.procs (width a b)) refl where
      by : (z : Bool) → nat_lt p.procs (width a b) ≡ z →
          Explains {A = ℤ × ℕ} p (if z then Fails (next t) TooWide else Gives (next t) (a, width a b))
          (if z then Some (Wide a b p.procs) else None)
      by true e = (refl, refl, grind (arith, e))
      by false e = refl

    pub range_told : (e f : Expression) → Explains p (attempt_range p.procs s e f) (cause_of_range p.procs s e f)
    range_told e f =
        told_then (attempt s e []) (value_or_cause s e) (λ t a. and_then (attempt s f t) (λ t b. ranged p.procs a (width a b) t))
        (λ a. then_cause (value_or_cause s f) (λ b. cause_of_width p.procs a b)) (value_told e [])
        (λ t a. told_then (attempt s f t) (value_or_cause s f) (λ t b. ranged p.procs a (width a b) t) (λ b. cause_of_width p.procs a b)
        (value_told f t) (λ t b. width_told a b t))

    -- ---- what statements do

    written_told : {A : Type 0} (w : A → Option ℕ) (a : Attempt A) (o : Option Cause) → Explains p a o → Explains p (writing w a) o
    written_told w (Gives t v) o h = h
    written_told w (Fails t k) o h = h

    pub action_told : (act : Action) → Explains p (attempted p s act) (cause_alone p.procs s act)
    action_told (Assigns x e) = written_told _ (attempt_assign s x e) (cause_of_assign s x e) (assign_told x e)
    action_told (Prints e) = written_told _ (attempt s e []) (cause_of_value s e) (test_told e [])
    action_told (Turns e) = written_told _ (attempt s e []) (cause_of_value s e) (test_told e [])
    action_told (Chooses e) = written_told _ (attempt s e []) (cause_of_value s e) (test_told e [])
    action_told (Bounds e f) = written_told _ (attempt_bounds s e f) (cause_of_bounds s e f) (bounds_told e f)
    action_told (Sets x) = refl
    action_told (Ranges e f) = written_told _ (attempt_range p.procs s e f) (cause_of_range p.procs s e f) (range_told e f)

    pub member_told : (act : StepAction) → Explains p (attempted_on act s) (cause_in s act)
    member_told (AssignsOn x e) = step_told x e
    member_told (TurnsOn e) = attempt_told e
    member_told (ChoosesOn e) = attempt_told e

pub values_agree : ValuesAgree
values_agree p s e t same = value_told p s same e t

pub alone_explained : AloneExplained
alone_explained p s act same = action_told p s same act
