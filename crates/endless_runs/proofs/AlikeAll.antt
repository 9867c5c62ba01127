-- A run looks neither at how many statements have run nor at what was printed: all statements.
use Rattle.std.proofs.Common.{◌≡◌, ℕ, zero, suc, List, [], ◌∷◌, ◌++◌, Option, Some, None, ℤ, true, false, refl}
use Rattle.pram_check.specs.Checked.{Checked}
use Rattle.pram_model.specs.Layout.{width}
use Rattle.pram_names.specs.declared.body.Statement.{Assign, For', If', Pardo, Print, Row_of-Statement, Statement, While', end_of-Statement}
use Rattle.pram_names.specs.declared.body.Statement.{more_of-Statement}
use Rattle.pram_names.specs.declared.body.Step as step
use Rattle.pram_names.specs.declared.body.Step.{Row_of-Step, Step, end_of-Step, more_of-Step}
use Rattle.pram_names.specs.declared.body.StepTarget.{StepTarget}
use Rattle.pram_names.specs.declared.body.StepTarget.TheVariants as place
use Rattle.pram_names.specs.declared.body.Target.{Target}
use Rattle.pram_names.specs.declared.body.Target.TheVariants as target
use Rattle.pram_meaning.specs.Attempt.{Attempt, Effect, attempt, attempt_assign, attempt_bounds, attempt_range, attempt_step, attempt_value}
use Rattle.pram_meaning.specs.Conflict.{Part}
use Rattle.pram_meaning.specs.Meaning.{AttemptedOn, Does, Either, Evaluated, Fates, ForTurns, IsEnd, Means, MeansList, MeansListOn}
use Rattle.pram_meaning.specs.Meaning.{MeansOn, MeansRow, MeansRowOn, PardoDone, Tested, Then, TurnsOn, UnlessNone}
use Rattle.pram_meaning.specs.Store.{State, View, numbers, printed, seen, with_team, without_team}
use Rattle.pram_meaning.specs.Together.{after_write, assigned, assigned_by, parts, those, together}
use Rattle.endless_runs.proofs.Alike.{IsBlind, blind_either, blind_end, blind_evaluated, blind_for, blind_nothing, blind_tested, blind_then}
use Rattle.endless_runs.proofs.Alike.{blind_turns, blind_value, moved}

-- ---- what a statement leaves

write_moved : (cell : Option ℕ) (v : ℤ) (m : State) (c : ℕ) (out : List ℤ) → after_write cell v (moved c out m) ≡ moved c out
    (after_write cell v m)
write_moved None v m c out = refl
write_moved (Some a) v m c out = refl

assigned_moved : (x : Target) (g : Effect) (m : State) (c : ℕ) (out : List ℤ) → assigned x g (moved c out m) ≡ moved c out (assigned x g m)
assigned_moved (target.Uniform x) g m c out = refl
assigned_moved (target.Cell a) g m c out = write_moved g.cell g.value m c out
assigned_moved (target.Element a e) g m c out = write_moved g.cell g.value m c out

set_moved : (w : Checked) (x : StepTarget) (xs : List Part) (m : State) (c : ℕ) (out : List ℤ) →
    assigned_by w x xs (moved c out m) ≡ moved c out (assigned_by w x xs m)
set_moved w (place.Local x) xs m c out = refl
set_moved w (place.Cell a) xs m c out = refl
set_moved w (place.Element a e) xs m c out = refl

-- ---- inside pardo

blind_attempted : (w : Checked) (line : ℕ) (a : View → Attempt Effect) (vs : List ℕ) → IsBlind (AttemptedOn w line a vs)
blind_attempted w line a vs = blind_value (λ m. together w line (parts w m a vs)) (λ m c out. refl)

blind_unless : (us : List ℕ) (M N : State → Does) → IsBlind M → IsBlind N → IsBlind (λ m. UnlessNone us (M m) (N m))
blind_unless [] M N p q = p
blind_unless (v ∷ vs) M N p q = q

blind_turns_on : (T : List ℕ → State → Fates (List Part)) (B : List ℕ → State → Does) → ((vs : List ℕ) → IsBlind (T vs)) →
    ((vs : List ℕ) → IsBlind (B vs)) → (k : ℕ) (vs : List ℕ) → IsBlind (TurnsOn k T B vs)
blind_turns_on T B t b zero vs m c out f r = absurd r
blind_turns_on T B t b (suc k) vs m c out f r =
    blind_then (T vs) (λ xs m.
    UnlessNone (those true xs) (IsEnd tt m) (Then (Unit {0}) (Unit {0}) (B (those true xs) m) (λ u. TurnsOn k T B (those true xs)))) (t vs)
    (λ xs. blind_unless (those true xs) (λ m. IsEnd tt m) (λ m.
    Then (Unit {0}) (Unit {0}) (B (those true xs) m) (λ u. TurnsOn k T B (those true xs))) (blind_nothing tt)
    (blind_then (B (those true xs)) (λ u. TurnsOn k T B (those true xs)) (b (those true xs))
    (λ u. blind_turns_on T B t b k (those true xs))))
    m c out f r

mutual
  blind_on : (w : Checked) (s : Step) (vs : List ℕ) → IsBlind (MeansOn w s vs)
  blind_on w (step.Assign here x e) vs =
      blind_then (AttemptedOn w here.line (λ s. attempt_step s x e) vs) (λ xs m. IsEnd tt (assigned_by w x xs m))
      (blind_attempted w here.line (λ s. attempt_step s x e) vs)
      (λ xs. blind_end tt (assigned_by w x xs) (λ m c out. (c, out, set_moved w x xs m c out)))
  blind_on w (step.If' here e q a r b) vs =
      blind_then (AttemptedOn w here.line (λ s. attempt_value s e) vs)
      (λ xs m. Then (Unit {0}) (Unit {0}) (MeansRowOn w a (those true xs) m) (λ u. MeansRowOn w b (those false xs)))
      (blind_attempted w here.line (λ s. attempt_value s e) vs)
      (λ xs. blind_then (MeansRowOn w a (those true xs)) (λ u. MeansRowOn w b (those false xs)) (blind_row_on w a (those true xs))
      (λ u. blind_row_on w b (those false xs)))
  blind_on w (step.While' here e q body) vs = λ m c out f r.
      let x = blind_turns_on (AttemptedOn w here.line (λ s. attempt_value s e)) (MeansRowOn w body)
      (blind_attempted w here.line (λ s. attempt_value s e)) (blind_row_on w body) r.0 vs m c out f r.1 in
      (x.0, (r.0, x.1), x.2)

  blind_row_on : (w : Checked) {k : _} (ss : Row_of-Step k) (vs : List ℕ) → IsBlind (MeansRowOn w ss vs)
  blind_row_on w end_of-Step vs = blind_nothing tt
  blind_row_on w (more_of-Step s ss) vs =
      blind_then (MeansOn w s vs) (λ u. MeansRowOn w ss vs) (blind_on w s vs) (λ u. blind_row_on w ss vs)

blind_list_on : (w : Checked) (ss : List Step) (vs : List ℕ) → IsBlind (MeansListOn w ss vs)
blind_list_on w [] vs = blind_nothing tt
blind_list_on w (s ∷ ss) vs = blind_then (MeansOn w s vs) (λ u. MeansListOn w ss vs) (blind_on w s vs) (λ u. blind_list_on w ss vs)

blind_pardo : (w : Checked) (locals : ℕ) (body : List Step) (a : ℤ) (k : ℕ) → IsBlind (PardoDone w locals body a k)
blind_pardo w locals body a k =
    blind_then (λ m. MeansListOn w body (numbers 0 k) (with_team a k locals m)) (λ u m. IsEnd tt (without_team m))
    (λ m. blind_list_on w body (numbers 0 k) (with_team a k locals m))
    (λ u. blind_end tt without_team (λ m c out. (c, out, refl)))

-- ---- outside

mutual
  blind : (w : Checked) (s : Statement) → IsBlind (Means w s)
  blind w (Assign here x e) =
      blind_then (Evaluated here.line (λ m. attempt_assign (seen w m) x e)) (λ g m. IsEnd tt (assigned x g m))
      (blind_evaluated here.line (λ m. attempt_assign (seen w m) x e) (λ m c out. refl))
      (λ g. blind_end tt (assigned x g) (λ m c out. (c, out, assigned_moved x g m c out)))
  blind w (Print here e) =
      blind_then (Evaluated here.line (λ m. attempt (seen w m) e [])) (λ v m. IsEnd tt (printed v m))
      (blind_evaluated here.line (λ m. attempt (seen w m) e []) (λ m c out. refl))
      (λ v. blind_end tt (printed v) (λ m c out. (c, out ++ v ∷ [], refl)))
  blind w (While' here e q body) = λ m c out f r.
      let x = blind_turns (Tested w here.line e) (MeansRow w body) (blind_tested w here.line e) (blind_row w body) r.0 m c out f r.1 in
      (x.0, (r.0, x.1), x.2)
  blind w (If' here e q a r b) =
      blind_then (Tested w here.line e) (λ z m. Either z (MeansRow w a m) (MeansRow w b m)) (blind_tested w here.line e)
      (λ z. blind_either z (MeansRow w a) (MeansRow w b) (blind_row w a) (blind_row w b))
  blind w (For' here x e g q body) =
      blind_then (Evaluated here.line (λ m. attempt_bounds (seen w m) e g)) (λ r. ForTurns (width r.0 r.1) x r.0 (MeansRow w body))
      (blind_evaluated here.line (λ m. attempt_bounds (seen w m) e g) (λ m c out. refl))
      (λ r. blind_for (MeansRow w body) (blind_row w body) (width r.0 r.1) x r.0)
  blind w (Pardo here e g locals body) =
      blind_then (Evaluated here.line (λ m. attempt_range w.procs (seen w m) e g)) (λ r. PardoDone w locals body.items r.0 r.1)
      (blind_evaluated here.line (λ m. attempt_range w.procs (seen w m) e g) (λ m c out. refl))
      (λ r. blind_pardo w locals body.items r.0 r.1)

  blind_row : (w : Checked) {k : _} (ss : Row_of-Statement k) → IsBlind (MeansRow w ss)
  blind_row w end_of-Statement = blind_nothing tt
  blind_row w (more_of-Statement s ss) = blind_then (Means w s) (λ u. MeansRow w ss) (blind w s) (λ u. blind_row w ss)

pub blind_list : (w : Checked) (ss : List Statement) → IsBlind (MeansList w ss)
blind_list w [] = blind_nothing tt
blind_list w (s ∷ ss) = blind_then (Means w s) (λ u. MeansList w ss) (blind w s) (λ u. blind_list w ss)
