-- What a statement of a tree does, by itself; what is said of it does the same.
use Rattle.std.proofs.Common.{◌≡◌, ℕ, ◌+◌, List, [], ◌∷◌, Bool, true, false, Option, Some, None, ℤ, pos, length, if◌then◌else◌, refl, ap}
use Rattle.std.proofs.Common.{sym, ◌∙◌}
use mathlib.Core.List.{map}
use Rattle.pram_model.specs.Layout.{cell_of, width}
use Rattle.pram_tokens.specs.declared.token.Location.{Location}
use Rattle.pram_tokens.specs.declared.token.Name.{Name}
use Rattle.pram_trees.specs.declared.tree.Expr.{Expr}
use Rattle.pram_trees.specs.declared.tree.Stmt.{Stmt}
use Rattle.pram_trees.specs.declared.tree.Stmt.TheVariants as s
use Rattle.pram_trees.specs.declared.tree.Stmt.TheOpen.{Stmt-F}
use Rattle.pram_trees.specs.declared.tree.Stmt.TheFolds.{fold-Stmt, fold-roll-Stmt}
use Rattle.pram_values.specs.Truth.{is_nonzero}
use Rattle.pram_check.specs.Checked.{Checked}
use Rattle.pram_names.specs.declared.body.Expression.{Expression}
use Rattle.pram_names.specs.declared.body.Statement.{Statement}
use Rattle.pram_names.specs.declared.body.Statement as statement
use Rattle.pram_names.specs.declared.body.Step.{Step}
use Rattle.pram_names.specs.declared.body.Step as step
use Rattle.pram_names.specs.declared.body.Step.TheBlock.{hidden-the_row-Step-0}
use Rattle.pram_names.specs.declared.body.StepTarget.{StepTarget}
use Rattle.pram_names.specs.declared.body.Target.{Target}
use Rattle.pram_names.specs.declared.scope.Meaning.{Meaning}
use Rattle.pram_names.specs.declared.scope.Meaning.TheVariants.{Uniform, Cell, Array, Index, Local}
use Rattle.pram_names.specs.Resolved.{Says, SayElse, SayOther, SayStatements, SaySteps, SaysInner, SaysStatement, SaysStep, SaysTarget}
use Rattle.pram_names.specs.Resolved as says
use Rattle.pram_names.specs.Scope.{Scope, inner_scope, meaning_of}
use Rattle.pram_meaning.specs.Attempt.{Attempt, Effect, Gives, and_then, attempt, attempt_bounds, attempt_range, ranged, unwritten, write}
use Rattle.pram_meaning.specs.Bounded.{Behaviour, Done, Goes, attempted_on, evaluated, for_turns, perform, perform_list, perform_list_on}
use Rattle.pram_meaning.specs.Bounded.{perform_on, perform_row_on, tested, then_do, turns, turns_on}
use Rattle.pram_meaning.specs.Conflict.{Part}
use Rattle.pram_meaning.specs.Store.{State, View, numbers, printed, seen, with_team, with_uniform, without_team}
use Rattle.pram_meaning.specs.Together.{after_write, overwritten, those, with_locals}
use Rattle.pram_meaning.proofs.Blocks as outside
use Rattle.pram_meaning.proofs.DenotedExpressions.{Reading, value_by, value_said}
use Rattle.pram_meaning.proofs.SetBlocks as inside

-- what a tree's statement does inside pardo and outside
pub record Doing : Type 0 where
  pub on : Scope → List ℕ → State → Done
  pub alone : Scope → State → Done

-- ---- attempts

abbrev plain : Reading → View → Attempt Effect
plain r s = and_then (r s []) unwritten

abbrev stored : Option Meaning → Reading → View → Attempt Effect
stored (Some (Cell k)) r s = and_then (r s []) (write (cell_of s.layout k (pos 0)))
stored (Some (Uniform k)) r s = plain r s
stored (Some (Local k)) r s = plain r s
stored (Some (Array k)) r s = plain r s
stored (Some Index) r s = plain r s
stored None r s = plain r s

abbrev stored_at : Option Meaning → Reading → Reading → View → Attempt Effect
stored_at (Some (Array k)) i r s = and_then (i s []) (λ t z. and_then (r s t) (write (cell_of s.layout k z)))
stored_at (Some (Cell k)) i r s = plain r s
stored_at (Some (Uniform k)) i r s = plain r s
stored_at (Some (Local k)) i r s = plain r s
stored_at (Some Index) i r s = plain r s
stored_at None i r s = plain r s

abbrev bounds_by : Reading → Reading → View → Attempt (ℤ × ℤ)
bounds_by e f s = and_then (e s []) (λ t a. and_then (f s t) (λ t b. Gives t (a, b)))

abbrev range_by : ℕ → Reading → Reading → View → Attempt (ℤ × ℕ)
range_by procs e f s = and_then (e s []) (λ t a. and_then (f s t) (λ t b. ranged procs a (width a b) t))

module _ (p : Checked) (n : ℕ) where
  -- ---- inside pardo

  abbrev set_on : Option Meaning → List Part → State → State
  set_on (Some (Local x)) xs m = record m { team = with_locals x xs m.team }
  set_on (Some (Cell a)) xs m = record m { cells = overwritten p.rule xs 0 m.cells }
  set_on (Some (Array a)) xs m = record m { cells = overwritten p.rule xs 0 m.cells }
  set_on (Some (Uniform x)) xs m = m
  set_on (Some Index) xs m = m
  set_on None xs m = m

  abbrev assign_by : Option Meaning → ℕ → Reading → List ℕ → State → Done
  assign_by o line r vs m = then_do (attempted_on p n line (stored o r) vs m) (λ xs m. Goes tt (set_on o xs m))

  abbrev assign_at : Option Meaning → ℕ → Reading → Reading → List ℕ → State → Done
  assign_at o line i r vs m = then_do (attempted_on p n line (stored_at o i r) vs m) (λ xs m. Goes tt (set_on o xs m))

  abbrev while_on : ℕ → Reading → (List ℕ → State → Done) → List ℕ → State → Done
  while_on line r body vs m = turns_on (n + 1) (attempted_on p n line (plain r)) body vs m

  abbrev if_on : ℕ → Reading → (body other : List ℕ → State → Done) → List ℕ → State → Done
  if_on line r body other vs m = then_do (attempted_on p n line (plain r) vs m)
      (λ xs m. then_do (body (those true xs) m) (λ u. other (those false xs)))

  -- ---- outside

  abbrev set_one : Option Meaning → Effect → State → State
  set_one (Some (Uniform x)) g m = with_uniform x g.value m
  set_one (Some (Cell a)) g m = after_write g.cell g.value m
  set_one (Some (Array a)) g m = after_write g.cell g.value m
  set_one (Some (Local x)) g m = m
  set_one (Some Index) g m = m
  set_one None g m = m

  abbrev assign_one : Option Meaning → ℕ → Reading → State → Done
  assign_one o line r m = then_do (evaluated n line (λ m. stored o r (seen p m)) m) (λ g m. Goes tt (set_one o g m))

  abbrev assign_one_at : Option Meaning → ℕ → Reading → Reading → State → Done
  assign_one_at o line i r m = then_do (evaluated n line (λ m. stored_at o i r (seen p m)) m) (λ g m. Goes tt (set_one o g m))

  abbrev value_of : ℕ → Reading → State → Behaviour ℤ
  value_of line r m = evaluated n line (λ m. r (seen p m) []) m

  abbrev test_of : ℕ → Reading → State → Behaviour Bool
  test_of line r m = then_do (value_of line r m) (λ v m. Goes (is_nonzero v) m)

  abbrev for_by : Option Meaning → ℕ → Reading → Reading → (State → Done) → State → Done
  for_by (Some (Uniform x)) line e f body m = then_do (evaluated n line (λ m. bounds_by e f (seen p m)) m)
      (λ r. for_turns n (width r.0 r.1) x r.0 body)
  for_by (Some (Cell x)) line e f body m = Goes tt m
  for_by (Some (Array x)) line e f body m = Goes tt m
  for_by (Some (Local x)) line e f body m = Goes tt m
  for_by (Some Index) line e f body m = Goes tt m
  for_by None line e f body m = Goes tt m

  abbrev pardo_by : ℕ → Reading → Reading → ℕ → (List ℕ → State → Done) → State → Done
  pardo_by line e f locals body m =
      then_do (evaluated n line (λ m. range_by p.procs e f (seen p m)) m)
      (λ r m. then_do (body (numbers 0 r.1) (with_team r.0 r.1 locals m)) (λ u m. Goes tt (without_team m)))

  -- ---- a tree

  abbrev row_on : List Doing → Scope → List ℕ → State → Done
  row_on [] scope vs m = Goes tt m
  row_on (d ∷ ds) scope vs m = then_do (d.on scope vs m) (λ u. row_on ds scope vs)

  abbrev row_alone : List Doing → Scope → State → Done
  row_alone [] scope m = Goes tt m
  row_alone (d ∷ ds) scope m = then_do (d.alone scope m) (λ u. row_alone ds scope)

  abbrev else_on : Option (List Doing) → Scope → List ℕ → State → Done
  else_on None scope vs m = Goes tt m
  else_on (Some ds) scope vs m = row_on ds scope vs m

  abbrev else_alone : Option (List Doing) → Scope → State → Done
  else_alone None scope m = Goes tt m
  else_alone (Some ds) scope m = row_alone ds scope m

  abbrev node : Stmt-F Doing → Doing
  node (Stmt-F.Assign x v) = record {
    on = λ scope. assign_by (meaning_of scope x.text) x.location.line (value_by scope v);
    alone = λ scope. assign_one (meaning_of scope x.text) x.location.line (value_by scope v);
  }
  node (Stmt-F.AssignElement x i v) = record {
    on = λ scope. assign_at (meaning_of scope x.text) x.location.line (value_by scope i) (value_by scope v);
    alone = λ scope. assign_one_at (meaning_of scope x.text) x.location.line (value_by scope i) (value_by scope v);
  }
  node (Stmt-F.Print l v) = record {
    on = λ scope vs m. Goes tt m;
    alone = λ scope m. then_do (value_of l.line (value_by scope v) m) (λ v m. Goes tt (printed v m));
  }
  node (Stmt-F.While l c body) = record {
    on = λ scope. while_on l.line (value_by scope c) (row_on body scope);
    alone = λ scope. turns (n + 1) (test_of l.line (value_by scope c)) (row_alone body scope);
  }
  node (Stmt-F.If l c body other) = record {
    on = λ scope. if_on l.line (value_by scope c) (row_on body scope) (else_on other scope);
    alone = λ scope m. then_do (test_of l.line (value_by scope c) m)
        (λ z m. if z then row_alone body scope m else else_alone other scope m);
  }
  node (Stmt-F.For l x low high body) = record {
    on = λ scope vs m. Goes tt m;
    alone = λ scope. for_by (meaning_of scope x.text) l.line (value_by scope low) (value_by scope high) (row_alone body scope);
  }
  node (Stmt-F.Pardo l low x high locals body) = record {
    on = λ scope vs m. Goes tt m;
    alone = λ scope. pardo_by l.line (value_by scope low) (value_by scope high) (length locals) (row_on body (inner_scope scope x locals));
  }

  -- what a statement does
  unfoldable pub doing : Stmt → Doing
  doing = fold-Stmt Doing node

  abbrev block_on : List Stmt → Scope → List ℕ → State → Done
  block_on [] scope vs m = Goes tt m
  block_on (x ∷ xs) scope vs m = then_do ((doing x).on scope vs m) (λ u. block_on xs scope vs)

  abbrev pub block_alone : List Stmt → Scope → State → Done
  block_alone [] scope m = Goes tt m
  block_alone (x ∷ xs) scope m = then_do ((doing x).alone scope m) (λ u. block_alone xs scope)

  abbrev other_on : Option (List Stmt) → Scope → List ℕ → State → Done
  other_on None scope vs m = Goes tt m
  other_on (Some xs) scope vs m = block_on xs scope vs m

  abbrev other_alone : Option (List Stmt) → Scope → State → Done
  other_alone None scope m = Goes tt m
  other_alone (Some xs) scope m = block_alone xs scope m

  each_on : (xs : List Stmt) → row_on (map doing xs) ≡ block_on xs
  each_on xs = λ j scope vs m. by xs scope vs m j
    where
      by : (xs : List Stmt) (scope : Scope) (vs : List ℕ) (m : State) → row_on (map doing xs) scope vs m ≡ block_on xs scope vs m
      by [] scope vs m = refl
      by (x ∷ xs) scope vs m = ap (then_do ((doing x).on scope vs m)) (λ j u m. by xs scope vs m j)

  each_alone : (xs : List Stmt) → row_alone (map doing xs) ≡ block_alone xs
  each_alone xs = λ j scope m. by xs scope m j
    where
      by : (xs : List Stmt) (scope : Scope) (m : State) → row_alone (map doing xs) scope m ≡ block_alone xs scope m
      by [] scope m = refl
      by (x ∷ xs) scope m = ap (then_do ((doing x).alone scope m)) (λ j u m. by xs scope m j)

  do-Assign : (x : Name) (v : Expr) → doing (s.Assign x v) ≡ node (Stmt-F.Assign x v)
  unfolding doing
  do-Assign x v = ap doing (sym (s.rolls-Assign x v)) ∙ fold-roll-Stmt Doing node (Stmt-F.Assign x v)

  do-AssignElement : (x : Name) (i v : Expr) → doing (s.AssignElement x i v) ≡ node (Stmt-F.AssignElement x i v)
  unfolding doing
  do-AssignElement x i v = ap doing (sym (s.rolls-AssignElement x i v)) ∙ fold-roll-Stmt Doing node (Stmt-F.AssignElement x i v)

  do-Print : (l : Location) (v : Expr) → doing (s.Print l v) ≡ node (Stmt-F.Print l v)
  unfolding doing
  do-Print l v = ap doing (sym (s.rolls-Print l v)) ∙ fold-roll-Stmt Doing node (Stmt-F.Print l v)

  do-While : (l : Location) (c : Expr) (body : List Stmt) → doing (s.While l c body) ≡ node (Stmt-F.While l c (map doing body))
  unfolding doing
  do-While l c body = ap doing (sym (s.rolls-While l c body)) ∙ fold-roll-Stmt Doing node (Stmt-F.While l c body)

  do-If : (l : Location) (c : Expr) (body : List Stmt) → doing (s.If l c body None) ≡ node (Stmt-F.If l c (map doing body) None)
  unfolding doing
  do-If l c body = ap doing (sym (s.rolls-If l c body None)) ∙ fold-roll-Stmt Doing node (Stmt-F.If l c body None)

  do-Else : (l : Location) (c : Expr) (body other : List Stmt) →
      doing (s.If l c body (Some other)) ≡ node (Stmt-F.If l c (map doing body) (Some (map doing other)))
  unfolding doing
  do-Else l c body other = ap doing (sym (s.rolls-If l c body (Some other))) ∙ fold-roll-Stmt Doing node (Stmt-F.If l c body (Some other))

  do-For : (l : Location) (x : Name) (low high : Expr) (body : List Stmt) →
      doing (s.For l x low high body) ≡ node (Stmt-F.For l x low high (map doing body))
  unfolding doing
  do-For l x low high body = ap doing (sym (s.rolls-For l x low high body)) ∙ fold-roll-Stmt Doing node (Stmt-F.For l x low high body)

  do-Pardo : (l : Location) (low : Expr) (x : Name) (high : Expr) (locals : List Name) (body : List Stmt) →
      doing (s.Pardo l low x high locals body) ≡ node (Stmt-F.Pardo l low x high locals (map doing body))
  unfolding doing
  do-Pardo l low x high locals body = ap doing (sym (s.rolls-Pardo l low x high locals body))
      ∙ fold-roll-Stmt Doing node (Stmt-F.Pardo l low x high locals body)

  do-either : (l : Location) (c : Expr) (body : List Stmt) (other : Option (List Stmt)) (scope : Scope) (vs : List ℕ) (m : State) →
      (doing (s.If l c body other)).on scope vs m ≡ if_on l.line (value_by scope c) (block_on body scope) (other_on other scope) vs m
  do-either l c body None scope vs m =
      ap (λ (d : Doing). d.on scope vs m) (do-If l c body) ∙ ap (λ (f : Scope → List ℕ → State → Done). if_on l.line (value_by scope c)
      (f scope) (λ vs m. Goes tt m) vs m) (each_on body)
  do-either l c body (Some other) scope vs m =
      ap (λ (d : Doing). d.on scope vs m) (do-Else l c body other)
      ∙ ap (λ (f : Scope → List ℕ → State → Done). if_on l.line (value_by scope c) (f scope) (row_on (map doing other) scope) vs m)
      (each_on body)
      ∙ ap (λ (f : Scope → List ℕ → State → Done). if_on l.line (value_by scope c) (block_on body scope) (f scope) vs m) (each_on other)

  do-either-alone : (l : Location) (c : Expr) (body : List Stmt) (other : Option (List Stmt)) (scope : Scope) (m : State) →
      (doing (s.If l c body other)).alone scope m
      ≡ then_do (test_of l.line (value_by scope c) m) (λ z m. if z then block_alone body scope m else other_alone other scope m)
  do-either-alone l c body None scope m =
      ap (λ (d : Doing). d.alone scope m) (do-If l c body)
      ∙ ap (λ (f : Scope → State → Done). then_do (test_of l.line (value_by scope c) m) (λ z m. if z then f scope m else Goes tt m))
      (each_alone body)
  do-either-alone l c body (Some other) scope m =
      ap (λ (d : Doing). d.alone scope m) (do-Else l c body other)
      ∙ ap (λ (f : Scope → State → Done). then_do (test_of l.line (value_by scope c) m)
      (λ z m. if z then f scope m else row_alone (map doing other) scope m)) (each_alone body)
      ∙ ap (λ (f : Scope → State → Done). then_do (test_of l.line (value_by scope c) m)
      (λ z m. if z then block_alone body scope m else f scope m)) (each_alone other)

  -- ---- what is said, inside pardo

  module _ (scope : Scope) where
    -- the attempts at an expression that is said
    plain_said : (v : Expr) (y : Expression) → Says scope v y → (λ (s : View). and_then (attempt s y []) unwritten) ≡ plain
        (value_by scope v)
    plain_said v y said = λ j s. and_then (value_said scope s v y said [] j) unwritten

    cell_said : (k : ℕ) (v : Expr) (y : Expression) → Says scope v y →
        (λ (s : View). and_then (attempt s y []) (write (cell_of s.layout k (pos 0)))) ≡ stored (Some (Cell k)) (value_by scope v)
    cell_said k v y said = λ j s. and_then (value_said scope s v y said [] j) (write (cell_of s.layout k (pos 0)))

    element_said : (k : ℕ) (i v : Expr) (z y : Expression) → Says scope i z → Says scope v y →
        (λ (s : View). and_then (attempt s z []) (λ t z. and_then (attempt s y t) (write (cell_of s.layout k z)))) ≡ stored_at
        (Some (Array k)) (value_by scope i) (value_by scope v)
    element_said k i v z y first said = λ j s. and_then (value_said scope s i z first [] j)
        (λ t z. and_then (value_said scope s v y said t j) (write (cell_of s.layout k z)))

    inner_said : (x : Name) (v : Expr) (t : StepTarget) (y : Expression) (here : Location) → SaysInner scope x t → Says scope v y →
        (vs : List ℕ) (m : State) →
        perform_on p n (step.Assign here t y) vs m ≡ assign_by (meaning_of scope x.text) here.line (value_by scope v) vs m
    inner_said x v _ y here (says.local k is) said vs m =
        ap (λ (a : View → Attempt Effect). then_do (attempted_on p n here.line a vs m) (λ xs m. Goes tt (set_on (Some (Local k)) xs m)))
        (plain_said v y said)
        ∙ sym (ap (λ o. assign_by o here.line (value_by scope v) vs m) is)
    inner_said x v _ y here (says.cell k is) said vs m =
        ap (λ (a : View → Attempt Effect). then_do (attempted_on p n here.line a vs m) (λ xs m. Goes tt (set_on (Some (Cell k)) xs m)))
        (cell_said k v y said)
        ∙ sym (ap (λ o. assign_by o here.line (value_by scope v) vs m) is)

    mutual
      step_said : (x : Stmt) (y : Step) → SaysStep scope x y → (vs : List ℕ) (m : State) → perform_on p n y vs m ≡ (doing x).on scope vs m
      step_said _ _ (says.assign x v t y to said) vs m = inner_said x v t y x.location to said vs m
          ∙ sym (ap (λ (d : Doing). d.on scope vs m) (do-Assign x v))
      step_said _ _ (says.assign_element x i v k z y is first said) vs m =
          ap (λ (a : View → Attempt Effect). then_do (attempted_on p n x.location.line a vs m)
          (λ xs m. Goes tt (set_on (Some (Array k)) xs m))) (element_said k i v z y first said)
          ∙ sym (ap (λ o. assign_at o x.location.line (value_by scope i) (value_by scope v) vs m) is)
          ∙ sym (ap (λ (d : Doing). d.on scope vs m) (do-AssignElement x i v))
      step_said _ _ (says.while l c body y steps said h) vs m =
          ap (λ (f : List ℕ → State → Done). turns_on (n + 1) (attempted_on p n l.line (λ s. and_then (attempt s y []) unwritten)) f vs m)
          (inside.block_is p n steps)
          ∙ ap (λ (a : View → Attempt Effect). turns_on (n + 1) (attempted_on p n l.line a) (perform_list_on p n steps.items) vs m)
          (plain_said c y said)
          ∙ ap (λ (f : List ℕ → State → Done). while_on l.line (value_by scope c) f vs m) (λ j vs m. steps_said body steps.items h vs m j)
          ∙ sym (ap (λ (d : Doing). d.on scope vs m) (do-While l c body)
          ∙ ap (λ (f : Scope → List ℕ → State → Done). while_on l.line (value_by scope c) (f scope) vs m) (each_on body))
      step_said _ _ (says.if_else l c body other y steps others said h g) vs m =
          ap (λ (f : List ℕ → State → Done). then_do (attempted_on p n l.line (λ s. and_then (attempt s y []) unwritten) vs m)
          (λ xs m. then_do (f (those true xs) m) (λ u. perform_row_on p n (hidden-the_row-Step-0 others) (those false xs))))
          (inside.block_is p n steps)
          ∙ ap (λ (f : List ℕ → State → Done). then_do (attempted_on p n l.line (λ s. and_then (attempt s y []) unwritten) vs m)
          (λ xs m. then_do (perform_list_on p n steps.items (those true xs) m) (λ u. f (those false xs)))) (inside.block_is p n others)
          ∙ ap (λ (a : View → Attempt Effect). then_do (attempted_on p n l.line a vs m)
          (λ xs m. then_do (perform_list_on p n steps.items (those true xs) m) (λ u. perform_list_on p n others.items (those false xs))))
          (plain_said c y said)
          ∙ ap (λ (f : List ℕ → State → Done). if_on l.line (value_by scope c) f (perform_list_on p n others.items) vs m)
          (λ j vs m. steps_said body steps.items h vs m j)
          ∙ ap (λ (f : List ℕ → State → Done). if_on l.line (value_by scope c) (block_on body scope) f vs m)
          (λ j vs m. else_said other others.items g vs m j)
          ∙ sym (do-either l c body other scope vs m)

      else_said : (other : Option (List Stmt)) (ys : List Step) → SayElse scope other ys → (vs : List ℕ) (m : State) →
          perform_list_on p n ys vs m ≡ other_on other scope vs m
      else_said _ _ says.missing vs m = refl
      else_said _ _ (says.present other ys h) vs m = steps_said other ys h vs m

      steps_said : (xs : List Stmt) (ys : List Step) → SaySteps scope xs ys → (vs : List ℕ) (m : State) →
          perform_list_on p n ys vs m ≡ block_on xs scope vs m
      steps_said _ _ says.none vs m = refl
      steps_said _ _ (says.more x rest y others here behind) vs m =
          ap (λ b. then_do b (λ u. perform_list_on p n others vs)) (step_said x y here vs m)
          ∙ ap (then_do ((doing x).on scope vs m)) (λ j u m. steps_said rest others behind vs m j)

  -- ---- what is said, outside

  module _ (scope : Scope) where
    outer_said : (x : Name) (v : Expr) (t : Target) (y : Expression) (here : Location) → SaysTarget scope x t → Says scope v y →
        (m : State) →
        perform p n (statement.Assign here t y) m ≡ assign_one (meaning_of scope x.text) here.line (value_by scope v) m
    outer_said x v _ y here (says.uniform k is) said m =
        ap (λ (a : View → Attempt Effect). then_do (evaluated n here.line (λ m. a (seen p m)) m)
        (λ g m. Goes tt (set_one (Some (Uniform k)) g m))) (plain_said scope v y said)
        ∙ sym (ap (λ o. assign_one o here.line (value_by scope v) m) is)
    outer_said x v _ y here (says.cell k is) said m =
        ap (λ (a : View → Attempt Effect). then_do (evaluated n here.line (λ m. a (seen p m)) m)
        (λ g m. Goes tt (set_one (Some (Cell k)) g m)))
        (cell_said scope k v y said)
        ∙ sym (ap (λ o. assign_one o here.line (value_by scope v) m) is)

    test_said : (c : Expr) (y : Expression) (line : ℕ) → Says scope c y → tested p n line y ≡ test_of line (value_by scope c)
    test_said c y line said = λ j m. then_do (evaluated n line (λ m. value_said scope (seen p m) c y said [] j) m)
        (λ v m. Goes (is_nonzero v) m)

    bounds_said : (low high : Expr) (a b : Expression) → Says scope low a → Says scope high b →
        (λ (s : View). attempt_bounds s a b) ≡ bounds_by (value_by scope low) (value_by scope high)
    bounds_said low high a b first second = λ j s. and_then (value_said scope s low a first [] j)
        (λ t a. and_then (value_said scope s high b second t j) (λ t b. Gives t (a, b)))

    range_said : (low high : Expr) (a b : Expression) → Says scope low a → Says scope high b →
        (λ (s : View). attempt_range p.procs s a b) ≡ range_by p.procs (value_by scope low) (value_by scope high)
    range_said low high a b first second = λ j s. and_then (value_said scope s low a first [] j)
        (λ t a. and_then (value_said scope s high b second t j) (λ t b. ranged p.procs a (width a b) t))

    mutual
      statement_said : (x : Stmt) (y : Statement) → SaysStatement scope x y → (m : State) → perform p n y m ≡ (doing x).alone scope m
      statement_said _ _ (says.assign x v t y to said) m = outer_said x v t y x.location to said m
          ∙ sym (ap (λ (d : Doing). d.alone scope m) (do-Assign x v))
      statement_said _ _ (says.assign_element x i v k z y is first said) m =
          ap (λ (a : View → Attempt Effect). then_do (evaluated n x.location.line (λ m. a (seen p m)) m)
          (λ g m. Goes tt (set_one (Some (Array k)) g m))) (element_said scope k i v z y first said)
          ∙ sym (ap (λ o. assign_one_at o x.location.line (value_by scope i) (value_by scope v) m) is)
          ∙ sym (ap (λ (d : Doing). d.alone scope m) (do-AssignElement x i v))
      statement_said _ _ (says.print l v y said) m =
          (λ j. then_do (evaluated n l.line (λ m. value_said scope (seen p m) v y said [] j) m) (λ v m. Goes tt (printed v m)))
          ∙ sym (ap (λ (d : Doing). d.alone scope m) (do-Print l v))
      statement_said _ _ (says.while l c body y inside said h) m =
          outside.while_is p n l y inside m
          ∙ ap (λ (t : State → Behaviour Bool). turns (n + 1) t (perform_list p n inside.items) m) (test_said c y l.line said)
          ∙ ap (λ (f : State → Done). turns (n + 1) (test_of l.line (value_by scope c)) f m)
          (λ j m. statements_said body inside.items h m j)
          ∙ sym (ap (λ (d : Doing). d.alone scope m) (do-While l c body)
          ∙ ap (λ (f : Scope → State → Done). turns (n + 1) (test_of l.line (value_by scope c)) (f scope) m) (each_alone body))
      statement_said _ _ (says.if_else l c body other y inside others said h g) m =
          outside.if_is p n l y inside others m
          ∙ ap (λ (t : State → Behaviour Bool). then_do (t m) (λ z m. if z then perform_list p n inside.items m else perform_list p n
          others.items m)) (test_said c y l.line said)
          ∙ ap (λ (f : State → Done). then_do (test_of l.line (value_by scope c) m)
          (λ z m. if z then f m else perform_list p n others.items m)) (λ j m. statements_said body inside.items h m j)
          ∙ ap (λ (f : State → Done). then_do (test_of l.line (value_by scope c) m) (λ z m. if z then block_alone body scope m else f m))
          (λ j m. other_said other others.items g m j)
          ∙ sym (do-either-alone l c body other scope m)
      statement_said _ _ (says.for_to l x low high body k a b inside is first second h) m =
          ap (λ (f : State → Done). then_do (evaluated n l.line (λ m. attempt_bounds (seen p m) a b) m)
          (λ r. for_turns n (width r.0 r.1) k r.0 f)) (outside.block_is p n inside)
          ∙ ap (λ (a : View → Attempt (ℤ × ℤ)). then_do (evaluated n l.line (λ m. a (seen p m)) m)
          (λ r. for_turns n (width r.0 r.1) k r.0 (perform_list p n inside.items))) (bounds_said low high a b first second)
          ∙ ap (λ (f : State → Done). for_by (Some (Uniform k)) l.line (value_by scope low) (value_by scope high) f m)
          (λ j m. statements_said body inside.items h m j)
          ∙ sym (ap (λ (d : Doing). d.alone scope m) (do-For l x low high body)
          ∙ ap (λ (f : Scope → State → Done). for_by (meaning_of scope x.text) l.line (value_by scope low) (value_by scope high)
          (f scope) m) (each_alone body)
          ∙ ap (λ o. for_by o l.line (value_by scope low) (value_by scope high) (block_alone body scope) m) is)
      statement_said _ _ (says.pardo l low x high locals body a b steps first second h) m =
          ap (λ (a : View → Attempt (ℤ × ℕ)). then_do (evaluated n l.line (λ m. a (seen p m)) m)
          (λ r m. then_do (perform_list_on p n steps.items (numbers 0 r.1) (with_team r.0 r.1 (length locals) m))
          (λ u m. Goes tt (without_team m)))) (range_said low high a b first second)
          ∙ ap (λ (f : List ℕ → State → Done). pardo_by l.line (value_by scope low) (value_by scope high) (length locals) f m)
          (λ j vs m. steps_said (inner_scope scope x locals) body steps.items h vs m j)
          ∙ sym (ap (λ (d : Doing). d.alone scope m) (do-Pardo l low x high locals body)
          ∙ ap (λ (f : Scope → List ℕ → State → Done). pardo_by l.line (value_by scope low) (value_by scope high) (length locals)
          (f (inner_scope scope x locals)) m) (each_on body))

      other_said : (other : Option (List Stmt)) (ys : List Statement) → SayOther scope other ys → (m : State) →
          perform_list p n ys m ≡ other_alone other scope m
      other_said _ _ says.missing m = refl
      other_said _ _ (says.present other ys h) m = statements_said other ys h m

      pub statements_said : (xs : List Stmt) (ys : List Statement) → SayStatements scope xs ys → (m : State) →
          perform_list p n ys m ≡ block_alone xs scope m
      statements_said _ _ says.none m = refl
      statements_said _ _ (says.more x rest y others here behind) m =
          ap (λ b. then_do b (λ u. perform_list p n others)) (statement_said x y here m)
          ∙ ap (then_do ((doing x).alone scope m)) (λ j u m. statements_said rest others behind m j)

-- none of it looks at the program's body
pub same_block : (p : Checked) (n : ℕ) (b : List Statement) (xs : List Stmt) (scope : Scope) (m : State) →
    block_alone (record p { body = b }) n xs scope m ≡ block_alone p n xs scope m
unfolding doing
same_block p n b xs scope m = refl
