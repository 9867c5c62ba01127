-- The code of a statement by its tree alone; what is said of the tree has it.
use Rattle.std.proofs.Common.{◌≡◌, ℕ, ◌+◌, List, [], ◌∷◌, ◌++◌, Bool, true, false, Option, Some, None, length, refl, ap, sym, ◌∙◌, Global}
use Rattle.std.proofs.Common.{Vec}
use mathlib.Core.List.{map}
use Rattle.superstep_instructions.specs.declared.instr.Instr.{Instr}
use Rattle.superstep_instructions.specs.declared.instr.Side.TheVariants as side
use Rattle.pram_tokens.specs.declared.token.Location.{Location}
use Rattle.pram_tokens.specs.declared.token.Name.{Name}
use Rattle.pram_trees.specs.declared.tree.Expr.{Expr}
use Rattle.pram_trees.specs.declared.tree.Stmt.{Stmt}
use Rattle.pram_trees.specs.declared.tree.Stmt.TheVariants as s
use Rattle.pram_trees.specs.declared.tree.Stmt.TheOpen.{Stmt-F}
use Rattle.pram_trees.specs.declared.tree.Stmt.TheFolds.{fold-Stmt, fold-roll-Stmt}
use Rattle.pram_names.specs.declared.body.Expression.{Expression}
use Rattle.pram_names.specs.declared.body.Step.{Step, Row_of-Step, end_of-Step, more_of-Step, items-the_row-Step}
use Rattle.pram_names.specs.declared.body.Step.{items_hidden-the_row-Step-0}
use Rattle.pram_names.specs.declared.body.Step.TheBlock.{hidden-the_row-Step-0}
use Rattle.pram_names.specs.declared.body.Statement.{Statement, Row_of-Statement, end_of-Statement, more_of-Statement}
use Rattle.pram_names.specs.declared.body.Statement.{items-the_row-Statement, items_hidden-the_row-Statement-0}
use Rattle.pram_names.specs.declared.body.Statement.TheBlock.{hidden-the_row-Statement-0}
use Rattle.pram_names.specs.declared.body.Step as step
use Rattle.pram_names.specs.declared.body.Statement as statement
use Rattle.pram_names.specs.declared.body.StepTarget.{StepTarget}
use Rattle.pram_names.specs.declared.body.Target.{Target}
use Rattle.pram_names.specs.declared.scope.Meaning.{Meaning}
use Rattle.pram_names.specs.declared.scope.Meaning.TheVariants as meaning
use Rattle.pram_names.specs.Resolved.{Says, SayElse, SayOther, SayStatements, SaySteps, SaysInner, SaysStatement, SaysStep, SaysTarget}
use Rattle.pram_names.specs.Resolved as says
use Rattle.pram_names.specs.Scope.{Scope, inner_scope, meaning_of}
use Rattle.plain_form.specs.Formulas.{Formula, Pair, Zero, formula_of}
use Rattle.plain_form.specs.Inside.{Frame, step_code, step_left, steps_code, steps_left}
use Rattle.plain_form.specs.Inside as inside
use Rattle.plain_form.specs.Outside.{code, left, statements_code, statements_left}
use Rattle.plain_form.specs.Outside as outside
use Rattle.plain_form.specs.Registers.{behind_locals, behind_turns, local, variable}
use Rattle.plain_form.specs.Shapes.{for_code, gets, if_code, inner_if_code, inner_while_code, pardo_code, prints, sent, still, while_code}
use Rattle.plain_form.specs.Shapes.{writes}
use Rattle.program_runs.proofs.SaidFormulas.{formula_by, formula_said}

-- ---- the code of statements as a function of where it begins, and whether a write is held behind it

pub record Inner : Type 0 where
  pub code : Frame → (base start : ℕ) → Bool → List Instr
  pub left : Bool → Bool

pub record Outer : Type 0 where
  pub code : Bool → (free start : ℕ) → Bool → List Instr
  pub left : Bool → Bool

-- whether there are statements
abbrev any : {A : Type 0} → List A → Bool
any [] = false
any (x ∷ xs) = true

abbrev no_step : Inner
no_step = record { code = λ w base start held. []; left = λ held. held }

abbrev step_then : Inner → Inner → Inner
step_then d r = record {
  code = λ w base start held.
      let first = d.code w base start held in first ++ r.code w base (start + length first) (d.left held);
  left = λ held. r.left (d.left held);
}

abbrev no_statement : Outer
no_statement = record { code = λ keep free start held. []; left = λ held. held }

abbrev statement_then : Outer → Outer → Outer
statement_then d r = record {
  code = λ keep free start held.
      let first = d.code keep free start held in first ++ r.code keep free (start + length first) (d.left held);
  left = λ held. r.left (d.left held);
}

-- ---- by kinds, inside pardo

abbrev set_inner : Option Meaning → ℕ → Formula → Inner
set_inner (Some (meaning.Local x)) line f = record {
  code = λ w base start held. gets w.keep held line side.Private base f (local x);
  left = λ held. still held f;
}
set_inner (Some (meaning.Cell a)) line f = record {
  code = λ w base start held. writes w.keep held line side.Private base a Zero f;
  left = λ held. true;
}
set_inner (Some (meaning.Uniform x)) line f = no_step
set_inner (Some (meaning.Array a)) line f = no_step
set_inner (Some meaning.Index) line f = no_step
set_inner None line f = no_step

abbrev put_inner : Option Meaning → ℕ → Formula → Formula → Inner
put_inner (Some (meaning.Array a)) line i f = record {
  code = λ w base start held. writes w.keep held line side.Private base a i f;
  left = λ held. true;
}
put_inner (Some (meaning.Local x)) line i f = no_step
put_inner (Some (meaning.Cell a)) line i f = no_step
put_inner (Some (meaning.Uniform x)) line i f = no_step
put_inner (Some meaning.Index) line i f = no_step
put_inner None line i f = no_step

abbrev while_inner : ℕ → Formula → Inner → Inner
while_inner line f body = record {
  code = λ w base start held. inner_while_code w.keep held start line w.vote base (base + 1) f
      (λ start. sent (body.code w (base + 1) start false) (body.left false));
  left = λ held. false;
}

abbrev if_inner : ℕ → Formula → Inner → Bool → Inner → Inner
if_inner line f part has other = record {
  code = λ w base start held. inner_if_code w.keep held start line base f (λ start. part.code w base start (still held f)) has
      (λ start. other.code w base start (part.left (still held f)));
  left = λ held. other.left (part.left (still held f));
}

-- ---- and outside

abbrev set_outer : Option Meaning → ℕ → Formula → Outer
set_outer (Some (meaning.Uniform x)) line f = record {
  code = λ keep free start held. gets keep held line side.Uniform free f (variable x);
  left = λ held. still held f;
}
set_outer (Some (meaning.Cell a)) line f = record {
  code = λ keep free start held. writes keep held line side.Uniform free a Zero f;
  left = λ held. true;
}
set_outer (Some (meaning.Local x)) line f = no_statement
set_outer (Some (meaning.Array a)) line f = no_statement
set_outer (Some meaning.Index) line f = no_statement
set_outer None line f = no_statement

abbrev put_outer : Option Meaning → ℕ → Formula → Formula → Outer
put_outer (Some (meaning.Array a)) line i f = record {
  code = λ keep free start held. writes keep held line side.Uniform free a i f;
  left = λ held. true;
}
put_outer (Some (meaning.Local x)) line i f = no_statement
put_outer (Some (meaning.Cell a)) line i f = no_statement
put_outer (Some (meaning.Uniform x)) line i f = no_statement
put_outer (Some meaning.Index) line i f = no_statement
put_outer None line i f = no_statement

abbrev print_outer : ℕ → Formula → Outer
print_outer line f = record { code = λ keep free start held. prints keep held line free f; left = λ held. still held f }

abbrev while_outer : ℕ → Formula → Outer → Outer
while_outer line f body = record {
  code = λ keep free start held. while_code keep held start line free f
      (λ start. sent (body.code keep free start false) (body.left false));
  left = λ held. false;
}

abbrev if_outer : ℕ → Formula → Outer → Bool → Outer → Outer
if_outer line f part has other = record {
  code = λ keep free start held. if_code keep held start line free f
      (λ start. sent (part.code keep free start false) (part.left false)) has
      (λ start. sent (other.code keep free start false) (other.left false));
  left = λ held. false;
}

abbrev for_outer : Option Meaning → ℕ → Formula → Formula → Outer → Outer
for_outer (Some (meaning.Uniform x)) line f g body = record {
  code = λ keep free start held. for_code keep held start line free x f g
      (λ start. sent (body.code keep (behind_turns free) start false) (body.left false));
  left = λ held. false;
}
for_outer (Some (meaning.Local x)) line f g body = no_statement
for_outer (Some (meaning.Cell x)) line f g body = no_statement
for_outer (Some (meaning.Array x)) line f g body = no_statement
for_outer (Some meaning.Index) line f g body = no_statement
for_outer None line f g body = no_statement

abbrev pardo_outer : ℕ → Formula → Formula → ℕ → Inner → Outer
pardo_outer line f g locals body = record {
  code = λ keep free start held. pardo_code keep held start line free f g
      (λ start. body.code (record { keep = keep; vote = free }) (behind_locals locals) start (still held (Pair f g)));
  left = λ held. body.left (still held (Pair f g));
}

-- ---- of a tree

pub record Coding : Type 0 where
  pub inner : Scope → Inner
  pub outer : Scope → Outer

abbrev inner_row : Scope → List Coding → Inner
inner_row scope [] = no_step
inner_row scope (d ∷ ds) = step_then (d.inner scope) (inner_row scope ds)

abbrev outer_row : Scope → List Coding → Outer
outer_row scope [] = no_statement
outer_row scope (d ∷ ds) = statement_then (d.outer scope) (outer_row scope ds)

abbrev all_of : {A : Type 0} → Option (List A) → List A
all_of None = []
all_of (Some xs) = xs

abbrev node : Stmt-F Coding → Coding
node (Stmt-F.Assign x v) = record {
  inner = λ scope. set_inner (meaning_of scope x.text) x.location.line (formula_by scope v);
  outer = λ scope. set_outer (meaning_of scope x.text) x.location.line (formula_by scope v);
}
node (Stmt-F.AssignElement x i v) = record {
  inner = λ scope. put_inner (meaning_of scope x.text) x.location.line (formula_by scope i) (formula_by scope v);
  outer = λ scope. put_outer (meaning_of scope x.text) x.location.line (formula_by scope i) (formula_by scope v);
}
node (Stmt-F.Print l v) = record { inner = λ scope. no_step; outer = λ scope. print_outer l.line (formula_by scope v) }
node (Stmt-F.While l c body) = record {
  inner = λ scope. while_inner l.line (formula_by scope c) (inner_row scope body);
  outer = λ scope. while_outer l.line (formula_by scope c) (outer_row scope body);
}
node (Stmt-F.If l c body other) = record {
  inner = λ scope. if_inner l.line (formula_by scope c) (inner_row scope body) (any (all_of other)) (inner_row scope (all_of other));
  outer = λ scope. if_outer l.line (formula_by scope c) (outer_row scope body) (any (all_of other)) (outer_row scope (all_of other));
}
node (Stmt-F.For l x low high body) = record {
  inner = λ scope. no_step;
  outer = λ scope. for_outer (meaning_of scope x.text) l.line (formula_by scope low) (formula_by scope high) (outer_row scope body);
}
node (Stmt-F.Pardo l low x high locals body) = record {
  inner = λ scope. no_step;
  outer = λ scope. pardo_outer l.line (formula_by scope low) (formula_by scope high) (length locals)
      (inner_row (inner_scope scope x locals) body);
}

-- the code of a tree
unfoldable pub coding : Stmt → Coding
coding = fold-Stmt Coding node

abbrev inner_block : Scope → List Stmt → Inner
inner_block scope [] = no_step
inner_block scope (x ∷ xs) = step_then ((coding x).inner scope) (inner_block scope xs)

abbrev pub outer_block : Scope → List Stmt → Outer
outer_block scope [] = no_statement
outer_block scope (x ∷ xs) = statement_then ((coding x).outer scope) (outer_block scope xs)

each_inner : (scope : Scope) (xs : List Stmt) → inner_row scope (map coding xs) ≡ inner_block scope xs
each_inner scope [] = refl
each_inner scope (x ∷ xs) = ap (step_then ((coding x).inner scope)) (each_inner scope xs)

each_outer : (scope : Scope) (xs : List Stmt) → outer_row scope (map coding xs) ≡ outer_block scope xs
each_outer scope [] = refl
each_outer scope (x ∷ xs) = ap (statement_then ((coding x).outer scope)) (each_outer scope xs)

as_many : (xs : List Stmt) → any (map coding xs) ≡ any xs
as_many [] = refl
as_many (x ∷ xs) = refl

do-Assign : (x : Name) (v : Expr) → coding (s.Assign x v) ≡ node (Stmt-F.Assign x v)
unfolding coding
do-Assign x v = ap coding (sym (s.rolls-Assign x v)) ∙ fold-roll-Stmt Coding node (Stmt-F.Assign x v)

do-AssignElement : (x : Name) (i v : Expr) → coding (s.AssignElement x i v) ≡ node (Stmt-F.AssignElement x i v)
unfolding coding
do-AssignElement x i v = ap coding (sym (s.rolls-AssignElement x i v)) ∙ fold-roll-Stmt Coding node (Stmt-F.AssignElement x i v)

do-Print : (l : Location) (v : Expr) → coding (s.Print l v) ≡ node (Stmt-F.Print l v)
unfolding coding
do-Print l v = ap coding (sym (s.rolls-Print l v)) ∙ fold-roll-Stmt Coding node (Stmt-F.Print l v)

do-While : (l : Location) (c : Expr) (body : List Stmt) → coding (s.While l c body) ≡ node (Stmt-F.While l c (map coding body))
unfolding coding
do-While l c body = ap coding (sym (s.rolls-While l c body)) ∙ fold-roll-Stmt Coding node (Stmt-F.While l c body)

do-If : (l : Location) (c : Expr) (body : List Stmt) → coding (s.If l c body None) ≡ node (Stmt-F.If l c (map coding body) None)
unfolding coding
do-If l c body = ap coding (sym (s.rolls-If l c body None)) ∙ fold-roll-Stmt Coding node (Stmt-F.If l c body None)

do-Else : (l : Location) (c : Expr) (body other : List Stmt) →
    coding (s.If l c body (Some other)) ≡ node (Stmt-F.If l c (map coding body) (Some (map coding other)))
unfolding coding
do-Else l c body other = ap coding (sym (s.rolls-If l c body (Some other))) ∙ fold-roll-Stmt Coding node (Stmt-F.If l c body (Some other))

do-For : (l : Location) (x : Name) (low high : Expr) (body : List Stmt) →
    coding (s.For l x low high body) ≡ node (Stmt-F.For l x low high (map coding body))
unfolding coding
do-For l x low high body = ap coding (sym (s.rolls-For l x low high body)) ∙ fold-roll-Stmt Coding node (Stmt-F.For l x low high body)

do-Pardo : (l : Location) (low : Expr) (x : Name) (high : Expr) (locals : List Name) (body : List Stmt) →
    coding (s.Pardo l low x high locals body) ≡ node (Stmt-F.Pardo l low x high locals (map coding body))
unfolding coding
do-Pardo l low x high locals body = ap coding (sym (s.rolls-Pardo l low x high locals body))
    ∙ fold-roll-Stmt Coding node (Stmt-F.Pardo l low x high locals body)

do-inner-if : (scope : Scope) (l : Location) (c : Expr) (body : List Stmt) (other : Option (List Stmt)) →
    (coding (s.If l c body other)).inner scope ≡ if_inner l.line (formula_by scope c) (inner_block scope body) (any (all_of other))
    (inner_block scope (all_of other))
do-inner-if scope l c body None = ap (λ (d : Coding). d.inner scope) (do-If l c body)
    ∙ ap (λ p. if_inner l.line (formula_by scope c) p false no_step) (each_inner scope body)
do-inner-if scope l c body (Some other) = ap (λ (d : Coding). d.inner scope) (do-Else l c body other)
    ∙ ap (λ p. if_inner l.line (formula_by scope c) p (any (map coding other)) (inner_row scope (map coding other))) (each_inner scope body)
    ∙ ap (λ b. if_inner l.line (formula_by scope c) (inner_block scope body) b (inner_row scope (map coding other))) (as_many other)
    ∙ ap (if_inner l.line (formula_by scope c) (inner_block scope body) (any other)) (each_inner scope other)

do-outer-if : (scope : Scope) (l : Location) (c : Expr) (body : List Stmt) (other : Option (List Stmt)) →
    (coding (s.If l c body other)).outer scope ≡ if_outer l.line (formula_by scope c) (outer_block scope body) (any (all_of other))
    (outer_block scope (all_of other))
do-outer-if scope l c body None = ap (λ (d : Coding). d.outer scope) (do-If l c body)
    ∙ ap (λ p. if_outer l.line (formula_by scope c) p false no_statement) (each_outer scope body)
do-outer-if scope l c body (Some other) = ap (λ (d : Coding). d.outer scope) (do-Else l c body other)
    ∙ ap (λ p. if_outer l.line (formula_by scope c) p (any (map coding other)) (outer_row scope (map coding other))) (each_outer scope body)
    ∙ ap (λ b. if_outer l.line (formula_by scope c) (outer_block scope body) b (outer_row scope (map coding other))) (as_many other)
    ∙ ap (if_outer l.line (formula_by scope c) (outer_block scope body) (any other)) (each_outer scope other)

-- ---- what is said, inside pardo

abbrev inner_of : Step → Inner
inner_of y = record { code = λ w base start held. step_code w base start held y; left = λ held. step_left held y }

abbrev inner_part : {n : _} → Row_of-Step n → Inner
inner_part k = record {
  code = λ w base start held. inside.part_code w base start held k;
  left = λ held. inside.part_left held k;
}

abbrev inner_list : List Step → Inner
inner_list ys = record { code = λ w base start held. steps_code w base start held ys; left = λ held. steps_left held ys }

inner_items : {n : _} (k : Row_of-Step n) → inner_part k ≡ inner_list (items-the_row-Step n k)
inner_items end_of-Step = refl
inner_items (more_of-Step y k) = ap (step_then (inner_of y)) (inner_items k)

inner_body : (ys : Vec Step Global) → inner_part (hidden-the_row-Step-0 ys) ≡ inner_list ys.items
inner_body ys = inner_items (hidden-the_row-Step-0 ys) ∙ ap inner_list (items_hidden-the_row-Step-0 ys)

any_step : {n : _} (k : Row_of-Step n) → inside.has_part k ≡ any (items-the_row-Step n k)
any_step end_of-Step = refl
any_step (more_of-Step y k) = refl

any_steps : (ys : Vec Step Global) → inside.has_part (hidden-the_row-Step-0 ys) ≡ any ys.items
any_steps ys = any_step (hidden-the_row-Step-0 ys) ∙ ap any (items_hidden-the_row-Step-0 ys)

module _ (scope : Scope) where
  inner_said : (x : Name) (t : StepTarget) (y : Expression) (here : Location) → SaysInner scope x t →
      inner_of (step.Assign here t y) ≡ set_inner (meaning_of scope x.text) here.line (formula_of y)
  inner_said x _ y here (says.local k is) = sym (ap (λ o. set_inner o here.line (formula_of y)) is)
  inner_said x _ y here (says.cell k is) = sym (ap (λ o. set_inner o here.line (formula_of y)) is)

  mutual
    step_said : (x : Stmt) (y : Step) → SaysStep scope x y → inner_of y ≡ (coding x).inner scope
    step_said _ _ (says.assign x v t y to said) = inner_said x t y x.location to
        ∙ ap (set_inner (meaning_of scope x.text) x.location.line) (formula_said scope v y said)
        ∙ sym (ap (λ (d : Coding). d.inner scope) (do-Assign x v))
    step_said _ _ (says.assign_element x i v k z y is first said) =
        sym (ap (λ o. put_inner o x.location.line (formula_of z) (formula_of y)) is)
        ∙ ap (λ f. put_inner (meaning_of scope x.text) x.location.line f (formula_of y)) (formula_said scope i z first)
        ∙ ap (put_inner (meaning_of scope x.text) x.location.line (formula_by scope i)) (formula_said scope v y said)
        ∙ sym (ap (λ (d : Coding). d.inner scope) (do-AssignElement x i v))
    step_said _ _ (says.while l c body y steps said h) =
        ap (while_inner l.line (formula_of y)) (inner_body steps ∙ steps_said body steps.items h)
        ∙ ap (λ f. while_inner l.line f (inner_block scope body)) (formula_said scope c y said)
        ∙ sym (ap (λ (d : Coding). d.inner scope) (do-While l c body)
        ∙ ap (while_inner l.line (formula_by scope c)) (each_inner scope body))
    step_said _ _ (says.if_else l c body other y steps others said h g) =
        ap (λ p. if_inner l.line (formula_of y) p (inside.has_part (hidden-the_row-Step-0 others))
        (inner_part (hidden-the_row-Step-0 others))) (inner_body steps ∙ steps_said body steps.items h)
        ∙ ap (λ b. if_inner l.line (formula_of y) (inner_block scope body) b (inner_part (hidden-the_row-Step-0 others)))
        (any_steps others ∙ else_many other others.items g)
        ∙ ap (if_inner l.line (formula_of y) (inner_block scope body) (any (all_of other)))
        (inner_body others ∙ else_said other others.items g)
        ∙ ap (λ f. if_inner l.line f (inner_block scope body) (any (all_of other)) (inner_block scope (all_of other)))
        (formula_said scope c y said)
        ∙ sym (do-inner-if scope l c body other)

    else_said : (other : Option (List Stmt)) (ys : List Step) → SayElse scope other ys → inner_list ys ≡ inner_block scope (all_of other)
    else_said _ _ says.missing = refl
    else_said _ _ (says.present other ys h) = steps_said other ys h

    else_many : (other : Option (List Stmt)) (ys : List Step) → SayElse scope other ys → any ys ≡ any (all_of other)
    else_many _ _ says.missing = refl
    else_many _ _ (says.present other ys h) = steps_many other ys h

    steps_many : (xs : List Stmt) (ys : List Step) → SaySteps scope xs ys → any ys ≡ any xs
    steps_many _ _ says.none = refl
    steps_many _ _ (says.more x rest y others here behind) = refl

    steps_said : (xs : List Stmt) (ys : List Step) → SaySteps scope xs ys → inner_list ys ≡ inner_block scope xs
    steps_said _ _ says.none = refl
    steps_said _ _ (says.more x rest y others here behind) =
        ap (λ d. step_then d (inner_list others)) (step_said x y here)
        ∙ ap (step_then ((coding x).inner scope)) (steps_said rest others behind)

-- ---- and outside

abbrev outer_of : Statement → Outer
outer_of y = record { code = λ keep free start held. code keep free start held y; left = λ held. left held y }

abbrev outer_part : {n : _} → Row_of-Statement n → Outer
outer_part k = record {
  code = λ keep free start held. outside.part_code keep free start held k;
  left = λ held. outside.part_left held k;
}

abbrev pub outer_list : List Statement → Outer
outer_list ys = record {
  code = λ keep free start held. statements_code keep free start held ys;
  left = λ held. statements_left held ys;
}

outer_items : {n : _} (k : Row_of-Statement n) → outer_part k ≡ outer_list (items-the_row-Statement n k)
outer_items end_of-Statement = refl
outer_items (more_of-Statement y k) = ap (statement_then (outer_of y)) (outer_items k)

outer_body : (ys : Vec Statement Global) → outer_part (hidden-the_row-Statement-0 ys) ≡ outer_list ys.items
outer_body ys = outer_items (hidden-the_row-Statement-0 ys) ∙ ap outer_list (items_hidden-the_row-Statement-0 ys)

any_statement : {n : _} (k : Row_of-Statement n) → outside.has_part k ≡ any (items-the_row-Statement n k)
any_statement end_of-Statement = refl
any_statement (more_of-Statement y k) = refl

any_statements : (ys : Vec Statement Global) → outside.has_part (hidden-the_row-Statement-0 ys) ≡ any ys.items
any_statements ys = any_statement (hidden-the_row-Statement-0 ys) ∙ ap any (items_hidden-the_row-Statement-0 ys)

module _ (scope : Scope) where
  outer_said : (x : Name) (t : Target) (y : Expression) (here : Location) → SaysTarget scope x t →
      outer_of (statement.Assign here t y) ≡ set_outer (meaning_of scope x.text) here.line (formula_of y)
  outer_said x _ y here (says.uniform k is) = sym (ap (λ o. set_outer o here.line (formula_of y)) is)
  outer_said x _ y here (says.cell k is) = sym (ap (λ o. set_outer o here.line (formula_of y)) is)

  mutual
    statement_said : (x : Stmt) (y : Statement) → SaysStatement scope x y → outer_of y ≡ (coding x).outer scope
    statement_said _ _ (says.assign x v t y to said) = outer_said x t y x.location to
        ∙ ap (set_outer (meaning_of scope x.text) x.location.line) (formula_said scope v y said)
        ∙ sym (ap (λ (d : Coding). d.outer scope) (do-Assign x v))
    statement_said _ _ (says.assign_element x i v k z y is first said) =
        sym (ap (λ o. put_outer o x.location.line (formula_of z) (formula_of y)) is)
        ∙ ap (λ f. put_outer (meaning_of scope x.text) x.location.line f (formula_of y)) (formula_said scope i z first)
        ∙ ap (put_outer (meaning_of scope x.text) x.location.line (formula_by scope i)) (formula_said scope v y said)
        ∙ sym (ap (λ (d : Coding). d.outer scope) (do-AssignElement x i v))
    statement_said _ _ (says.print l v y said) =
        ap (print_outer l.line) (formula_said scope v y said) ∙ sym (ap (λ (d : Coding). d.outer scope) (do-Print l v))
    statement_said _ _ (says.while l c body y inside said h) =
        ap (while_outer l.line (formula_of y)) (outer_body inside ∙ statements_said body inside.items h)
        ∙ ap (λ f. while_outer l.line f (outer_block scope body)) (formula_said scope c y said)
        ∙ sym (ap (λ (d : Coding). d.outer scope) (do-While l c body)
        ∙ ap (while_outer l.line (formula_by scope c)) (each_outer scope body))
    statement_said _ _ (says.if_else l c body other y inside others said h g) =
        ap (λ p. if_outer l.line (formula_of y) p (outside.has_part (hidden-the_row-Statement-0 others))
        (outer_part (hidden-the_row-Statement-0 others))) (outer_body inside ∙ statements_said body inside.items h)
        ∙ ap (λ b. if_outer l.line (formula_of y) (outer_block scope body) b (outer_part (hidden-the_row-Statement-0 others)))
        (any_statements others ∙ other_many other others.items g)
        ∙ ap (if_outer l.line (formula_of y) (outer_block scope body) (any (all_of other)))
        (outer_body others ∙ other_said other others.items g)
        ∙ ap (λ f. if_outer l.line f (outer_block scope body) (any (all_of other)) (outer_block scope (all_of other)))
        (formula_said scope c y said)
        ∙ sym (do-outer-if scope l c body other)
    statement_said _ _ (says.for_to l x low high body k a b inside is first second h) =
        sym (ap (λ o. for_outer o l.line (formula_of a) (formula_of b) (outer_part (hidden-the_row-Statement-0 inside))) is)
        ∙ ap (for_outer (meaning_of scope x.text) l.line (formula_of a) (formula_of b))
        (outer_body inside ∙ statements_said body inside.items h)
        ∙ ap (λ f. for_outer (meaning_of scope x.text) l.line f (formula_of b) (outer_block scope body)) (formula_said scope low a first)
        ∙ ap (λ f. for_outer (meaning_of scope x.text) l.line (formula_by scope low) f (outer_block scope body))
        (formula_said scope high b second)
        ∙ sym (ap (λ (d : Coding). d.outer scope) (do-For l x low high body)
        ∙ ap (for_outer (meaning_of scope x.text) l.line (formula_by scope low) (formula_by scope high)) (each_outer scope body))
    statement_said _ _ (says.pardo l low x high locals body a b steps first second h) =
        ap (pardo_outer l.line (formula_of a) (formula_of b) (length locals))
        (steps_said (inner_scope scope x locals) body steps.items h)
        ∙ ap (λ f. pardo_outer l.line f (formula_of b) (length locals) (inner_block (inner_scope scope x locals) body))
        (formula_said scope low a first)
        ∙ ap (λ f. pardo_outer l.line (formula_by scope low) f (length locals) (inner_block (inner_scope scope x locals) body))
        (formula_said scope high b second)
        ∙ sym (ap (λ (d : Coding). d.outer scope) (do-Pardo l low x high locals body)
        ∙ ap (pardo_outer l.line (formula_by scope low) (formula_by scope high) (length locals))
        (each_inner (inner_scope scope x locals) body))

    other_said : (other : Option (List Stmt)) (ys : List Statement) → SayOther scope other ys →
        outer_list ys ≡ outer_block scope (all_of other)
    other_said _ _ says.missing = refl
    other_said _ _ (says.present other ys h) = statements_said other ys h

    other_many : (other : Option (List Stmt)) (ys : List Statement) → SayOther scope other ys → any ys ≡ any (all_of other)
    other_many _ _ says.missing = refl
    other_many _ _ (says.present other ys h) = statements_many other ys h

    statements_many : (xs : List Stmt) (ys : List Statement) → SayStatements scope xs ys → any ys ≡ any xs
    statements_many _ _ says.none = refl
    statements_many _ _ (says.more x rest y others here behind) = refl

    pub statements_said : (xs : List Stmt) (ys : List Statement) → SayStatements scope xs ys → outer_list ys ≡ outer_block scope xs
    statements_said _ _ says.none = refl
    statements_said _ _ (says.more x rest y others here behind) =
        ap (λ d. statement_then d (outer_list others)) (statement_said x y here)
        ∙ ap (statement_then ((coding x).outer scope)) (statements_said rest others behind)
