-- A body whose names are numbers, and the tree that it says: one rule for each form of the tree.
use Rattle.std.specs.Prelude.{◌≡◌, ℕ, List, [], ◌∷◌, length, Option, Some, None}
use Rattle.std.specs.declared.boxed.Box.{Box}
use Rattle.std.specs.declared.vec.Vec.{Vec}
use Rattle.std.specs.declared.alloc.Global.{Global}
use Rattle.pram_tokens.specs.declared.token.Location.{Location}
use Rattle.pram_tokens.specs.declared.token.Name.{Name}
use Rattle.pram_tokens.specs.declared.token.Numeral.{Numeral}
use Rattle.pram_tokens.specs.declared.token.Binary.{Binary}
use Rattle.pram_trees.specs.declared.tree.Prefix.{Prefix}
use Rattle.pram_trees.specs.declared.tree.Expr.{Expr}
use Rattle.pram_trees.specs.declared.tree.Expr.TheVariants as e
use Rattle.pram_trees.specs.declared.tree.Stmt.{Stmt}
use Rattle.pram_trees.specs.declared.tree.Stmt.TheVariants as s
use Rattle.pram_names.specs.declared.body.Expression.{Expression}
use Rattle.pram_names.specs.declared.body.Expression as value
use Rattle.pram_names.specs.declared.body.Link.{Link}
use Rattle.pram_names.specs.declared.body.Target.{Target}
use Rattle.pram_names.specs.declared.body.Target.TheVariants as target
use Rattle.pram_names.specs.declared.body.StepTarget.{StepTarget}
use Rattle.pram_names.specs.declared.body.StepTarget.TheVariants as inner
use Rattle.pram_names.specs.declared.body.Step.{Step}
use Rattle.pram_names.specs.declared.body.Step as step
use Rattle.pram_names.specs.declared.body.Statement.{Statement}
use Rattle.pram_names.specs.declared.body.Statement as statement
use Rattle.pram_names.specs.declared.scope.Meaning.TheVariants as meaning
use Rattle.pram_names.specs.Scope.{Scope, meaning_of, inner_scope}

mutual
  -- the expression that a tree says in a scope
  pub data Says (scope : Scope) : Expr → Expression → Type 0 where
    number : (n : Numeral) → Says scope (e.Number n) (value.Number n.value)
    uniform : (x : Name) (k : ℕ) → meaning_of scope x.text ≡ Some (meaning.Uniform k) →
        Says scope (e.Name x) (value.Uniform k)
    index : (x : Name) → meaning_of scope x.text ≡ Some meaning.Index → Says scope (e.Name x) value.Index
    local : (x : Name) (k : ℕ) → meaning_of scope x.text ≡ Some (meaning.Local k) →
        Says scope (e.Name x) (value.Local k)
    cell : (x : Name) (k : ℕ) → meaning_of scope x.text ≡ Some (meaning.Cell k) → Says scope (e.Name x) (value.Cell k)
    element : (x : Name) (k : ℕ) (i : Expr) (j : Box Expression Global) →
        meaning_of scope x.text ≡ Some (meaning.Array k) → Says scope i j.value →
        Says scope (e.Element x i) (value.Element k j)
    paren : (i : Expr) (x : Expression) → Says scope i x → Says scope (e.Paren i) x
    prefix : (p : Prefix) (i : Expr) (j : Box Expression Global) → Says scope i j.value →
        Says scope (e.Prefix p i) (value.Prefix p j)
    chain : (first : Expr) (rest : List (Binary × Expr)) (x : Box Expression Global) (links : Vec Link Global) →
        Says scope first x.value → SayLinks scope rest links.items →
        Says scope (e.Chain first rest) (value.Chain x links)

  -- operators with their operands
  pub data SayLinks (scope : Scope) : List (Binary × Expr) → List Link → Type 0 where
    none : SayLinks scope [] []
    more : (o : Binary) (i : Expr) (rest : List (Binary × Expr)) (x : Expression) (links : List Link) →
        Says scope i x → SayLinks scope rest links →
        SayLinks scope ((o, i) ∷ rest) (record { operator = o; operand = x } ∷ links)

-- what an assignment inside pardo writes to
pub data SaysInner (scope : Scope) (x : Name) : StepTarget → Type 0 where
  local : (k : ℕ) → meaning_of scope x.text ≡ Some (meaning.Local k) → SaysInner scope x (inner.Local k)
  cell : (k : ℕ) → meaning_of scope x.text ≡ Some (meaning.Cell k) → SaysInner scope x (inner.Cell k)

-- what an assignment outside pardo writes to
pub data SaysTarget (scope : Scope) (x : Name) : Target → Type 0 where
  uniform : (k : ℕ) → meaning_of scope x.text ≡ Some (meaning.Uniform k) → SaysTarget scope x (target.Uniform k)
  cell : (k : ℕ) → meaning_of scope x.text ≡ Some (meaning.Cell k) → SaysTarget scope x (target.Cell k)

mutual
  -- the statement that a tree says inside pardo
  pub data SaysStep (scope : Scope) : Stmt → Step → Type 0 where
    assign : (x : Name) (v : Expr) (t : StepTarget) (y : Expression) → SaysInner scope x t → Says scope v y →
        SaysStep scope (s.Assign x v) (step.Assign x.location t y)
    assign_element : (x : Name) (i v : Expr) (k : ℕ) (j y : Expression) →
        meaning_of scope x.text ≡ Some (meaning.Array k) → Says scope i j → Says scope v y →
        SaysStep scope (s.AssignElement x i v) (step.Assign x.location (inner.Element k j) y)
    while : (l : Location) (test : Expr) (body : List Stmt) (y : Expression) (steps : Vec Step Global) →
        Says scope test y → SaySteps scope body steps.items →
        SaysStep scope (s.While l test body) (step.While l y steps)
    if_else : (l : Location) (test : Expr) (body : List Stmt) (other : Option (List Stmt)) (y : Expression)
        (steps others : Vec Step Global) → Says scope test y →
        SaySteps scope body steps.items → SayElse scope other others.items →
        SaysStep scope (s.If l test body other) (step.If l y steps others)

  -- an `else` part, or none
  pub data SayElse (scope : Scope) : Option (List Stmt) → List Step → Type 0 where
    missing : SayElse scope None []
    present : (other : List Stmt) (steps : List Step) → SaySteps scope other steps → SayElse scope (Some other) steps

  pub data SaySteps (scope : Scope) : List Stmt → List Step → Type 0 where
    none : SaySteps scope [] []
    more : (x : Stmt) (rest : List Stmt) (y : Step) (others : List Step) → SaysStep scope x y →
        SaySteps scope rest others → SaySteps scope (x ∷ rest) (y ∷ others)

mutual
  -- the statement that a tree says outside pardo
  pub data SaysStatement (scope : Scope) : Stmt → Statement → Type 0 where
    assign : (x : Name) (v : Expr) (t : Target) (y : Expression) → SaysTarget scope x t → Says scope v y →
        SaysStatement scope (s.Assign x v) (statement.Assign x.location t y)
    assign_element : (x : Name) (i v : Expr) (k : ℕ) (j y : Expression) →
        meaning_of scope x.text ≡ Some (meaning.Array k) → Says scope i j → Says scope v y →
        SaysStatement scope (s.AssignElement x i v) (statement.Assign x.location (target.Element k j) y)
    print : (l : Location) (v : Expr) (y : Expression) → Says scope v y →
        SaysStatement scope (s.Print l v) (statement.Print l y)
    while : (l : Location) (test : Expr) (body : List Stmt) (y : Expression) (inside : Vec Statement Global) →
        Says scope test y →
        SayStatements scope body inside.items →
        SaysStatement scope (s.While l test body) (statement.While l y inside)
    if_else : (l : Location) (test : Expr) (body : List Stmt) (other : Option (List Stmt)) (y : Expression)
        (inside others : Vec Statement Global) → Says scope test y →
        SayStatements scope body inside.items → SayOther scope other others.items →
        SaysStatement scope (s.If l test body other) (statement.If l y inside others)
    for_to : (l : Location) (x : Name) (low high : Expr) (body : List Stmt) (k : ℕ) (a b : Expression)
        (inside : Vec Statement Global) →
        meaning_of scope x.text ≡ Some (meaning.Uniform k) → Says scope low a → Says scope high b →
        SayStatements scope body inside.items →
        SaysStatement scope (s.For l x low high body) (statement.For l k a b inside)
    pardo : (l : Location) (low : Expr) (x : Name) (high : Expr) (locals : List Name) (body : List Stmt)
        (a b : Expression) (steps : Vec Step Global) →
        Says scope low a → Says scope high b → SaySteps (inner_scope scope x locals) body steps.items →
        SaysStatement scope (s.Pardo l low x high locals body) (statement.Pardo l a b (length locals) steps)

  -- an `else` part, or none
  pub data SayOther (scope : Scope) : Option (List Stmt) → List Statement → Type 0 where
    missing : SayOther scope None []
    present : (other : List Stmt) (others : List Statement) → SayStatements scope other others →
        SayOther scope (Some other) others

  pub data SayStatements (scope : Scope) : List Stmt → List Statement → Type 0 where
    none : SayStatements scope [] []
    more : (x : Stmt) (rest : List Stmt) (y : Statement) (others : List Statement) → SaysStatement scope x y →
        SayStatements scope rest others →
        SayStatements scope (x ∷ rest) (y ∷ others)
