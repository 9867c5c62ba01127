-- What statements outside pardo say, from their parts.
use Rattle.std.proofs.Common.{◌≡◌, ◌+◌, ◌<◌, ℕ, List, [], ◌∷◌, ◌++◌, Option, Some, None, sym, ap, ◌∙◌, subst, length, get_or, take}
use Rattle.std.proofs.lemmas.List.{take_more}
use Rattle.std.specs.declared.vec.Vec.{Vec}
use Rattle.std.specs.declared.alloc.Global.{Global}
use Rattle.pram_tokens.specs.declared.token.Location.{Location}
use Rattle.pram_tokens.specs.declared.token.Name.{Name}
use Rattle.pram_trees.specs.declared.tree.Expr.{Expr}
use Rattle.pram_trees.specs.declared.tree.Stmt.{Stmt}
use Rattle.pram_trees.specs.declared.tree.Stmt.TheVariants as s
use Rattle.pram_names.specs.declared.body.Expression.{Expression}
use Rattle.pram_names.specs.declared.body.Statement.{Statement}
use Rattle.pram_names.specs.declared.body.Statement as statement
use Rattle.pram_names.specs.declared.scope.Meaning.TheVariants as meaning
use Rattle.pram_names.specs.Scope.{Scope, meaning_of}
use Rattle.pram_names.specs.Breaches.{at, uses, use_breaches, variable_cause, with_loop, for_context, outside_of, statement_breaches}
use Rattle.pram_names.specs.Breaches.{block_breaches, first}
use Rattle.pram_names.specs.Resolved.{Says, SaysStatement, SayStatements, SayOther}
use Rattle.pram_names.specs.Resolved as says
use Rattle.pram_names.proofs.Judging.{Leads, first_front, first_behind}
use Rattle.pram_check.proofs.Parts.{for_parts}

module _ (scope : Scope) where
  pub said_print : (x : Stmt) (l : Location) (v : Expr) (y : Expression) → x ≡ s.Print l v → Says scope v y →
      SaysStatement scope x (statement.Print l y)
  said_print x l v y is h = subst (λ z. SaysStatement scope z (statement.Print l y)) (sym is) (says.print l v y h)

  pub said_while : (x : Stmt) (l : Location) (v : Expr) (body given : List Stmt) (y : Expression) (inside : Vec Statement Global) →
      x ≡ s.While l v body → given ≡ body →
      Says scope v y → SayStatements scope given inside.items → SaysStatement scope x (statement.While l y inside)
  said_while x l v body given y inside is same h k =
      subst (λ z. SaysStatement scope z (statement.While l y inside)) (sym is)
      (says.while l v body y inside h (subst (λ b. SayStatements scope b inside.items) same k))

  pub said_if : (x : Stmt) (l : Location) (v : Expr) (body given : List Stmt) (other else_given : Option (List Stmt)) (y : Expression)
      (inside others : Vec Statement Global) →
      x ≡ s.If l v body other → given ≡ body → else_given ≡ other → Says scope v y → SayStatements scope given inside.items →
      SayOther scope else_given others.items →
      SaysStatement scope x (statement.If l y inside others)
  said_if x l v body given other else_given y inside others is same also h k m =
      subst (λ z. SaysStatement scope z (statement.If l y inside others)) (sym is)
      (says.if_else l v body other y inside others h (subst (λ b. SayStatements scope b inside.items) same k)
      (subst (λ o. SayOther scope o others.items) also m))

  pub said_for : (x : Stmt) (l : Location) (t : Name) (low high : Expr) (body given : List Stmt) (k : ℕ) (a b : Expression)
      (inside : Vec Statement Global) →
      x ≡ s.For l t low high body → given ≡ body → meaning_of scope t.text ≡ Some (meaning.Uniform k) → Says scope low a →
      Says scope high b →
      SayStatements scope given inside.items → SaysStatement scope x (statement.For l k a b inside)
  said_for x l t low high body given k a b inside is same m h j g =
      subst (λ z. SaysStatement scope z (statement.For l k a b inside)) (sym is)
      (says.for_to l t low high body k a b inside m h j (subst (λ y. SayStatements scope y inside.items) same g))

  statements_snoc : (xs : List Stmt) (ys : List Statement) (d : Stmt) (y : Statement) → SayStatements scope xs ys →
      SaysStatement scope d y →
      SayStatements scope (xs ++ d ∷ []) (ys ++ y ∷ [])
  statements_snoc _ _ d y says.none h = says.more d [] y [] h says.none
  statements_snoc _ _ d y (says.more x rest z others here behind) h =
      says.more x (rest ++ d ∷ []) z (others ++ y ∷ []) here (statements_snoc rest others d y behind h)

  pub statements_more : (xs : List Stmt) (i : ℕ) (d : Stmt) (ys zs : List Statement) (y : Statement) → i < length xs → d ≡ get_or xs i d →
      zs ≡ ys ++ y ∷ [] →
      SayStatements scope (take i xs) ys → SaysStatement scope d y → SayStatements scope (take (i + 1) xs) zs
  statements_more xs i d ys zs y below is grown h k =
      let longer : take (i + 1) xs ≡ take i xs ++ d ∷ [] = take_more xs i d below ∙ ap (λ y. take i xs ++ y ∷ []) (sym is) in
      subst (λ l. SayStatements scope l zs) (sym longer) (subst (λ l. SayStatements scope (take i xs ++ d ∷ []) l) (sym grown)
      (statements_snoc (take i xs) ys d y h k))

-- the parts of a `for`
module _ (scope : Scope) (loops inner : List ℕ) (x : Stmt) (l : Location) (t : Name) (low high : Expr) (body given : List Stmt)
    (is : x ≡ s.For l t low high body) (same : given ≡ body) where
  pub for_whole : statement_breaches x (outside_of scope loops)
      ≡ at t.location (variable_cause loops (meaning_of scope t.text))
      ++ (use_breaches scope 0 (uses low ++ uses high) ++ block_breaches given (for_context (outside_of scope loops) t))
  for_whole = for_parts (outside_of scope loops) x l t low high body given is same

  module _ (k : ℕ) (m : meaning_of scope t.text ≡ Some (meaning.Uniform k)) (grown : inner ≡ loops ++ k ∷ []) where
    in_loop : block_breaches given (outside_of scope inner) ≡ block_breaches given (for_context (outside_of scope loops) t)
    in_loop = ap (λ j. block_breaches given (outside_of scope j)) (grown ∙ sym (ap (with_loop loops) m))

    pub leads_bounds : first (at t.location (variable_cause loops (meaning_of scope t.text))) ≡ None →
        Leads (use_breaches scope 0 (uses low ++ uses high)) (statement_breaches x (outside_of scope loops))
    leads_bounds none b h = ap first for_whole ∙ (first_behind _ _ none ∙ first_front _ _ b h)

    pub leads_inner : first (at t.location (variable_cause loops (meaning_of scope t.text))) ≡ None →
        first (use_breaches scope 0 (uses low ++ uses high)) ≡ None →
        Leads (block_breaches given (outside_of scope inner)) (statement_breaches x (outside_of scope loops))
    leads_inner none fine b h = ap first for_whole ∙ (first_behind _ _ none ∙ (first_behind _ _ fine ∙ (ap first (sym in_loop) ∙ h)))

    pub none_for : first (at t.location (variable_cause loops (meaning_of scope t.text))) ≡ None →
        first (use_breaches scope 0 (uses low ++ uses high)) ≡ None →
        first (block_breaches given (outside_of scope inner)) ≡ None → first (statement_breaches x (outside_of scope loops)) ≡ None
    none_for none fine last = ap first for_whole ∙ (first_behind _ _ none ∙ (first_behind _ _ fine ∙ (ap first (sym in_loop) ∙ last)))
