-- What statements inside pardo say, from their parts.
use Rattle.std.proofs.Common.{◌≡◌, ◌+◌, ◌<◌, ℕ, List, [], ◌∷◌, ◌++◌, Option, sym, ap, ◌∙◌, subst, length, get_or, take}
use Rattle.std.proofs.lemmas.List.{take_more}
use Rattle.std.specs.declared.vec.Vec.{Vec}
use Rattle.std.specs.declared.alloc.Global.{Global}
use Rattle.pram_tokens.specs.declared.token.Location.{Location}
use Rattle.pram_trees.specs.declared.tree.Expr.{Expr}
use Rattle.pram_trees.specs.declared.tree.Stmt.{Stmt}
use Rattle.pram_trees.specs.declared.tree.Stmt.TheVariants as s
use Rattle.pram_names.specs.declared.body.Expression.{Expression}
use Rattle.pram_names.specs.declared.body.Step.{Step}
use Rattle.pram_names.specs.declared.body.Step as step
use Rattle.pram_names.specs.Scope.{Scope}
use Rattle.pram_names.specs.Resolved.{Says, SaysStep, SaySteps, SayElse}
use Rattle.pram_names.specs.Resolved as says

module _ (scope : Scope) where
  pub said_while : (x : Stmt) (l : Location) (v : Expr) (body given : List Stmt) (y : Expression) (steps : Vec Step Global) →
      x ≡ s.While l v body → given ≡ body →
      Says scope v y → SaySteps scope given steps.items → SaysStep scope x (step.While l y steps)
  said_while x l v body given y steps is same h k =
      subst (λ z. SaysStep scope z (step.While l y steps)) (sym is)
      (says.while l v body y steps h (subst (λ b. SaySteps scope b steps.items) same k))

  pub said_if : (x : Stmt) (l : Location) (v : Expr) (body given : List Stmt) (other else_given : Option (List Stmt)) (y : Expression)
      (steps others : Vec Step Global) →
      x ≡ s.If l v body other → given ≡ body → else_given ≡ other → Says scope v y → SaySteps scope given steps.items →
      SayElse scope else_given others.items →
      SaysStep scope x (step.If l y steps others)
  said_if x l v body given other else_given y steps others is same also h k m =
      subst (λ z. SaysStep scope z (step.If l y steps others)) (sym is)
      (says.if_else l v body other y steps others h (subst (λ b. SaySteps scope b steps.items) same k)
      (subst (λ o. SayElse scope o others.items) also m))

  steps_snoc : (xs : List Stmt) (ys : List Step) (d : Stmt) (y : Step) → SaySteps scope xs ys → SaysStep scope d y →
      SaySteps scope (xs ++ d ∷ []) (ys ++ y ∷ [])
  steps_snoc _ _ d y says.none h = says.more d [] y [] h says.none
  steps_snoc _ _ d y (says.more x rest z others here behind) h =
      says.more x (rest ++ d ∷ []) z (others ++ y ∷ []) here (steps_snoc rest others d y behind h)

  pub steps_more : (xs : List Stmt) (i : ℕ) (d : Stmt) (ys zs : List Step) (y : Step) → i < length xs → d ≡ get_or xs i d →
      zs ≡ ys ++ y ∷ [] →
      SaySteps scope (take i xs) ys → SaysStep scope d y → SaySteps scope (take (i + 1) xs) zs
  steps_more xs i d ys zs y below is grown h k =
      let longer : take (i + 1) xs ≡ take i xs ++ d ∷ [] = take_more xs i d below ∙ ap (λ y. take i xs ++ y ∷ []) (sym is) in
      subst (λ l. SaySteps scope l zs) (sym longer) (subst (λ l. SaySteps scope (take i xs ++ d ∷ []) l) (sym grown)
      (steps_snoc (take i xs) ys d y h k))
