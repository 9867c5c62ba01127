-- The parts of a pardo, in the order of the text.
use Rattle.std.proofs.Common.{◌≡◌, ℕ, List, [], ◌∷◌, ◌++◌, None, sym, ap, ◌∙◌, subst, append_assoc, length}
use Rattle.std.specs.declared.vec.Vec.{Vec}
use Rattle.std.specs.declared.alloc.Global.{Global}
use Rattle.pram_tokens.specs.declared.token.Location.{Location}
use Rattle.pram_tokens.specs.declared.token.Name.{Name}
use Rattle.pram_trees.specs.declared.tree.Expr.{Expr}
use Rattle.pram_trees.specs.declared.tree.Stmt.{Stmt}
use Rattle.pram_trees.specs.declared.tree.Stmt.TheVariants as s
use Rattle.pram_names.specs.declared.body.Expression.{Expression}
use Rattle.pram_names.specs.declared.body.Step.{Step}
use Rattle.pram_names.specs.declared.body.Statement as statement
use Rattle.pram_names.specs.declared.fault.Breach.{Breach}
use Rattle.pram_names.specs.declared.scope.Meaning.TheVariants.{Index}
use Rattle.pram_names.specs.Scope.{Scope, inner_scope, locals_from}
use Rattle.pram_names.specs.Breaches.{at, uses, use_breaches, read_count, new_cause, local_breaches, statement_breaches, block_breaches}
use Rattle.pram_names.specs.Breaches.{outside_of, inside_of, first}
use Rattle.pram_names.specs.Resolved.{Says, SaySteps, SaysStatement}
use Rattle.pram_names.specs.Resolved as says
use Rattle.pram_names.proofs.Judging.{Leads, first_front, first_behind}
use Rattle.pram_check.proofs.StmtBreaches.{breaches-Pardo}

module _ (scope : Scope) (loops : List ℕ) (l : Location) (low : Expr) (t : Name) (high : Expr) (locals : List Name) (body : List Stmt) where
  abbrev pub range_breaches : List Breach
  range_breaches = use_breaches scope 0 (uses low)
      ++ (at t.location (new_cause scope t.text) ++ use_breaches scope (read_count scope (uses low)) (uses high))

  abbrev pub names_breaches : List Breach
  names_breaches = local_breaches (inner_scope scope t []) 0 locals

  abbrev pub body_breaches : List Breach
  body_breaches = block_breaches body (inside_of (inner_scope scope t locals))

  pub pardo_whole : statement_breaches (s.Pardo l low t high locals body) (outside_of scope loops) ≡ range_breaches
      ++ (names_breaches ++ body_breaches)
  pardo_whole =
      let front = use_breaches scope 0 (uses low) in
      let name = at t.location (new_cause scope t.text) in
      let back = use_breaches scope (read_count scope (uses low)) (uses high) in
      breaches-Pardo (outside_of scope loops) l low t high locals body
      ∙ (ap (λ x. front ++ x) (sym (append_assoc name back (names_breaches ++ body_breaches)))
      ∙ sym (append_assoc front (name ++ back) (names_breaches ++ body_breaches)))

  -- the scopes on the way
  pub grown : (s2 s3 : Scope) → s2 ≡ inner_scope scope t [] → s3 ≡ s2 ++ locals_from 0 locals → s3 ≡ inner_scope scope t locals
  grown s2 s3 one two = two ∙ (ap (λ x. x ++ locals_from 0 locals) one ∙ append_assoc scope ((t.text, Index) ∷ []) (locals_from 0 locals))

  module _ (s2 : Scope) (one : s2 ≡ inner_scope scope t []) (none : first range_breaches ≡ None) where
    pub leads_names : Leads (local_breaches s2 0 locals) (statement_breaches (s.Pardo l low t high locals body) (outside_of scope loops))
    leads_names b h =
        ap first pardo_whole ∙ (first_behind range_breaches (names_breaches ++ body_breaches) none
        ∙ first_front names_breaches body_breaches b (ap (λ x. first (local_breaches x 0 locals)) (sym one) ∙ h))

    module _ (s3 : Scope) (two : s3 ≡ s2 ++ locals_from 0 locals) (fine : first (local_breaches s2 0 locals) ≡ None) where
      no_name : first names_breaches ≡ None
      no_name = ap (λ x. first (local_breaches x 0 locals)) (sym one) ∙ fine

      pub leads_body : Leads (block_breaches body (inside_of s3))
          (statement_breaches (s.Pardo l low t high locals body) (outside_of scope loops))
      leads_body b h =
          ap first pardo_whole ∙ (first_behind range_breaches (names_breaches ++ body_breaches) none
          ∙ (first_behind names_breaches body_breaches no_name
          ∙ (ap (λ x. first (block_breaches body (inside_of x))) (sym (grown s2 s3 one two)) ∙ h)))

      pub good_pardo : (a b : Expression) (steps : Vec Step Global) → Says scope low a → Says scope high b →
          first (block_breaches body (inside_of s3)) ≡ None → SaySteps s3 body steps.items →
          (first (statement_breaches (s.Pardo l low t high locals body) (outside_of scope loops)) ≡ None)
          × SaysStatement scope (s.Pardo l low t high locals body) (statement.Pardo l a b (length locals) steps)
      good_pardo a b steps x y h k = (
        ap first pardo_whole ∙ (first_behind range_breaches (names_breaches ++ body_breaches) none
            ∙ (first_behind names_breaches body_breaches no_name
            ∙ (ap (λ x. first (block_breaches body (inside_of x))) (sym (grown s2 s3 one two)) ∙ h))),
        says.pardo l low t high locals body a b steps x y (subst (λ z. SaySteps z body steps.items) (grown s2 s3 one two) k),
      )
