-- The tokens of each form of statement.
use Rattle.std.proofs.Common.{◌≡◌, List, [], ◌∷◌, ◌++◌, Some, None, refl, sym, ap, ◌∙◌, append_assoc}
use mathlib.Core.List.{map}
use Rattle.pram_tokens.specs.declared.token.Binary.TheVariants as op
use Rattle.pram_tokens.specs.declared.token.Mark.TheVariants as mark
use Rattle.pram_tokens.specs.declared.token.Name.{Name}
use Rattle.pram_tokens.specs.declared.token.Opening.TheVariants as opening
use Rattle.pram_tokens.specs.declared.token.Location.{Location}
use Rattle.pram_tokens.specs.declared.token.Token.{Token}
use Rattle.pram_tokens.specs.declared.token.Token.TheVariants as token
use Rattle.pram_trees.specs.declared.tree.Expr.{Expr}
use Rattle.pram_trees.specs.declared.tree.Stmt.{Stmt}
use Rattle.pram_trees.specs.declared.tree.Stmt.TheVariants as s
use Rattle.pram_trees.specs.declared.tree.Stmt.TheOpen.{Stmt-F}
use Rattle.pram_trees.specs.declared.tree.Stmt.TheFolds.{fold-roll-Stmt}
use Rattle.pram_trees.specs.Grammar.{tokens}
use Rattle.pram_trees.specs.Blocks.{statement_tokens, statement_step, block_tokens, local_tokens, joined_all}

each : (body : List Stmt) → joined_all (map statement_tokens body) ≡ block_tokens body
each [] = refl
each (x ∷ rest) = ap (λ l. statement_tokens x ++ l) (each rest)

-- Each with what stands behind it.

module _ (ys : List Token) where
  pub spell_assign : (x : Name) (v : Expr) → statement_tokens (s.Assign x v) ++ ys ≡ token.Name x
      ∷ (token.Mark mark.Becomes ∷ (tokens v ++ (token.Mark mark.Semicolon ∷ ys)))
  unfolding statement_tokens
  spell_assign x v =
      ap (λ l. l ++ ys) (ap statement_tokens (sym (s.rolls-Assign x v)) ∙ fold-roll-Stmt (List Token) statement_step (Stmt-F.Assign x v))
      ∙ ap (λ l. token.Name x ∷ (token.Mark mark.Becomes ∷ l)) (append_assoc (tokens v) (token.Mark mark.Semicolon ∷ []) ys)

  pub spell_assign_element : (x : Name) (i v : Expr) → statement_tokens (s.AssignElement x i v) ++ ys
      ≡ token.Name x ∷ (token.Mark mark.OpenBracket
      ∷ (tokens i ++ (token.Mark mark.CloseBracket ∷ (token.Mark mark.Becomes ∷ (tokens v ++ (token.Mark mark.Semicolon ∷ ys))))))
  unfolding statement_tokens
  spell_assign_element x i v =
      ap (λ l. l ++ ys) (ap statement_tokens (sym (s.rolls-AssignElement x i v))
      ∙ fold-roll-Stmt (List Token) statement_step (Stmt-F.AssignElement x i v))
      ∙ simp append_assoc

  pub spell_print : (at : Location) (v : Expr) → statement_tokens (s.Print at v) ++ ys ≡ token.Opening opening.Print at
      ∷ (tokens v ++ (token.Mark mark.Semicolon ∷ ys))
  unfolding statement_tokens
  spell_print at v =
      ap (λ l. l ++ ys) (ap statement_tokens (sym (s.rolls-Print at v)) ∙ fold-roll-Stmt (List Token) statement_step (Stmt-F.Print at v))
      ∙ simp append_assoc

  pub spell_while : (at : Location) (c : Expr) (body : List Stmt) → statement_tokens (s.While at c body) ++ ys
      ≡ token.Opening opening.While at ∷ (tokens c ++ (token.Mark mark.Do ∷ (block_tokens body ++ (token.Mark mark.End ∷ ys))))
  unfolding statement_tokens
  spell_while at c body =
      ap (λ l. l ++ ys) (ap statement_tokens (sym (s.rolls-While at c body))
      ∙ fold-roll-Stmt (List Token) statement_step (Stmt-F.While at c body)
      ∙ ap (λ l. token.Opening opening.While at ∷ (tokens c ++ (token.Mark mark.Do ∷ (l ++ token.Mark mark.End ∷ [])))) (each body))
      ∙ simp append_assoc

  pub spell_if_then : (at : Location) (c : Expr) (body : List Stmt) → statement_tokens (s.If at c body None) ++ ys
      ≡ token.Opening opening.If at ∷ (tokens c ++ (token.Mark mark.Then ∷ (block_tokens body ++ (token.Mark mark.End ∷ ys))))
  unfolding statement_tokens
  spell_if_then at c body =
      ap (λ l. l ++ ys) (ap statement_tokens (sym (s.rolls-If at c body None))
      ∙ fold-roll-Stmt (List Token) statement_step (Stmt-F.If at c body None)
      ∙ ap (λ l. token.Opening opening.If at ∷ (tokens c ++ (token.Mark mark.Then ∷ (l ++ token.Mark mark.End ∷ [])))) (each body))
      ∙ simp append_assoc

  pub spell_if_else : (at : Location) (c : Expr) (body other : List Stmt) → statement_tokens (s.If at c body (Some other)) ++ ys
      ≡ token.Opening opening.If at ∷ (tokens c
      ++ (token.Mark mark.Then ∷ (block_tokens body ++ (token.Mark mark.Else ∷ (block_tokens other ++ (token.Mark mark.End ∷ ys))))))
  unfolding statement_tokens
  spell_if_else at c body other =
      ap (λ l. l ++ ys) (ap statement_tokens (sym (s.rolls-If at c body (Some other)))
      ∙ fold-roll-Stmt (List Token) statement_step (Stmt-F.If at c body (Some other))
      ∙ ap (λ l. token.Opening opening.If at
      ∷ (tokens c ++ (token.Mark mark.Then
      ∷ (l ++ (token.Mark mark.Else ∷ (joined_all (map statement_tokens other) ++ token.Mark mark.End ∷ [])))))) (each body)
      ∙ ap (λ l. token.Opening opening.If at
      ∷ (tokens c ++ (token.Mark mark.Then ∷ (block_tokens body ++ (token.Mark mark.Else ∷ (l ++ token.Mark mark.End ∷ []))))))
      (each other)) ∙ simp append_assoc

  pub spell_for : (at : Location) (x : Name) (low high : Expr) (body : List Stmt) → statement_tokens (s.For at x low high body) ++ ys
      ≡ token.Opening opening.For at
      ∷ (token.Name x ∷ (token.Mark mark.Becomes
      ∷ (tokens low ++ (token.Mark mark.To
      ∷ (tokens high ++ (token.Mark mark.Do ∷ (block_tokens body ++ (token.Mark mark.End ∷ ys))))))))
  unfolding statement_tokens
  spell_for at x low high body =
      ap (λ l. l ++ ys) (ap statement_tokens (sym (s.rolls-For at x low high body))
      ∙ fold-roll-Stmt (List Token) statement_step (Stmt-F.For at x low high body)
      ∙ ap (λ l. token.Opening opening.For at
      ∷ (token.Name x ∷ (token.Mark mark.Becomes
      ∷ (tokens low ++ (token.Mark mark.To ∷ (tokens high ++ (token.Mark mark.Do ∷ (l ++ token.Mark mark.End ∷ [])))))))) (each body))
      ∙ simp append_assoc

  pub spell_pardo : (at : Location) (low : Expr) (x : Name) (high : Expr) (locals : List Name) (body : List Stmt) →
      statement_tokens (s.Pardo at low x high locals body) ++ ys
      ≡ token.Opening opening.For at ∷ (tokens low ++ (token.Binary op.AtMost ∷ (token.Name x ∷ (token.Binary op.AtMost ∷ (tokens high
      ++ (token.Mark mark.Pardo ∷ (local_tokens locals ++ (block_tokens body ++ (token.Mark mark.End ∷ ys)))))))))
  unfolding statement_tokens
  spell_pardo at low x high locals body =
      ap (λ l. l ++ ys) (ap statement_tokens (sym (s.rolls-Pardo at low x high locals body))
      ∙ fold-roll-Stmt (List Token) statement_step (Stmt-F.Pardo at low x high locals body)
      ∙ ap (λ l. token.Opening opening.For at
      ∷ (tokens low ++ (token.Binary op.AtMost ∷ (token.Name x ∷ (token.Binary op.AtMost ∷ (tokens high
      ++ (token.Mark mark.Pardo ∷ (local_tokens locals ++ (l ++ token.Mark mark.End ∷ []))))))))) (each body)) ∙ simp append_assoc
