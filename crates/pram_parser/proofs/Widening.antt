-- What fits within a nesting fits within a greater one.
use Rattle.std.proofs.Common.{◌≡◌, ℕ, zero, suc, ◌+◌, List, [], ◌∷◌, subst, arith}
use Rattle.pram_tokens.specs.declared.token.Binary.{Binary}
use Rattle.pram_trees.specs.declared.level.Level.{Level}
use Rattle.pram_trees.specs.declared.level.Level.TheVariants as level
use Rattle.pram_trees.specs.declared.tree.Expr.{Expr}
use Rattle.pram_trees.specs.declared.tree.Stmt.{Stmt}
use Rattle.pram_trees.specs.Grammar.{AreSteps, Chained, chained, Compared, compared, IsAtom, number, name, element, paren, IsUnary, minus}
use Rattle.pram_trees.specs.Grammar.{atom, IsTerm, IsSum, IsComparison, IsNegation, not, comparison, IsConjunction, IsAt, Fits, Further}
use Rattle.pram_trees.specs.Blocks.{IsStatement, assign, assign_element, print, while, if_then, if_else, for_to, pardo, AreStatements}
use Rattle.pram_trees.specs.Blocks.{IsFurtherBlock, IsBlock}

module _ (l : Level) (P Q : Expr → Type 0) (up : (x : Expr) → P x → Q x) where
  steps_up : (rest : List (Binary × Expr)) → AreSteps l P rest → AreSteps l Q rest
  steps_up [] h = tt
  steps_up (s ∷ rest) h = (h.0, up s.1 h.1, steps_up rest h.2)

  chained_up : (x : Expr) → Chained l P x → Chained l Q x
  chained_up _ (chained first rest one more) = chained first rest (up first one) (steps_up rest more)

  compared_up : (x : Expr) → Compared l P x → Compared l Q x
  compared_up _ (compared first rest one more short) = compared first rest (up first one) (steps_up rest more) short

module _ (I J : Level → Expr → Type 0) (up : (l : Level) (x : Expr) → I l x → J l x) where
  atom_up : (x : Expr) → IsAtom I x → IsAtom J x
  atom_up _ (number n) = number n
  atom_up _ (name x) = name x
  atom_up _ (element x i h) = element x i (up level.Expression i h)
  atom_up _ (paren i h) = paren i (up level.Expression i h)

  unary_up : (x : Expr) → IsUnary I x → IsUnary J x
  unary_up _ (minus i h) = minus i (up level.Unary i h)
  unary_up x (atom h) = atom (atom_up x h)

  term_up : (x : Expr) → IsTerm I x → IsTerm J x
  term_up = chained_up level.Term (IsUnary I) (IsUnary J) unary_up

  sum_up : (x : Expr) → IsSum I x → IsSum J x
  sum_up = chained_up level.Sum (IsTerm I) (IsTerm J) term_up

  comparison_up : (x : Expr) → IsComparison I x → IsComparison J x
  comparison_up = compared_up level.Comparison (IsSum I) (IsSum J) sum_up

  negation_up : (x : Expr) → IsNegation I x → IsNegation J x
  negation_up _ (not i h) = not i (up level.Negation i h)
  negation_up x (comparison h) = comparison (comparison_up x h)

  conjunction_up : (x : Expr) → IsConjunction I x → IsConjunction J x
  conjunction_up = chained_up level.Conjunction (IsNegation I) (IsNegation J) negation_up

  at_up : (l : Level) (x : Expr) → IsAt I l x → IsAt J l x
  at_up level.Expression = chained_up level.Expression (IsConjunction I) (IsConjunction J) conjunction_up
  at_up level.Conjunction = conjunction_up
  at_up level.Negation = negation_up
  at_up level.Comparison = comparison_up
  at_up level.Sum = sum_up
  at_up level.Term = term_up
  at_up level.Unary = unary_up
  at_up level.Atom = atom_up

further_up : (d : ℕ) (l : Level) (x : Expr) → Further d l x → Further (suc d) l x
further_up zero l x never = absurd never
further_up (suc d) l x h = at_up (Further d) (Further (suc d)) (further_up d) l x h

pub fits_up : (d : ℕ) (l : Level) (x : Expr) → Fits d l x → Fits (suc d) l x
fits_up d = at_up (Further d) (Further (suc d)) (further_up d)

module _ (d e : ℕ) (I J : List Stmt → Type 0) (fits : (l : Level) (x : Expr) → Fits d l x → Fits e l x)
    (further : (l : Level) (x : Expr) → Further d l x → Further e l x)
    (up : (body : List Stmt) → I body → J body) where
  statement_up : (x : Stmt) → IsStatement d I x → IsStatement e J x
  statement_up _ (assign x v h) = assign x v (fits level.Expression v h)
  statement_up _ (assign_element x i v h g) = assign_element x i v (further level.Expression i h) (fits level.Expression v g)
  statement_up _ (print at v h) = print at v (fits level.Expression v h)
  statement_up _ (while at c body h g) = while at c body (fits level.Expression c h) (up body g)
  statement_up _ (if_then at c body h g) = if_then at c body (fits level.Expression c h) (up body g)
  statement_up _ (if_else at c body other h g f) = if_else at c body other (fits level.Expression c h) (up body g) (up other f)
  statement_up _ (for_to at x low high body h g f) =
      for_to at x low high body (fits level.Expression low h) (fits level.Expression high g) (up body f)
  statement_up _ (pardo at low x high names body h g f) =
      pardo at low x high names body (fits level.Sum low h) (fits level.Sum high g) (up body f)

  statements_up : (body : List Stmt) → AreStatements d I body → AreStatements e J body
  statements_up [] h = tt
  statements_up (x ∷ rest) h = (statement_up x h.0, statements_up rest h.1)

blocks_up : (b d : ℕ) (body : List Stmt) → IsFurtherBlock b d body → IsFurtherBlock (suc b) d body
blocks_up zero d body never = absurd never
blocks_up (suc b) d body h = statements_up d d (IsFurtherBlock b d) (IsFurtherBlock (suc b) d) (λ l x f. f) (λ l x f. f) (blocks_up b d)
    body h

levels_up : (b d : ℕ) (body : List Stmt) → IsFurtherBlock b d body → IsFurtherBlock b (suc d) body
levels_up zero d body never = absurd never
levels_up (suc b) d body h = statements_up d (suc d) (IsFurtherBlock b d) (IsFurtherBlock b (suc d)) (fits_up d) (further_up d)
    (levels_up b d) body h

pub more_blocks : (c b d : ℕ) (body : List Stmt) → IsBlock b d body → IsBlock (c + b) d body
more_blocks zero b d body h = let e : b ≡ 0 + b = omega arith in subst (λ n. IsBlock n d body) e h
more_blocks (suc c) b d body h =
    let e : suc (c + b) ≡ suc c + b = omega arith in
    subst (λ n. IsBlock n d body) e
    (statements_up d d (IsFurtherBlock (c + b) d) (IsFurtherBlock (suc (c + b)) d) (λ l x f. f) (λ l x f. f) (blocks_up (c + b) d) body
    (more_blocks c b d body h))

pub more_levels : (c b d : ℕ) (body : List Stmt) → IsBlock b d body → IsBlock b (c + d) body
more_levels zero b d body h = let e : d ≡ 0 + d = omega arith in subst (λ n. IsBlock b n body) e h
more_levels (suc c) b d body h =
    let e : suc (c + d) ≡ suc c + d = omega arith in
    subst (λ n. IsBlock b n body) e
    (statements_up (c + d) (suc (c + d)) (IsFurtherBlock b (c + d)) (IsFurtherBlock b (suc (c + d))) (fits_up (c + d)) (further_up (c + d))
    (levels_up b (c + d)) body (more_levels c b d body h))
