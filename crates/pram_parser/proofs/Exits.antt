-- How an error of an inner call is an error of the outer one, and what the first token does.
use Rattle.std.proofs.Common.{◌≡◌, List, Result, Ok, Err, sym, ap, ◌∙◌, subst}
use Rattle.std.proofs.lemmas.Result.{err_from_is_err_and}
use Rattle.std.specs.Prelude.{IsErrAnd}
use Rattle.std.specs.Borrow.{Bor}
use Rattle.pram_trees.specs.declared.tree.Declaration.{Declaration}
use Rattle.pram_trees.specs.declared.tree.Expr.{Expr}
use Rattle.pram_trees.specs.declared.tree.Stmt.{Stmt}
use Rattle.pram_trees.specs.declared.parse_error.ParseError.{ParseError}
use Rattle.pram_trees.specs.declared.parse_error.ParseError.TheVariants.{OutOfMemory, Syntax, TooDeep}
use Rattle.pram_tokens.specs.declared.token.Token.{Token}
use Rattle.pram_trees.specs.Machine.{Verdict}
use Rattle.pram_trees.specs.Symbols.{Stack}
use Rattle.pram_trees.specs.Follows.{Follows}

abbrev pub rest_of : Expr × Bor (List Token) → List Token
rest_of f = f.1.now

abbrev pub statement_rest : Stmt × Bor (List Token) → List Token
statement_rest f = f.1.now

abbrev pub block_rest : List Stmt × Bor (List Token) → List Token
block_rest f = f.1.now

abbrev pub declaration_rest : Declaration × Bor (List Token) → List Token
declaration_rest f = f.1.now

abbrev pub declarations_rest : List Declaration × Bor (List Token) → List Token
declarations_rest f = f.1.now

abbrev pub all_of : Bor (List Token) → List Token
all_of f = f.now

-- what is expected is the same after a change of what comes behind
abbrev pub Leads : (before inner : Stack → Verdict) → Type 0
Leads before inner = (k : Stack) → (j : Stack) × (before k ≡ inner j)

pub err_along : {X Y : Type 0} {before inner : Stack → Verdict} (rest : X → List Token) (inner_rest : Y → List Token) (x : ParseError) →
    Follows inner inner_rest (Err x) → Leads before inner → Follows before rest (Err x)
err_along rest inner_rest OutOfMemory h along = tt
err_along rest inner_rest (Syntax n) h along = λ k. (along k).1 ∙ h (along k).0
err_along rest inner_rest (TooDeep n) h along = λ k. (along k).1 ∙ h (along k).0

-- the same at the exit of a `?`
pub exit : {X Y : Type 0} {before inner : Stack → Verdict} (rest : X → List Token) (inner_rest : Y → List Token) (r : Result X ParseError)
    (x : ParseError) →
    IsErrAnd r (λ y. y ≡ x) → Follows inner inner_rest (Err x) → Leads before inner → Follows before rest r
exit {before} rest inner_rest r x is h along =
    let p = err_from_is_err_and r is in
    subst (Follows before rest) (sym (p.1 ∙ ap Err p.2)) (err_along rest inner_rest x h along)

-- the same for a result that is returned as it is, where nothing comes behind what is expected
pub along : {X : Type 0} {before inner : Stack → Verdict} (rest : X → List Token) (r : Result X ParseError) →
    Follows inner rest r → ((k : Stack) → before k ≡ inner k) → Follows before rest r
along rest (Ok x) h same = λ k. same k ∙ h k
along rest (Err x) h same = err_along rest rest x h (λ k. (k, same k))
