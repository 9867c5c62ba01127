-- What a statement of a pardo says is within bounds.
use Rattle.std.proofs.Common.{◌≡◌, ◌+◌, ◌≤◌, ℕ, max, true, List, [], ◌∷◌, ◌++◌, Option, Some, None, length, length-append, append_assoc}
use Rattle.std.proofs.Common.{refl, sym, ap, ◌∙◌, subst, arith}
use Rattle.std.proofs.lemmas.List.{append-nil}
use Rattle.std.specs.declared.vec.Vec.{Vec}
use Rattle.std.specs.declared.alloc.Global.{Global}
use Rattle.pram_tokens.specs.declared.token.Location.{Location}
use Rattle.pram_tokens.specs.declared.token.Name.{Name}
use Rattle.pram_tokens.specs.declared.token.Mark.TheVariants as mark
use Rattle.pram_tokens.specs.declared.token.Opening.TheVariants as opening
use Rattle.pram_tokens.specs.declared.token.Token.{Token}
use Rattle.pram_tokens.specs.declared.token.Token.TheVariants as token
use Rattle.pram_trees.specs.declared.tree.Expr.{Expr}
use Rattle.pram_trees.specs.declared.tree.Stmt.{Stmt}
use Rattle.pram_trees.specs.declared.tree.Stmt.TheVariants as st
use Rattle.pram_trees.specs.Grammar.{tokens}
use Rattle.pram_trees.specs.Blocks.{statement_tokens, block_tokens, else_tokens}
use Rattle.pram_tokens.specs.Tokens.{AreReal}
use Rattle.pram_tokens.proofs.Real.{front_real}
use Rattle.pram_trees.proofs.StmtTokens.{spell_assign, spell_assign_element, spell_while, spell_if_then, spell_if_else}
use Rattle.pram_names.specs.declared.body.Expression.{Expression}
use Rattle.pram_names.specs.declared.body.Step.{Step, Row_of-Step, end_of-Step, items-the_row-Step, items_hidden-the_row-Step-0}
use Rattle.pram_names.specs.declared.body.Step.{more_of-Step}
use Rattle.pram_names.specs.declared.body.Step as step
use Rattle.pram_names.specs.declared.body.Step.TheBlock.{hidden-the_row-Step-0}
use Rattle.pram_names.specs.declared.body.StepTarget.{StepTarget}
use Rattle.pram_names.specs.declared.body.StepTarget.TheVariants as inner
use Rattle.pram_names.specs.declared.scope.Meaning.TheVariants as meaning
use Rattle.pram_check.specs.Bounded.{Names, IsArray, IsSole, ArePair, IsInnerAssign, IsStep, ArePartSteps, AreSteps, step_depth}
use Rattle.pram_check.specs.Bounded.{part_step_depth, steps_depth, inner_target_nodes, step_size, part_step_size, steps_size}
use Rattle.pram_names.specs.Breaches.{Context, uses, use_breaches, at, target_cause, element_cause, statement_breaches, block_breaches}
use Rattle.pram_names.specs.Breaches.{else_breaches, inside_of}
use Rattle.pram_names.specs.Resolved.{Says, SaysInner, SaysStep, SaySteps, SayElse}
use Rattle.pram_names.specs.Resolved as says
use Rattle.pram_names.specs.Scope.{Scope, meaning_of}
use Rattle.pram_names.proofs.Judging.{count_append}
use Rattle.pram_check.proofs.StmtBreaches.{breaches-Assign, breaches-AssignElement, breaches-While, breaches-If}
use Rattle.pram_check.proofs.Depths.{tree_depth, block_depth, else_depth, depth-Assign, depth-AssignElement, depth-While, depth-If}
use Rattle.pram_check.proofs.BoundedExpressions.{AreThere, Within, within, found_there, few_reads, back_real, front_none, back_none}

-- ---- statements, as a list

pub steps_row : (s : Names) {k : _} (ss : Row_of-Step k) → AreSteps s (items-the_row-Step k ss) → ArePartSteps s ss
steps_row s end_of-Step h = tt
steps_row s (more_of-Step x xs) h = (h.0, steps_row s xs h.1)

depth_row : {k : _} (ss : Row_of-Step k) → part_step_depth ss ≡ steps_depth (items-the_row-Step k ss)
depth_row end_of-Step = refl
depth_row (more_of-Step x xs) = ap (λ n. max (step_depth x) n) (depth_row xs)

size_row : {k : _} (ss : Row_of-Step k) → part_step_size ss ≡ steps_size (items-the_row-Step k ss)
size_row end_of-Step = refl
size_row (more_of-Step x xs) = ap (λ n. step_size x + n) (size_row xs)

-- ---- the forms of a statement's tokens

pub assign_form : (x : Name) (v : Expr) → statement_tokens (st.Assign x v) ≡ token.Name x ∷
    (token.Mark mark.Becomes ∷ (tokens v ++ (token.Mark mark.Semicolon ∷ [])))
assign_form x v = sym (append-nil (statement_tokens (st.Assign x v))) ∙ spell_assign [] x v

pub element_form : (x : Name) (i v : Expr) → statement_tokens (st.AssignElement x i v)
    ≡ token.Name x ∷ (token.Mark mark.OpenBracket ∷ (tokens i ++
    (token.Mark mark.CloseBracket ∷ (token.Mark mark.Becomes ∷ (tokens v ++ (token.Mark mark.Semicolon ∷ []))))))
element_form x i v = sym (append-nil (statement_tokens (st.AssignElement x i v))) ∙ spell_assign_element [] x i v

-- each part is of real tokens, and no smaller than the whole
pub record AreParts (whole : List Token) (count : ℕ) (a b : List Token) : Type 0 where
  pub first : AreReal a
  pub second : AreReal b
  pub small : count + length a + length b ≤ length whole

pub two_parts : (whole front a mid b back : List Token) → whole ≡ front ++ (a ++ (mid ++ (b ++ back))) → AreReal whole → (count : ℕ) →
    count ≤ length front + length mid + length back → AreParts whole count a b
two_parts whole front a mid b back is real count few =
    let r = back_real front (a ++ (mid ++ (b ++ back))) (subst AreReal is real) in
    let l1 = length-append front (a ++ (mid ++ (b ++ back))) in
    let l2 = length-append a (mid ++ (b ++ back)) in
    let l3 = length-append mid (b ++ back) in
    let l4 = length-append b back in
    let l = ap length is in
    record {
      first = front_real a (mid ++ (b ++ back)) r;
      second = front_real b back (back_real mid (b ++ back) (back_real a (mid ++ (b ++ back)) r));
      small = omega (arith, l, l1, l2, l3, l4, few);
    }

pub assign_parts : (x : Name) (v : Expr) → AreReal (statement_tokens (st.Assign x v)) →
    AreParts (statement_tokens (st.Assign x v)) 2 (tokens v) []
assign_parts x v real =
    two_parts (statement_tokens (st.Assign x v)) (token.Name x ∷ token.Mark mark.Becomes ∷ []) (tokens v) [] []
    (token.Mark mark.Semicolon ∷ []) (assign_form x v) real 2 (omega arith)

pub element_parts : (x : Name) (i v : Expr) → AreReal (statement_tokens (st.AssignElement x i v)) →
    AreParts (statement_tokens (st.AssignElement x i v)) 2 (tokens i) (tokens v)
element_parts x i v real =
    two_parts (statement_tokens (st.AssignElement x i v)) (token.Name x ∷ token.Mark mark.OpenBracket ∷ []) (tokens i)
    (token.Mark mark.CloseBracket ∷ token.Mark mark.Becomes ∷ []) (tokens v)
    (token.Mark mark.Semicolon ∷ []) (element_form x i v) real 2 (omega arith)

pub while_parts : (l : Location) (v : Expr) (body : List Stmt) → AreReal (statement_tokens (st.While l v body)) →
    AreParts (statement_tokens (st.While l v body)) 1 (tokens v) (block_tokens body)
while_parts l v body real =
    let shape = sym (append-nil (statement_tokens (st.While l v body))) ∙ spell_while [] l v body in
    two_parts (statement_tokens (st.While l v body)) (token.Opening opening.While l ∷ []) (tokens v) (token.Mark mark.Do ∷ [])
    (block_tokens body) (token.Mark mark.End ∷ []) shape real 1 (omega arith)

-- the test, the first part, and the `else`
pub if_parts : (l : Location) (v : Expr) (body : List Stmt) (other : Option (List Stmt)) →
    AreReal (statement_tokens (st.If l v body other)) →
    AreParts (statement_tokens (st.If l v body other)) 1 (tokens v) (block_tokens body ++ else_tokens other)
if_parts l v body None real =
    let shape = sym (append-nil (statement_tokens (st.If l v body None))) ∙ spell_if_then [] l v body in
    let p = two_parts (statement_tokens (st.If l v body None)) (token.Opening opening.If l ∷ []) (tokens v) (token.Mark mark.Then ∷ [])
    (block_tokens body) (token.Mark mark.End ∷ []) shape real 1 (omega arith) in
    let e = append-nil (block_tokens body) in
    record {
      first = p.first;
      second = subst AreReal (sym e) p.second;
      small =
          (let q = p.small in let f = ap length e in omega (arith, q, f));
    }
if_parts l v body (Some other) real =
    let shape = sym (append-nil (statement_tokens (st.If l v body (Some other)))) ∙ spell_if_else [] l v body other in
    let parts = token.Mark mark.Else ∷ block_tokens other in
    let e : block_tokens body ++ (token.Mark mark.Else ∷ (block_tokens other ++ (token.Mark mark.End ∷ []))) ≡
    (block_tokens body ++ parts) ++ token.Mark mark.End ∷ [] =
    sym (append_assoc (block_tokens body) parts (token.Mark mark.End ∷ [])) in
    two_parts (statement_tokens (st.If l v body (Some other))) (token.Opening opening.If l ∷ []) (tokens v) (token.Mark mark.Then ∷ [])
    (block_tokens body ++ parts) (token.Mark mark.End ∷ [])
    (shape ∙ ap (λ ts. token.Opening opening.If l ∷ (tokens v ++ (token.Mark mark.Then ∷ ts))) e) real 1 (omega arith)

-- ---- the expressions of a statement

module _ (s : Names) (scope : Scope) where
  pub sole : (x : Expr) (y : Expression) → Within s scope x y → use_breaches scope 0 (uses x) ≡ [] → IsSole s y
  sole x y w none = (w.named, (let f = few_reads scope 0 (uses x) (omega arith) none in let r = w.read in omega (arith, f, r)))

  pub pair : (i v : Expr) (j y : Expression) → Within s scope i j → Within s scope v y → use_breaches scope 0 (uses i ++ uses v) ≡ [] →
      ArePair s j y
  pair i v j y a b none = (
    a.named,
    b.named,
    (
        let f = few_reads scope 0 (uses i ++ uses v) (omega arith) none in
        let c = count_append scope (uses i) (uses v) in
        let q = a.read in
        let r = b.read in
        omega (arith, f, c, q, r)
        ),
  )

-- ---- statements

pub record StepWithin (s : Names) (x : Stmt) (y : Step) : Type 0 where
  pub within : IsStep s y
  pub deep : step_depth y ≡ tree_depth x
  pub small : step_size y ≤ length (statement_tokens x)

pub record StepsWithin (s : Names) (body : List Stmt) (ys : List Step) : Type 0 where
  pub within : AreSteps s ys
  pub deep : steps_depth ys ≡ block_depth body
  pub small : steps_size ys ≤ length (block_tokens body)

record ElseWithin (s : Names) (other : Option (List Stmt)) (ys : List Step) : Type 0 where
  within : AreSteps s ys
  deep : steps_depth ys ≡ else_depth other
  small : steps_size ys ≤ length (else_tokens other)

module _ (s : Names) (scope : Scope) (there : AreThere s scope) where
  abbrev c : Context
  c = inside_of scope

  inner_target : (x : Name) (t : StepTarget) (y : Expression) → SaysInner scope x t → IsSole s y →
      IsInnerAssign s t y × (inner_target_nodes t ≡ 1)
  inner_target x _ y (says.local k is) h = ((found_there s scope x.text (meaning.Local k) there is, h), refl)
  inner_target x _ y (says.cell k is) h = ((found_there s scope x.text (meaning.Cell k) there is, h), refl)

  step_assign : (x : Name) (v : Expr) (t : StepTarget) (y : Expression) → SaysInner scope x t → Says scope v y →
      statement_breaches (st.Assign x v) c ≡ [] →
      AreReal (statement_tokens (st.Assign x v)) → StepWithin s (st.Assign x v) (step.Assign x.location t y)
  step_assign x v t y to said none real =
      let p = assign_parts x v real in
      let w = within s scope there v y said p.first in
      let h = inner_target x t y to (sole s scope v y w (back_none (at x.location (target_cause true [] (meaning_of scope x.text))) _
      (sym (breaches-Assign c x v) ∙ none))) in
      record {
        within = h.0;
        deep = sym (depth-Assign x v);
        small = (let q = p.small in let f = w.few in let o = h.1 in omega (arith, q, f, o));
      }

  step_element : (x : Name) (i v : Expr) (k : ℕ) (j y : Expression) → IsArray s k → Says scope i j → Says scope v y →
      statement_breaches (st.AssignElement x i v) c ≡ [] →
      AreReal (statement_tokens (st.AssignElement x i v)) → StepWithin s (st.AssignElement x i v)
      (step.Assign x.location (inner.Element k j) y)
  step_element x i v k j y array sub said none real =
      let p = element_parts x i v real in
      let a = within s scope there i j sub p.first in
      let b = within s scope there v y said p.second in
      record {
        within = (
          array,
          pair s scope i v j y a b (back_none (at x.location (element_cause (meaning_of scope x.text))) _
              (sym (breaches-AssignElement c x i v) ∙ none)),
        );
        deep = sym (depth-AssignElement x i v);
        small = (let q = p.small in let f = a.few in let g = b.few in omega (arith, q, f, g));
      }

  step_while : (l : Location) (test : Expr) (body : List Stmt) (y : Expression) (steps : Vec Step Global) → Within s scope test y →
      use_breaches scope 0 (uses test) ≡ [] →
      AreParts (statement_tokens (st.While l test body)) 1 (tokens test) (block_tokens body) → StepsWithin s body steps.items →
      StepWithin s (st.While l test body) (step.While l y steps)
  step_while l test body y steps w none p inside =
      let row = hidden-the_row-Step-0 steps in
      let items = items_hidden-the_row-Step-0 steps in
      let deep = depth_row row ∙ ap steps_depth items ∙ inside.deep in
      let small = size_row row ∙ ap steps_size items in
      record {
        within = (sole s scope test y w none, steps_row s row (subst (AreSteps s) (sym items) inside.within));
        deep = ap (λ n. 1 + n) deep ∙ sym (depth-While l test body);
        small = (let q = p.small in let f = w.few in let g = inside.small in omega (arith, q, f, g, small));
      }

  step_if : (l : Location) (test : Expr) (body : List Stmt) (other : Option (List Stmt)) (y : Expression)
      (steps others : Vec Step Global) → Within s scope test y →
      use_breaches scope 0 (uses test) ≡ [] → AreParts (statement_tokens (st.If l test body other)) 1 (tokens test)
      (block_tokens body ++ else_tokens other) →
      StepsWithin s body steps.items → ElseWithin s other others.items →
      StepWithin s (st.If l test body other) (step.If l y steps others)
  step_if l test body other y steps others w none p inside behind =
      let row = hidden-the_row-Step-0 steps in
      let items = items_hidden-the_row-Step-0 steps in
      let more = hidden-the_row-Step-0 others in
      let rest = items_hidden-the_row-Step-0 others in
      let deep = depth_row row ∙ ap steps_depth items ∙ inside.deep in
      let deeper = depth_row more ∙ ap steps_depth rest ∙ behind.deep in
      let small = size_row row ∙ ap steps_size items in
      let smaller = size_row more ∙ ap steps_size rest in
      record {
        within = (
          sole s scope test y w none,
          steps_row s row (subst (AreSteps s) (sym items) inside.within),
          steps_row s more
              (subst (AreSteps s) (sym rest) behind.within),
        );
        deep = (let e = depth-If l test body other in omega (arith, e, deep, deeper));
        small = (
            let q = p.small in
            let f = w.few in
            let g = inside.small in
            let h = behind.small in
            let a = length-append (block_tokens body) (else_tokens other) in
            omega (arith, q, f, g, h, a, small, smaller)
            );
      }

  mutual
    step_within : (x : Stmt) (y : Step) → SaysStep scope x y → statement_breaches x c ≡ [] → AreReal (statement_tokens x) → StepWithin s x y
    step_within _ _ (says.assign x v t y to said) none real = step_assign x v t y to said none real
    step_within _ _ (says.assign_element x i v k j y is sub said) none real =
        step_element x i v k j y (found_there s scope x.text (meaning.Array k) there is) sub said none real
    step_within _ _ (says.while l test body y steps said inside) none real =
        let p = while_parts l test body real in
        let b = sym (breaches-While c l test body) ∙ none in
        step_while l test body y steps (within s scope there test y said p.first)
        (front_none (use_breaches scope 0 (uses test)) (block_breaches body c) b) p
        (steps_within body steps.items inside (back_none (use_breaches scope 0 (uses test)) (block_breaches body c) b) p.second)
    step_within _ _ (says.if_else l test body other y steps others said inside behind) none real =
        let p = if_parts l test body other real in
        let b = sym (breaches-If c l test body other) ∙ none in
        let more = back_none (use_breaches scope 0 (uses test)) (block_breaches body c ++ else_breaches other c) b in
        step_if l test body other y steps others (within s scope there test y said p.first)
        (front_none (use_breaches scope 0 (uses test)) (block_breaches body c ++ else_breaches other c) b) p
        (steps_within body steps.items inside (front_none (block_breaches body c) (else_breaches other c) more)
        (front_real (block_tokens body) (else_tokens other) p.second))
        (else_within other others.items behind (back_none (block_breaches body c) (else_breaches other c) more)
        (back_real (block_tokens body) (else_tokens other) p.second))

    else_within : (other : Option (List Stmt)) (ys : List Step) → SayElse scope other ys → else_breaches other c ≡ [] →
        AreReal (else_tokens other) → ElseWithin s other ys
    else_within _ _ says.missing none real = record { within = tt; deep = refl; small = omega arith }
    else_within _ _ (says.present other steps inside) none real =
        let w = steps_within other steps inside none real.1 in
        record { within = w.within; deep = w.deep; small = (let q = w.small in omega (arith, q)) }

    pub steps_within : (body : List Stmt) (ys : List Step) → SaySteps scope body ys → block_breaches body c ≡ [] →
        AreReal (block_tokens body) → StepsWithin s body ys
    steps_within _ _ says.none none real = record { within = tt; deep = refl; small = omega arith }
    steps_within _ _ (says.more x rest y others here behind) none real =
        let w = step_within x y here (front_none (statement_breaches x c) (block_breaches rest c) none)
        (front_real (statement_tokens x) (block_tokens rest) real) in
        let v = steps_within rest others behind (back_none (statement_breaches x c) (block_breaches rest c) none)
        (back_real (statement_tokens x) (block_tokens rest) real) in
        let a = length-append (statement_tokens x) (block_tokens rest) in
        record {
          within = (w.within, v.within);
          deep = (let e = w.deep in let f = v.deep in omega (arith, e, f));
          small = (let q = w.small in let r = v.small in omega (arith, q, r, a));
        }
