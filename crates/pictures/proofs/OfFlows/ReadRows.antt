-- Statements in rows and in lists, one behind the other.
use Rattle.std.proofs.Common.{◌≡◌, ℕ, List, ◌∷◌, ◌++◌, ◌+◌, ◌<◌, ◌≤◌, Bool, false, refl, ap, sym, ◌∙◌, Global, Vec, drop, length, get_or}
use Rattle.std.proofs.Common.{append_assoc}
use Rattle.std.proofs.lemmas.List.{append-nil, drop_more, drop_all}
use Rattle.pram_tokens.specs.declared.token.Location.{Location}
use Rattle.pram_names.specs.declared.body.Expression.{Expression}
use Rattle.pram_names.specs.declared.body.Step as step
use Rattle.pram_names.specs.declared.body.Step.{Step, Row_of-Step, end_of-Step, more_of-Step, items-the_row-Step}
use Rattle.pram_names.specs.declared.body.Step.{items_hidden-the_row-Step-0}
use Rattle.pram_names.specs.declared.body.Step.TheBlock.{hidden-the_row-Step-0}
use Rattle.pram_names.specs.declared.body.Statement as statement
use Rattle.pram_names.specs.declared.body.Statement.{Statement, Row_of-Statement, end_of-Statement, more_of-Statement}
use Rattle.pram_names.specs.declared.body.Statement.{items-the_row-Statement}
use Rattle.pram_names.specs.declared.body.Statement.{items_hidden-the_row-Statement-0}
use Rattle.pram_names.specs.declared.body.Statement.TheBlock.{hidden-the_row-Statement-0}
use Rattle.pictures.specs.Flows.Subscripts.{asides, bounds_asides, here_or_none, row_at, statement_at, statements_at, step_at, step_row_at}
use Rattle.pictures.specs.Flows.Subscripts.{steps_at}
use Rattle.pictures.proofs.OfFlows.Chains.{behind}

-- one part, a second, and a third behind them
three : (all mid more most first second third : List Bool) → mid ≡ all ++ first → more ≡ mid ++ second → most ≡ more ++ third →
    most ≡ all ++ (first ++ (second ++ third))
three all mid more most first second third a b c =
    c ∙ ap (λ l. l ++ third) (b ∙ ap (λ l. l ++ second) a ∙ append_assoc all first second)
    ∙ append_assoc all (first ++ second) third ∙ ap (λ l. all ++ l) (append_assoc first second third)

-- ---- inside pardo

steps_of_row : (o : ℕ) {k : _} (ss : Row_of-Step k) → steps_at o (items-the_row-Step k ss) ≡ step_row_at o ss
steps_of_row o end_of-Step = refl
steps_of_row o (more_of-Step s ss) = ap (λ l. step_at o s ++ l) (steps_of_row o ss)

steps_of : (o : ℕ) (body : Vec Step Global) → step_row_at o (hidden-the_row-Step-0 body) ≡ steps_at o body.items
steps_of o body = sym (steps_of_row o (hidden-the_row-Step-0 body)) ∙ ap (steps_at o) (items_hidden-the_row-Step-0 body)

pub step_if : (o : ℕ) (here : Location) (s : Step) (e : Expression) (a b : Vec Step Global) (all mid more most : List Bool) →
    s ≡ step.If here e a b → mid ≡ all ++ here_or_none here o (asides false e) → more ≡ mid ++ steps_at o a.items →
    most ≡ more ++ steps_at o b.items → most ≡ all ++ step_at o s
step_if o here s e a b all mid more most is h1 h2 h3 =
    three all mid more most (here_or_none here o (asides false e)) (steps_at o a.items) (steps_at o b.items) h1 h2 h3
    ∙ (λ i. all ++ (here_or_none here o (asides false e) ++ (sym (steps_of o a) i ++ sym (steps_of o b) i)))
    ∙ ap (λ x. all ++ step_at o x) (sym is)

pub step_while : (o : ℕ) (here : Location) (s : Step) (e : Expression) (a : Vec Step Global) (all mid more : List Bool) →
    s ≡ step.While here e a → mid ≡ all ++ here_or_none here o (asides false e) → more ≡ mid ++ steps_at o a.items →
    more ≡ all ++ step_at o s
step_while o here s e a all mid more is h1 h2 =
    behind all mid more (here_or_none here o (asides false e)) (steps_at o a.items) h1 h2
    ∙ (λ i. all ++ (here_or_none here o (asides false e) ++ sym (steps_of o a) i))
    ∙ ap (λ x. all ++ step_at o x) (sym is)

pub steps_more : (o : ℕ) (items : List Step) (i : ℕ) (s : Step) (mid more whole : List Bool) →
    mid ++ steps_at o (drop i items) ≡ whole → i < length items → s ≡ get_or items i s → more ≡ mid ++ step_at o s →
    more ++ steps_at o (drop (i + 1) items) ≡ whole
steps_more o items i s mid more whole so h is n =
    ap (λ x. x ++ steps_at o (drop (i + 1) items)) n ∙ append_assoc mid (step_at o s) (steps_at o (drop (i + 1) items))
    ∙ sym (ap (λ x. mid ++ steps_at o x) (drop_more items i s h ∙ ap (λ x. x ∷ drop (i + 1) items) (sym is))) ∙ so

pub steps_end : (o : ℕ) (items : List Step) (i : ℕ) (mid whole : List Bool) → mid ++ steps_at o (drop i items) ≡ whole →
    length items ≤ i → mid ≡ whole
steps_end o items i mid whole so h = sym (append-nil mid) ∙ sym (ap (λ x. mid ++ steps_at o x) (drop_all i items h)) ∙ so

-- ---- outside pardo

statements_of_row : (o : ℕ) {k : _} (ss : Row_of-Statement k) → statements_at o (items-the_row-Statement k ss) ≡ row_at o ss
statements_of_row o end_of-Statement = refl
statements_of_row o (more_of-Statement s ss) = ap (λ l. statement_at o s ++ l) (statements_of_row o ss)

statements_of : (o : ℕ) (body : Vec Statement Global) → row_at o (hidden-the_row-Statement-0 body) ≡ statements_at o body.items
statements_of o body =
    sym (statements_of_row o (hidden-the_row-Statement-0 body)) ∙ ap (statements_at o) (items_hidden-the_row-Statement-0 body)

pub statement_if : (o : ℕ) (here : Location) (s : Statement) (e : Expression) (a b : Vec Statement Global) (all mid more most : List Bool) →
    s ≡ statement.If here e a b → mid ≡ all ++ here_or_none here o (asides false e) → more ≡ mid ++ statements_at o a.items →
    most ≡ more ++ statements_at o b.items → most ≡ all ++ statement_at o s
statement_if o here s e a b all mid more most is h1 h2 h3 =
    three all mid more most (here_or_none here o (asides false e)) (statements_at o a.items) (statements_at o b.items) h1 h2 h3
    ∙ (λ i. all ++ (here_or_none here o (asides false e) ++ (sym (statements_of o a) i ++ sym (statements_of o b) i)))
    ∙ ap (λ x. all ++ statement_at o x) (sym is)

pub statement_while : (o : ℕ) (here : Location) (s : Statement) (e : Expression) (a : Vec Statement Global) (all mid more : List Bool) →
    s ≡ statement.While here e a → mid ≡ all ++ here_or_none here o (asides false e) → more ≡ mid ++ statements_at o a.items →
    more ≡ all ++ statement_at o s
statement_while o here s e a all mid more is h1 h2 =
    behind all mid more (here_or_none here o (asides false e)) (statements_at o a.items) h1 h2
    ∙ (λ i. all ++ (here_or_none here o (asides false e) ++ sym (statements_of o a) i))
    ∙ ap (λ x. all ++ statement_at o x) (sym is)

pub statement_for : (o : ℕ) (here : Location) (s : Statement) (x : ℕ) (e f : Expression) (a : Vec Statement Global)
    (all mid more : List Bool) → s ≡ statement.For here x e f a → mid ≡ all ++ here_or_none here o (bounds_asides e f) →
    more ≡ mid ++ statements_at o a.items → more ≡ all ++ statement_at o s
statement_for o here s x e f a all mid more is h1 h2 =
    behind all mid more (here_or_none here o (bounds_asides e f)) (statements_at o a.items) h1 h2
    ∙ (λ i. all ++ (here_or_none here o (bounds_asides e f) ++ sym (statements_of o a) i))
    ∙ ap (λ y. all ++ statement_at o y) (sym is)

pub statement_pardo : (o : ℕ) (here : Location) (s : Statement) (e f : Expression) (n : ℕ) (a : Vec Step Global)
    (all mid more : List Bool) → s ≡ statement.Pardo here e f n a → mid ≡ all ++ here_or_none here o (bounds_asides e f) →
    more ≡ mid ++ steps_at o a.items → more ≡ all ++ statement_at o s
statement_pardo o here s e f n a all mid more is h1 h2 =
    behind all mid more (here_or_none here o (bounds_asides e f)) (steps_at o a.items) h1 h2
    ∙ ap (λ y. all ++ statement_at o y) (sym is)

pub statements_more : (o : ℕ) (items : List Statement) (i : ℕ) (s : Statement) (mid more whole : List Bool) →
    mid ++ statements_at o (drop i items) ≡ whole → i < length items → s ≡ get_or items i s → more ≡ mid ++ statement_at o s →
    more ++ statements_at o (drop (i + 1) items) ≡ whole
statements_more o items i s mid more whole so h is n =
    ap (λ x. x ++ statements_at o (drop (i + 1) items)) n ∙ append_assoc mid (statement_at o s) (statements_at o (drop (i + 1) items))
    ∙ sym (ap (λ x. mid ++ statements_at o x) (drop_more items i s h ∙ ap (λ x. x ∷ drop (i + 1) items) (sym is))) ∙ so

pub statements_end : (o : ℕ) (items : List Statement) (i : ℕ) (mid whole : List Bool) → mid ++ statements_at o (drop i items) ≡ whole →
    length items ≤ i → mid ≡ whole
statements_end o items i mid whole so h = sym (append-nil mid) ∙ sym (ap (λ x. mid ++ statements_at o x) (drop_all i items h)) ∙ so

pub ruleset statement_reads = (statement_if, statement_while, statement_for, statement_pardo)
