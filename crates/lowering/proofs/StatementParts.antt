-- The code of statements outside pardo, by the lists of their parts.
use Rattle.std.proofs.Common.{◌≡◌, ℕ, ◌+◌, Bool, true, false, List, [], ◌∷◌, ◌++◌, length, take, get_or, ◌<◌, ap, ◌∙◌, sym, refl}
use Rattle.std.proofs.Common.{append_assoc, length-append, arith, Global, Vec}
use Rattle.std.proofs.lemmas.List.{append-nil, take_more}
use Rattle.pram_tokens.specs.declared.token.Location.{Location}
use Rattle.superstep_instructions.specs.declared.instr.Side.TheVariants.{Uniform}
use Rattle.superstep_instructions.specs.declared.instr.Instr.{Instr}
use Rattle.superstep_instructions.specs.declared.instr.Instr.TheVariants.{Halt}
use Rattle.pram_names.specs.declared.body.Expression.{Expression}
use Rattle.pram_names.specs.declared.body.Statement as statement
use Rattle.pram_names.specs.declared.body.Statement.{Statement, Row_of-Statement, end_of-Statement, more_of-Statement}
use Rattle.pram_names.specs.declared.body.Statement.{items-the_row-Statement, items_hidden-the_row-Statement-0}
use Rattle.pram_names.specs.declared.body.Statement.TheBlock.{hidden-the_row-Statement-0}
use Rattle.plain_form.specs.Registers.{behind_turns, more, turn, high}
use Rattle.plain_form.specs.Formulas.{formula_of}
use Rattle.plain_form.specs.Groups.{value_at}
use Rattle.plain_form.specs.Shapes.{sent, chosen, if_code, for_code, while_code}
use Rattle.plain_form.specs.Outside.{code, left, statements_code, statements_left, part_code, part_left, has_part}
use Rattle.straight_lowering.specs.declared.ranges.Turns.{Turns}
use Rattle.lowering.specs.Parts.{are_some}
use Rattle.lowering.specs.Blocks.{part, while_loop, for_turns, joined}
use Rattle.straight_lowering.specs.Straight.{parted, bounds}
use Rattle.straight_lowering.specs.Written.{Written, added, wrote}
use Rattle.lowering.proofs.Filling.{wrote_then, joined_is}

-- ---- rows and lists

code_of_row : (free start : ℕ) (held : Bool) {k : _} (ss : Row_of-Statement k) →
    statements_code true free start held (items-the_row-Statement k ss) ≡ part_code true free start held ss
code_of_row free start held end_of-Statement = refl
code_of_row free start held (more_of-Statement s ss) =
    let first = code true free start held s in
    ap (λ l. first ++ l) (code_of_row free (start + length first) (left held s) ss)

left_of_row : (held : Bool) {k : _} (ss : Row_of-Statement k) → statements_left held (items-the_row-Statement k ss) ≡ part_left held ss
left_of_row held end_of-Statement = refl
left_of_row held (more_of-Statement s ss) = left_of_row (left held s) ss

some_of_row : {k : _} (ss : Row_of-Statement k) → are_some (items-the_row-Statement k ss) ≡ has_part ss
some_of_row end_of-Statement = refl
some_of_row (more_of-Statement s ss) = refl

code_of_part : (free start : ℕ) (held : Bool) (body : Vec Statement Global) →
    part_code true free start held (hidden-the_row-Statement-0 body) ≡ statements_code true free start held body.items
code_of_part free start held body =
    sym (code_of_row free start held (hidden-the_row-Statement-0 body))
    ∙ ap (statements_code true free start held) (items_hidden-the_row-Statement-0 body)

left_of_part : (held : Bool) (body : Vec Statement Global) → part_left held (hidden-the_row-Statement-0 body)
    ≡ statements_left held body.items
left_of_part held body =
    sym (left_of_row held (hidden-the_row-Statement-0 body)) ∙ ap (statements_left held) (items_hidden-the_row-Statement-0 body)

some_of_part : (body : Vec Statement Global) → has_part (hidden-the_row-Statement-0 body) ≡ are_some body.items
some_of_part body = sym (some_of_row (hidden-the_row-Statement-0 body)) ∙ ap are_some (items_hidden-the_row-Statement-0 body)

-- a part with the send of what it holds, of a row and of a list
abbrev row_part : (free : ℕ) → Vec Statement Global → ℕ → List Instr
row_part free body start =
    sent (part_code true free start false (hidden-the_row-Statement-0 body)) (part_left false (hidden-the_row-Statement-0 body))

part_is : (free : ℕ) (body : Vec Statement Global) → row_part free body ≡ part free false body.items
part_is free body = λ j start. sent (code_of_part free start false body j) (left_of_part false body j)

-- ---- one statement more

code_append : (free start : ℕ) (held : Bool) (xs : List Statement) (s : Statement) → statements_code true free start held (xs ++ s ∷ [])
    ≡ statements_code true free start held xs
    ++ code true free (start + length (statements_code true free start held xs)) (statements_left held xs) s
code_append free start held [] s =
    append-nil (code true free start held s) ∙ ap (λ n. code true free n held s) (let e : start ≡ start + 0 = omega arith in e)
code_append free start held (x ∷ xs) s =
    let first = code true free start held x in
    let rest = statements_code true free (start + length first) (left held x) xs in
    ap (λ l. first ++ l) (code_append free (start + length first) (left held x) xs s)
    ∙ sym (append_assoc first rest (code true free (start + length first + length rest) (statements_left (left held x) xs) s))
    ∙ ap (λ n. first ++ rest ++ code true free n (statements_left (left held x) xs) s)
    (let l = length-append first rest in let e : start + length first + length rest ≡ start + length (first
    ++ rest) = omega (arith, l) in e)

left_append : (held : Bool) (xs : List Statement) (s : Statement) → statements_left held (xs ++ s ∷ []) ≡ left (statements_left held xs) s
left_append held [] s = refl
left_append held (x ∷ xs) s = left_append (left held x) xs s

pub statements_more : (free : ℕ) (items : List Statement) (i : ℕ) (s : Statement) (w0 w1 w2 : Written) →
    w1 ≡ wrote (statements_code true free (length w0.instructions) w0.held (take i items)) (statements_left w0.held (take i items)) w0 →
    i < length items → s ≡ get_or items i s →
    w2 ≡ wrote (code true free (length w1.instructions) w1.held s) (left w1.held s) w1 →
    w2 ≡ wrote (statements_code true free (length w0.instructions) w0.held (take (i + 1) items))
    (statements_left w0.held (take (i + 1) items)) w0
statements_more free items i s w0 w1 w2 e1 h is e2 =
    let a = length w0.instructions in
    let xs = take i items in
    let next : take (i + 1) items ≡ xs ++ s ∷ [] = take_more items i s h ∙ ap (λ y. take i items ++ y ∷ []) (sym is) in
    wrote_then (statements_code true free a w0.held xs) (statements_left w0.held xs) (λ n k. code true free n k s)
    (λ k. left k s) w0 w1 w2 e1 e2
    ∙ ap (λ l. wrote l (left (statements_left w0.held xs) s) w0) (sym (code_append free a w0.held xs s))
    ∙ ap (λ k. wrote (statements_code true free a w0.held (xs ++ s ∷ [])) k w0) (sym (left_append w0.held xs s))
    ∙ ap (λ xs. wrote (statements_code true free a w0.held xs) (statements_left w0.held xs) w0) (sym next)

-- ---- a statement of each kind

abbrev Lowered : ℕ → Statement → Written → Written → Type 0
Lowered free s w u = u ≡ wrote (code true free (length w.instructions) w.held s) (left w.held s) w

pub while_is : (free : ℕ) (here : Location) (s : Statement) (e : Expression) (body : Vec Statement Global) (w u : Written) → s
    ≡ statement.While here e body →
    u ≡ wrote (while_loop free (length w.instructions) w.held here.line (formula_of e) body.items) false w → Lowered free s w u
while_is free here s e body w u is h =
    h ∙ sym (ap (λ p. wrote (while_code true w.held (length w.instructions) here.line free (formula_of e) p) false w) (part_is free body))
    ∙ ap (λ s. wrote (code true free (length w.instructions) w.held s) (left w.held s) w) (sym is)

pub for_is : (free : ℕ) (here : Location) (x : ℕ) (s : Statement) (e f : Expression) (body : Vec Statement Global) (t : Turns)
    (w0 w1 w2 : Written) →
    s ≡ statement.For here x e f body →
    t ≡ record { turn = turn free; high = high free; more = more free; behind = behind_turns free } →
    w1 ≡ wrote (bounds w0.held here.line t (formula_of e) (formula_of f)) false w0 →
    w2 ≡ wrote (for_turns (length w1.instructions) w1.held here.line t x body.items) false w1 → Lowered free s w0 w2
for_is free here x s e f body t w0 w1 w2 is ts h1 h2 =
    let n = length w0.instructions in
    wrote_then (bounds w0.held here.line t (formula_of e) (formula_of f)) false (λ n h. for_turns n h here.line t x body.items)
    (λ h. false) w0 w1 w2 h1 h2
    ∙ ap (λ t. wrote (bounds w0.held here.line t (formula_of e) (formula_of f)
    ++ for_turns (n + length (bounds w0.held here.line t (formula_of e) (formula_of f))) false here.line t x body.items) false w0) ts
    ∙ sym (ap (λ p. wrote (for_code true w0.held n here.line free x (formula_of e) (formula_of f) p) false w0) (part_is
    (behind_turns free) body))
    ∙ ap (λ s. wrote (code true free n w0.held s) (left w0.held s) w0) (sym is)

pub if_is : (free : ℕ) (here : Location) (source over : ℕ) (s : Statement) (e : Expression) (a b : Vec Statement Global)
    (w0 w1 w2 w3 w4 : Written) →
    s ≡ statement.If here e a b → source ≡ value_at Uniform free (formula_of e) → w1 ≡ wrote (parted w0.held here.line free
    (formula_of e)) false w0 →
    over ≡ length w1.instructions → w2 ≡ added (Halt ∷ []) w1 →
    w3 ≡ wrote (part free w2.held a.items (length w2.instructions)) false w2 → w4 ≡ joined over source free b.items w3 →
    Lowered free s w0 w4
if_is free here source over s e a b w0 w1 w2 w3 w4 is src h1 o h2 h3 h4 =
    let n = length w0.instructions in
    let f = formula_of e in
    joined_is (parted w0.held here.line free f) source over free (λ start h. part free h a.items start) b.items w0 w1 w2 w3 w4 h1 o h2 h3 h4
    ∙ ap (λ r. wrote (parted w0.held here.line free f ++ chosen (n + length (parted w0.held here.line free f)) r
    (part free false a.items (n + length (parted w0.held here.line free f) + 1)) (are_some b.items) (part free false b.items)) false w0) src
    ∙ sym (ap (λ p. wrote (if_code true w0.held n here.line free f p (are_some b.items) (part free false b.items)) false w0)
    (part_is free a))
    ∙ sym (ap (λ x. wrote (if_code true w0.held n here.line free f (row_part free a) x (part free false b.items)) false w0)
    (some_of_part b))
    ∙ sym (ap (λ p. wrote (if_code true w0.held n here.line free f (row_part free a) (has_part (hidden-the_row-Statement-0 b)) p) false w0)
    (part_is free b))
    ∙ ap (λ s. wrote (code true free n w0.held s) (left w0.held s) w0) (sym is)

-- before the first statement
abbrev pub nothing : Written
nothing = record { instructions = []; held = false }
