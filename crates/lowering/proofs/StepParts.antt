-- The code of statements inside pardo, by the lists of their parts.
use Rattle.std.proofs.Common.{◌≡◌, ℕ, ◌+◌, Bool, true, false, List, [], ◌∷◌, ◌++◌, length, take, get_or, ◌<◌, ap, ◌∙◌, sym, refl}
use Rattle.std.proofs.Common.{append_assoc, length-append, arith, Global, Vec}
use Rattle.std.proofs.lemmas.List.{append-nil, take_more}
use Rattle.pram_tokens.specs.declared.token.Location.{Location}
use Rattle.superstep_instructions.specs.declared.instr.Instr.TheVariants.{Unmask}
use Rattle.pram_names.specs.declared.body.Expression.{Expression}
use Rattle.pram_names.specs.declared.body.Step as step
use Rattle.pram_names.specs.declared.body.Step.{Step, Row_of-Step, end_of-Step, more_of-Step, items-the_row-Step}
use Rattle.pram_names.specs.declared.body.Step.{items_hidden-the_row-Step-0}
use Rattle.pram_names.specs.declared.body.Step.TheBlock.{hidden-the_row-Step-0}
use Rattle.plain_form.specs.Formulas.{formula_of}
use Rattle.plain_form.specs.Shapes.{still, sent, inner_if_code, flagged, looped}
use Rattle.plain_form.specs.Inside.{Frame, step_code, step_left, steps_code, steps_left, part_code, part_left, has_part}
use Rattle.lowering.specs.Parts.{frame, are_some, step_else, step_while}
use Rattle.straight_lowering.specs.Straight.{masked, flags}
use Rattle.straight_lowering.specs.Written.{Written, wrote}
use Rattle.lowering.proofs.Filling.{wrote_then}

-- ---- rows and lists

code_of_row : (w : Frame) (base start : ℕ) (held : Bool) {k : _} (ss : Row_of-Step k) →
    steps_code w base start held (items-the_row-Step k ss) ≡ part_code w base start held ss
code_of_row w base start held end_of-Step = refl
code_of_row w base start held (more_of-Step s ss) =
    let first = step_code w base start held s in
    ap (λ l. first ++ l) (code_of_row w base (start + length first) (step_left held s) ss)

left_of_row : (held : Bool) {k : _} (ss : Row_of-Step k) → steps_left held (items-the_row-Step k ss) ≡ part_left held ss
left_of_row held end_of-Step = refl
left_of_row held (more_of-Step s ss) = left_of_row (step_left held s) ss

some_of_row : {k : _} (ss : Row_of-Step k) → are_some (items-the_row-Step k ss) ≡ has_part ss
some_of_row end_of-Step = refl
some_of_row (more_of-Step s ss) = refl

code_of_part : (w : Frame) (base start : ℕ) (held : Bool) (body : Vec Step Global) →
    part_code w base start held (hidden-the_row-Step-0 body) ≡ steps_code w base start held body.items
code_of_part w base start held body =
    sym (code_of_row w base start held (hidden-the_row-Step-0 body)) ∙ ap (steps_code w base start held) (items_hidden-the_row-Step-0 body)

left_of_part : (held : Bool) (body : Vec Step Global) → part_left held (hidden-the_row-Step-0 body) ≡ steps_left held body.items
left_of_part held body = sym (left_of_row held (hidden-the_row-Step-0 body)) ∙ ap (steps_left held) (items_hidden-the_row-Step-0 body)

some_of_part : (body : Vec Step Global) → has_part (hidden-the_row-Step-0 body) ≡ are_some body.items
some_of_part body = sym (some_of_row (hidden-the_row-Step-0 body)) ∙ ap are_some (items_hidden-the_row-Step-0 body)

-- ---- one statement more

code_append : (w : Frame) (base start : ℕ) (held : Bool) (xs : List Step) (s : Step) → steps_code w base start held (xs ++ s ∷ [])
    ≡ steps_code w base start held xs ++ step_code w base (start + length (steps_code w base start held xs)) (steps_left held xs) s
code_append w base start held [] s =
    append-nil (step_code w base start held s) ∙ ap (λ n. step_code w base n held s) (let e : start ≡ start + 0 = omega arith in e)
code_append w base start held (x ∷ xs) s =
    let first = step_code w base start held x in
    let rest = steps_code w base (start + length first) (step_left held x) xs in
    ap (λ l. first ++ l) (code_append w base (start + length first) (step_left held x) xs s)
    ∙ sym (append_assoc first rest (step_code w base (start + length first + length rest) (steps_left (step_left held x) xs) s))
    ∙ ap (λ n. first ++ rest ++ step_code w base n (steps_left (step_left held x) xs) s)
    (let l = length-append first rest in let e : start + length first + length rest ≡ start + length (first
    ++ rest) = omega (arith, l) in e)

left_append : (held : Bool) (xs : List Step) (s : Step) → steps_left held (xs ++ s ∷ []) ≡ step_left (steps_left held xs) s
left_append held [] s = refl
left_append held (x ∷ xs) s = left_append (step_left held x) xs s

pub steps_more : (v base : ℕ) (items : List Step) (i : ℕ) (s : Step) (w0 w1 w2 : Written) →
    w1 ≡ wrote (steps_code (frame v) base (length w0.instructions) w0.held (take i items)) (steps_left w0.held (take i items)) w0 →
    i < length items → s ≡ get_or items i s →
    w2 ≡ wrote (step_code (frame v) base (length w1.instructions) w1.held s) (step_left w1.held s) w1 →
    w2 ≡ wrote (steps_code (frame v) base (length w0.instructions) w0.held (take (i + 1) items)) (steps_left w0.held (take
    (i + 1) items)) w0
steps_more v base items i s w0 w1 w2 e1 h is e2 =
    let a = length w0.instructions in
    let front = steps_code (frame v) base a w0.held (take i items) in
    let next : take (i + 1) items ≡ take i items ++ s ∷ [] = take_more items i s h ∙ ap (λ y. take i items ++ y ∷ []) (sym is) in
    wrote_then front (steps_left w0.held (take i items)) (λ n k. step_code (frame v) base n k s) (λ k. step_left k s) w0 w1 w2 e1 e2
    ∙ ap (λ l. wrote l (step_left (steps_left w0.held (take i items)) s) w0) (sym (code_append (frame v) base a w0.held (take i items) s))
    ∙ ap (λ k. wrote (steps_code (frame v) base a w0.held (take i items ++ s ∷ [])) k w0) (sym (left_append w0.held (take i items) s))
    ∙ ap (λ xs. wrote (steps_code (frame v) base a w0.held xs) (steps_left w0.held xs) w0) (sym next)

-- ---- a statement of each kind

pub while_is : (v base : ℕ) (here : Location) (s : Step) (e : Expression) (body : Vec Step Global) (w u : Written) →
    s ≡ step.While here e body →
    u ≡ wrote (step_while v base (length w.instructions) w.held here.line (formula_of e) body.items) false w →
    u ≡ wrote (step_code (frame v) base (length w.instructions) w.held s) (step_left w.held s) w
while_is v base here s e body w u is h =
    let a = length w.instructions in
    let f = formula_of e in
    let before = flagged w.held base in
    h
    ∙ sym (ap (λ part. wrote (before ++ looped (a + length before) (flags false here.line v base (base + 1) f) v part
    ++ (Unmask ∷ [])) false w) (λ j start. sent (code_of_part (frame v) (base + 1) start false body j) (left_of_part false body j)))
    ∙ ap (λ s. wrote (step_code (frame v) base a w.held s) (step_left w.held s) w) (sym is)

pub if_is : (v base : ℕ) (here : Location) (s : Step) (e : Expression) (a b : Vec Step Global) (w0 w1 w2 w3 w4 : Written) → s
    ≡ step.If here e a b →
    w1 ≡ wrote (masked w0.held here.line base (formula_of e)) (still w0.held (formula_of e)) w0 →
    w2 ≡ wrote (steps_code (frame v) base (length w1.instructions) w1.held a.items) (steps_left w1.held a.items) w1 →
    w3 ≡ wrote (step_else v base (length w2.instructions) w2.held b.items) (steps_left w2.held b.items) w2 →
    w4 ≡ wrote (Unmask ∷ []) w3.held w3 →
    w4 ≡ wrote (step_code (frame v) base (length w0.instructions) w0.held s) (step_left w0.held s) w0
if_is v base here s e a b w0 w1 w2 w3 w4 is h1 h2 h3 h4 =
    let n = length w0.instructions in
    let f = formula_of e in
    let h = still w0.held f in
    let test = masked w0.held here.line base f in
    let k = steps_left h a.items in
    let first = steps_code (frame v) base (n + length test) h a.items in
    let one : w2 ≡ wrote (test ++ first) k w0 =
    wrote_then test h (λ n h. steps_code (frame v) base n h a.items) (λ h. steps_left h a.items) w0 w1 w2 h1 h2 in
    let two = wrote_then (test ++ first) k (λ n h. step_else v base n h b.items) (λ h. steps_left h b.items) w0 w2 w3 one h3 in
    let three = wrote_then _ (steps_left k b.items) (λ n h. Unmask ∷ []) (λ h. h) w0 w3 w4 two h4 in
    let parts : step_code (frame v) base n w0.held (step.If here e a b)
    ≡ inner_if_code true w0.held n here.line base f (λ start. steps_code (frame v) base start h a.items) (are_some b.items)
    (λ start. steps_code (frame v) base start k b.items) =
    ap (λ p. inner_if_code true w0.held n here.line base f p (has_part (hidden-the_row-Step-0 b))
    (λ start. part_code (frame v) base start (part_left h (hidden-the_row-Step-0 a)) (hidden-the_row-Step-0 b)))
    (λ j start. code_of_part (frame v) base start h a j)
    ∙ ap (λ x. inner_if_code true w0.held n here.line base f (λ start. steps_code (frame v) base start h a.items) x
    (λ start. part_code (frame v) base start (part_left h (hidden-the_row-Step-0 a)) (hidden-the_row-Step-0 b))) (some_of_part b)
    ∙ ap (inner_if_code true w0.held n here.line base f (λ start. steps_code (frame v) base start h a.items) (are_some b.items))
    ((λ j start. part_code (frame v) base start (left_of_part h a j) (hidden-the_row-Step-0 b))
    ∙ (λ j start. code_of_part (frame v) base start k b j)) in
    let left : step_left w0.held (step.If here e a b) ≡ steps_left k b.items =
    left_of_part (part_left h (hidden-the_row-Step-0 a)) b ∙ ap (λ k. steps_left k b.items) (left_of_part h a) in
    three ∙ ap (λ l. wrote l (steps_left k b.items) w0) (sym parts)
    ∙ ap (λ k. wrote (step_code (frame v) base n w0.held (step.If here e a b)) k w0) (sym left)
    ∙ ap (λ s. wrote (step_code (frame v) base n w0.held s) (step_left w0.held s) w0) (sym is)
