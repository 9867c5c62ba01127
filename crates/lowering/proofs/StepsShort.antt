-- The statements inside a statement inside pardo have room, and places, where it has.
use Rattle.std.proofs.Common.{◌≡◌, ℕ, zero, suc, ◌+◌, ◌<◌, ◌≤◌, ◌^◌, Bool, false, List, [], ◌∷◌, length, take, get_or, ap, sym, refl}
use Rattle.std.proofs.Common.{subst, length-append, arith, Global, Vec}
use Rattle.pram_tokens.specs.declared.token.Location.{Location}
use Rattle.superstep_instructions.specs.declared.instr.Instr.TheVariants.{Unmask}
use Rattle.pram_names.specs.declared.body.Expression.{Expression}
use Rattle.pram_names.specs.declared.body.Step as step
use Rattle.pram_names.specs.declared.body.Step.{Step, Row_of-Step, end_of-Step, more_of-Step, items-the_row-Step}
use Rattle.pram_names.specs.declared.body.Step.{items_hidden-the_row-Step-0}
use Rattle.pram_names.specs.declared.body.Step.TheBlock.{hidden-the_row-Step-0}
use Rattle.plain_form.specs.Formulas.{formula_of}
use Rattle.plain_form.specs.Shapes.{still}
use Rattle.plain_form.specs.Inside.{Frame, step_code, step_left, steps_code, steps_left}
use Rattle.lowering.specs.Parts.{frame, step_else, step_while}
use Rattle.straight_lowering.specs.Straight.{masked}
use Rattle.straight_lowering.specs.Written.{Written, wrote}
use Rattle.straight_lowering.specs.Room.{IsRoomFor}
use Rattle.lowering.specs.Room.{StepHasRoom, PartHasRoom, StepsHaveRoom}
use Rattle.lowering.proofs.Filling.{length_of}
use Rattle.lowering.proofs.Lengths.{as_long}
use Rattle.lowering.proofs.StepParts.{steps_more, while_is, if_is}

-- ---- room

room_of_row : (base : ℕ) {k : _} (ss : Row_of-Step k) → PartHasRoom base ss → StepsHaveRoom base (items-the_row-Step k ss)
room_of_row base end_of-Step h = tt
room_of_row base (more_of-Step s ss) h = (h.0, room_of_row base ss h.1)

room_of_part : (base : ℕ) (body : Vec Step Global) → PartHasRoom base (hidden-the_row-Step-0 body) → StepsHaveRoom base body.items
room_of_part base body h =
    subst (StepsHaveRoom base) (items_hidden-the_row-Step-0 body) (room_of_row base (hidden-the_row-Step-0 body) h)

-- each statement of a list
room_at : (base : ℕ) (items : List Step) (i : ℕ) (s : Step) → i < length items → s ≡ get_or items i s → StepsHaveRoom base items →
    StepHasRoom base s
room_at base [] i s h e r = absurd (omega (arith, h))
room_at base (x ∷ xs) zero s h e r = subst (StepHasRoom base) (sym e) r.0
room_at base (x ∷ xs) (suc i) s h e r = room_at base xs i s (omega (arith, h)) e r.1

pub room_of_each : (base : ℕ) (items all : List Step) (i : ℕ) (s : Step) → items ≡ all → i < length items → s ≡ get_or items i s →
    StepsHaveRoom base all → StepHasRoom base s
room_of_each base items all i s same h e r = room_at base items i s h e (subst (StepsHaveRoom base) (sym same) r)

pub while_room : (base : ℕ) (here : Location) (s : Step) (e : Expression) (body : Vec Step Global) → s ≡ step.While here e body →
    StepHasRoom base s →
    (base + 1 < 2 ^ 16) × IsRoomFor (formula_of e) (base + 1) × StepsHaveRoom (base + 1) body.items
while_room base here s e body is h =
    let r = subst (StepHasRoom base) is h in (r.0, r.1, room_of_part (base + 1) body r.2)

pub if_room : (base : ℕ) (here : Location) (s : Step) (e : Expression) (a b : Vec Step Global) → s ≡ step.If here e a b →
    StepHasRoom base s →
    IsRoomFor (formula_of e) base × StepsHaveRoom base a.items × StepsHaveRoom base b.items
if_room base here s e a b is h =
    let r = subst (StepHasRoom base) is h in (r.0, room_of_part base a r.1, room_of_part base b r.2)

-- ---- places

-- the code of a statement ends at a place with a number
abbrev IsShort : (v base : ℕ) → Step → Written → Type 0
IsShort v base s w = length w.instructions + length (step_code (frame v) base (length w.instructions) w.held s) < 2 ^ 16

pub while_short : (v base : ℕ) (here : Location) (s : Step) (e : Expression) (body : Vec Step Global) (w : Written) →
    s ≡ step.While here e body →
    IsShort v base s w →
    length w.instructions + length (step_while v base (length w.instructions) w.held here.line (formula_of e) body.items) < 2 ^ 16
while_short v base here s e body w is h =
    let n = length w.instructions in
    let code = step_while v base n w.held here.line (formula_of e) body.items in
    let l = as_long code (step_code (frame v) base n w.held s) false (step_left w.held s) w
    (while_is v base here s e body w (wrote code false w) is refl) in
    omega (arith, l, h)

if_end : (v base : ℕ) (here : Location) (s : Step) (e : Expression) (a b : Vec Step Global) (w0 w1 w2 : Written) → s ≡ step.If here e a b →
    w1 ≡ wrote (masked w0.held here.line base (formula_of e)) (still w0.held (formula_of e)) w0 →
    w2 ≡ wrote (steps_code (frame v) base (length w1.instructions) w1.held a.items) (steps_left w1.held a.items) w1 →
    length w2.instructions + length (step_else v base (length w2.instructions) w2.held b.items) + 1
    ≡ length w0.instructions + length (step_code (frame v) base (length w0.instructions) w0.held s)
if_end v base here s e a b w0 w1 w2 is h1 h2 =
    let other = step_else v base (length w2.instructions) w2.held b.items in
    let w3 = wrote other (steps_left w2.held b.items) w2 in
    let w4 = wrote (Unmask ∷ []) w3.held w3 in
    let l = length_of (step_code (frame v) base (length w0.instructions) w0.held s) (step_left w0.held s) w0 w4
    (if_is v base here s e a b w0 w1 w2 w3 w4 is h1 h2 refl refl) in
    let m = length-append w2.instructions other in
    let n = length-append w3.instructions (Unmask ∷ []) in
    omega (arith, l, m, n)

pub else_short : (v base : ℕ) (here : Location) (s : Step) (e : Expression) (a b : Vec Step Global) (w0 w1 w2 : Written) →
    s ≡ step.If here e a b →
    w1 ≡ wrote (masked w0.held here.line base (formula_of e)) (still w0.held (formula_of e)) w0 →
    w2 ≡ wrote (steps_code (frame v) base (length w1.instructions) w1.held a.items) (steps_left w1.held a.items) w1 → IsShort v base s w0 →
    length w2.instructions + length (step_else v base (length w2.instructions) w2.held b.items) < 2 ^ 16
else_short v base here s e a b w0 w1 w2 is h1 h2 h = let l = if_end v base here s e a b w0 w1 w2 is h1 h2 in omega (arith, l, h)

pub then_short : (v base : ℕ) (here : Location) (s : Step) (e : Expression) (a b : Vec Step Global) (w0 w1 : Written) →
    s ≡ step.If here e a b →
    w1 ≡ wrote (masked w0.held here.line base (formula_of e)) (still w0.held (formula_of e)) w0 → IsShort v base s w0 →
    length w1.instructions + length (steps_code (frame v) base (length w1.instructions) w1.held a.items) < 2 ^ 16
then_short v base here s e a b w0 w1 is h1 h =
    let first = steps_code (frame v) base (length w1.instructions) w1.held a.items in
    let w2 = wrote first (steps_left w1.held a.items) w1 in
    let l = if_end v base here s e a b w0 w1 w2 is h1 refl in
    let m = length-append w1.instructions first in
    omega (arith, l, m, h)

-- ---- lists

no_steps : (w : Frame) (base start : ℕ) (held : Bool) (i : ℕ) → length (steps_code w base start held (take i [])) ≡ 0
no_steps w base start held zero = refl
no_steps w base start held (suc i) = refl

first_steps : (w : Frame) (base start : ℕ) (held : Bool) (xs : List Step) (i : ℕ) →
    length (steps_code w base start held (take i xs)) ≤ length (steps_code w base start held xs)
first_steps w base start held [] i = let e = no_steps w base start held i in omega (arith, e)
first_steps w base start held (x ∷ xs) zero = omega arith
first_steps w base start held (x ∷ xs) (suc i) =
    let first = step_code w base start held x in
    let rest = first_steps w base (start + length first) (step_left held x) xs i in
    let a = length-append first (steps_code w base (start + length first) (step_left held x) (take i xs)) in
    let b = length-append first (steps_code w base (start + length first) (step_left held x) xs) in
    omega (arith, rest, a, b)

pub each_short : (v base : ℕ) (items all : List Step) (i : ℕ) (s : Step) (w0 w1 : Written) → items ≡ all →
    w1 ≡ wrote (steps_code (frame v) base (length w0.instructions) w0.held (take i items)) (steps_left w0.held (take i items)) w0 →
    i < length items → s ≡ get_or items i s →
    length w0.instructions + length (steps_code (frame v) base (length w0.instructions) w0.held all) < 2 ^ 16 → IsShort v base s w1
each_short v base items all i s w0 w1 same e1 h is short =
    let n = ap (λ xs. length (steps_code (frame v) base (length w0.instructions) w0.held xs)) same in
    let code = step_code (frame v) base (length w1.instructions) w1.held s in
    let w2 = wrote code (step_left w1.held s) w1 in
    let l = length_of (steps_code (frame v) base (length w0.instructions) w0.held (take (i + 1) items))
    (steps_left w0.held (take (i + 1) items)) w0 w2 (steps_more v base items i s w0 w1 w2 e1 h is refl) in
    let m = length-append w1.instructions code in
    let f = first_steps (frame v) base (length w0.instructions) w0.held items (i + 1) in
    omega (arith, l, m, n, f, short)
