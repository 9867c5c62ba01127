-- The statements inside a statement outside pardo have room, and places, where it has.
use Rattle.std.proofs.Common.{◌≡◌, ℕ, zero, suc, ◌+◌, ◌<◌, ◌≤◌, ◌^◌, Bool, true, false, List, [], ◌∷◌, length, take, get_or, ap, sym}
use Rattle.std.proofs.Common.{refl, subst, length-append, arith, Global, Vec}
use Rattle.pram_tokens.specs.declared.token.Location.{Location}
use Rattle.superstep_instructions.specs.declared.instr.Side.TheVariants.{Uniform}
use Rattle.superstep_instructions.specs.declared.instr.Instr.TheVariants.{Halt}
use Rattle.pram_names.specs.declared.body.Expression.{Expression}
use Rattle.pram_names.specs.declared.body.Statement as statement
use Rattle.pram_names.specs.declared.body.Statement.{Statement, Row_of-Statement, end_of-Statement, more_of-Statement}
use Rattle.pram_names.specs.declared.body.Statement.{items-the_row-Statement}
use Rattle.pram_names.specs.declared.body.Statement.{items_hidden-the_row-Statement-0}
use Rattle.pram_names.specs.declared.body.Statement.TheBlock.{hidden-the_row-Statement-0}
use Rattle.plain_form.specs.Registers.{turn, high, more, behind_turns}
use Rattle.plain_form.specs.Formulas.{Pair, formula_of}
use Rattle.plain_form.specs.Groups.{value_at}
use Rattle.plain_form.specs.Outside.{code, left, statements_code, statements_left}
use Rattle.straight_lowering.specs.declared.ranges.Turns.{Turns}
use Rattle.straight_lowering.specs.Straight.{parted, bounds}
use Rattle.straight_lowering.specs.Written.{Written, added, wrote}
use Rattle.straight_lowering.specs.Room.{IsRoomFor}
use Rattle.lowering.specs.Blocks.{part, while_loop, for_turns, joined}
use Rattle.lowering.specs.Room.{StatementHasRoom, BlockHasRoom, StatementsHaveRoom}
use Rattle.lowering.proofs.Filling.{length_of}
use Rattle.lowering.proofs.Lengths.{as_long, before_else}
use Rattle.lowering.proofs.StatementParts.{statements_more, while_is, for_is, if_is}

-- ---- room

room_of_row : (free : ℕ) {k : _} (ss : Row_of-Statement k) → BlockHasRoom free ss → StatementsHaveRoom free (items-the_row-Statement k ss)
room_of_row free end_of-Statement h = tt
room_of_row free (more_of-Statement s ss) h = (h.0, room_of_row free ss h.1)

room_of_block : (free : ℕ) (body : Vec Statement Global) → BlockHasRoom free (hidden-the_row-Statement-0 body) →
    StatementsHaveRoom free body.items
room_of_block free body h =
    subst (StatementsHaveRoom free) (items_hidden-the_row-Statement-0 body) (room_of_row free (hidden-the_row-Statement-0 body) h)

-- each statement of a list
room_at : (free : ℕ) (items : List Statement) (i : ℕ) (s : Statement) → i < length items → s ≡ get_or items i s →
    StatementsHaveRoom free items → StatementHasRoom free s
room_at free [] i s h e r = absurd (omega (arith, h))
room_at free (x ∷ xs) zero s h e r = subst (StatementHasRoom free) (sym e) r.0
room_at free (x ∷ xs) (suc i) s h e r = room_at free xs i s (omega (arith, h)) e r.1

pub room_of_each : (free : ℕ) (items all : List Statement) (i : ℕ) (s : Statement) → items ≡ all → i < length items →
    s ≡ get_or items i s → StatementsHaveRoom free all → StatementHasRoom free s
room_of_each free items all i s same h e r = room_at free items i s h e (subst (StatementsHaveRoom free) (sym same) r)

pub while_room : (free : ℕ) (here : Location) (s : Statement) (e : Expression) (body : Vec Statement Global) →
    s ≡ statement.While here e body →
    StatementHasRoom free s → IsRoomFor (formula_of e) free × StatementsHaveRoom free body.items
while_room free here s e body is h = let r = subst (StatementHasRoom free) is h in (r.0, room_of_block free body r.1)

pub if_room : (free : ℕ) (here : Location) (s : Statement) (e : Expression) (a b : Vec Statement Global) → s ≡ statement.If here e a b →
    StatementHasRoom free s → IsRoomFor (formula_of e) free × StatementsHaveRoom free a.items × StatementsHaveRoom free b.items
if_room free here s e a b is h =
    let r = subst (StatementHasRoom free) is h in (r.0, room_of_block free a r.1, room_of_block free b r.2)

pub for_room : (free : ℕ) (here : Location) (x : ℕ) (s : Statement) (e f : Expression) (body : Vec Statement Global) →
    s ≡ statement.For here x e f body →
    StatementHasRoom free s → (free + 3 < 2 ^ 16) × (x + 1 < 2 ^ 16) × IsRoomFor (Pair (formula_of e) (formula_of f)) (behind_turns free)
    × StatementsHaveRoom (behind_turns free) body.items
for_room free here x s e f body is h =
    let r = subst (StatementHasRoom free) is h in (r.0, r.1, r.2, room_of_block (behind_turns free) body r.3)

-- ---- places

-- the code of a statement ends at a place with a number
abbrev IsShort : ℕ → Statement → Written → Type 0
IsShort free s w = length w.instructions + length (code true free (length w.instructions) w.held s) < 2 ^ 16

pub while_short : (free : ℕ) (here : Location) (s : Statement) (e : Expression) (body : Vec Statement Global) (w : Written) →
    s ≡ statement.While here e body → IsShort free s w →
    length w.instructions + length (while_loop free (length w.instructions) w.held here.line (formula_of e) body.items) < 2 ^ 16
while_short free here s e body w is h =
    let n = length w.instructions in
    let loop = while_loop free n w.held here.line (formula_of e) body.items in
    let l = as_long loop (code true free n w.held s) false (left w.held s) w (while_is free here s e body w (wrote loop false w) is refl) in
    omega (arith, l, h)

pub for_short : (free : ℕ) (here : Location) (x : ℕ) (s : Statement) (e f : Expression) (body : Vec Statement Global) (t : Turns)
    (w0 w1 : Written) →
    s ≡ statement.For here x e f body →
    t ≡ record { turn = turn free; high = high free; more = more free; behind = behind_turns free } →
    w1 ≡ wrote (bounds w0.held here.line t (formula_of e) (formula_of f)) false w0 → IsShort free s w0 →
    length w1.instructions + length (for_turns (length w1.instructions) w1.held here.line t x body.items) < 2 ^ 16
for_short free here x s e f body t w0 w1 is ts h1 h =
    let turns = for_turns (length w1.instructions) w1.held here.line t x body.items in
    let l = length_of (code true free (length w0.instructions) w0.held s) (left w0.held s) w0 (wrote turns false w1)
    (for_is free here x s e f body t w0 w1 (wrote turns false w1) is ts h1 refl) in
    let m = length-append w1.instructions turns in
    omega (arith, l, m, h)

if_end : (free : ℕ) (here : Location) (source over : ℕ) (s : Statement) (e : Expression) (a b : Vec Statement Global)
    (w0 w1 w2 w3 : Written) →
    s ≡ statement.If here e a b → source ≡ value_at Uniform free (formula_of e) →
    w1 ≡ wrote (parted w0.held here.line free (formula_of e)) false w0 → over ≡ length w1.instructions → w2 ≡ added (Halt ∷ []) w1 →
    w3 ≡ wrote (part free w2.held a.items (length w2.instructions)) false w2 →
    length (joined over source free b.items w3).instructions
    ≡ length w0.instructions + length (code true free (length w0.instructions) w0.held s)
if_end free here source over s e a b w0 w1 w2 w3 is src h1 o h2 h3 =
    length_of (code true free (length w0.instructions) w0.held s) (left w0.held s) w0 (joined over source free b.items w3)
    (if_is free here source over s e a b w0 w1 w2 w3 (joined over source free b.items w3) is src h1 o h2 h3 refl)

pub joined_short : (free : ℕ) (here : Location) (source over : ℕ) (s : Statement) (e : Expression) (a b : Vec Statement Global)
    (w0 w1 w2 w3 : Written) →
    s ≡ statement.If here e a b → source ≡ value_at Uniform free (formula_of e) →
    w1 ≡ wrote (parted w0.held here.line free (formula_of e)) false w0 → over ≡ length w1.instructions → w2 ≡ added (Halt ∷ []) w1 →
    w3 ≡ wrote (part free w2.held a.items (length w2.instructions)) false w2 → IsShort free s w0 →
    length (joined over source free b.items w3).instructions < 2 ^ 16
joined_short free here source over s e a b w0 w1 w2 w3 is src h1 o h2 h3 h =
    let l = if_end free here source over s e a b w0 w1 w2 w3 is src h1 o h2 h3 in omega (arith, l, h)

-- the jump over the first part stands in what is written behind that
pub over_inside : (free over : ℕ) (a : List Statement) (w1 w2 w3 : Written) → over ≡ length w1.instructions → w2 ≡ added (Halt ∷ []) w1 →
    w3 ≡ wrote (part free w2.held a (length w2.instructions)) false w2 → over < length w3.instructions
over_inside free over a w1 w2 w3 o h2 h3 =
    let l = length_of (Halt ∷ []) w1.held w1 w2 h2 in
    let m = length_of (part free w2.held a (length w2.instructions)) false w2 w3 h3 in
    omega (arith, o, l, m)

pub then_short : (free : ℕ) (here : Location) (source : ℕ) (s : Statement) (e : Expression) (a b : Vec Statement Global)
    (w0 w1 w2 : Written) →
    s ≡ statement.If here e a b → source ≡ value_at Uniform free (formula_of e) →
    w1 ≡ wrote (parted w0.held here.line free (formula_of e)) false w0 → w2 ≡ added (Halt ∷ []) w1 → IsShort free s w0 →
    length w2.instructions + length (part free w2.held a.items (length w2.instructions)) < 2 ^ 16
then_short free here source s e a b w0 w1 w2 is src h1 h2 h =
    let first = part free w2.held a.items (length w2.instructions) in
    let w3 = wrote first false w2 in
    let over = length w1.instructions in
    let l = if_end free here source over s e a b w0 w1 w2 w3 is src h1 refl h2 refl in
    let k = before_else over source free b.items w3 in
    let m = length-append w2.instructions first in
    omega (arith, l, k, m, h)

-- ---- lists

no_statements : (free start : ℕ) (held : Bool) (i : ℕ) → length (statements_code true free start held (take i [])) ≡ 0
no_statements free start held zero = refl
no_statements free start held (suc i) = refl

first_statements : (free start : ℕ) (held : Bool) (xs : List Statement) (i : ℕ) →
    length (statements_code true free start held (take i xs)) ≤ length (statements_code true free start held xs)
first_statements free start held [] i = let e = no_statements free start held i in omega (arith, e)
first_statements free start held (x ∷ xs) zero = omega arith
first_statements free start held (x ∷ xs) (suc i) =
    let first = code true free start held x in
    let rest = first_statements free (start + length first) (left held x) xs i in
    let a = length-append first (statements_code true free (start + length first) (left held x) (take i xs)) in
    let b = length-append first (statements_code true free (start + length first) (left held x) xs) in
    omega (arith, rest, a, b)

pub each_short : (free : ℕ) (items all : List Statement) (i : ℕ) (s : Statement) (w0 w1 : Written) → items ≡ all →
    w1 ≡ wrote (statements_code true free (length w0.instructions) w0.held (take i items)) (statements_left w0.held (take i items)) w0 →
    i < length items → s ≡ get_or items i s →
    length w0.instructions + length (statements_code true free (length w0.instructions) w0.held all) < 2 ^ 16 → IsShort free s w1
each_short free items all i s w0 w1 same e1 h is short =
    let n = ap (λ xs. length (statements_code true free (length w0.instructions) w0.held xs)) same in
    let one = code true free (length w1.instructions) w1.held s in
    let w2 = wrote one (left w1.held s) w1 in
    let l = length_of (statements_code true free (length w0.instructions) w0.held (take (i + 1) items))
    (statements_left w0.held (take (i + 1) items)) w0 w2 (statements_more free items i s w0 w1 w2 e1 h is refl) in
    let m = length-append w1.instructions one in
    let f = first_statements free (length w0.instructions) w0.held items (i + 1) in
    omega (arith, l, m, n, f, short)
