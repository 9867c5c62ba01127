-- The code of statements outside pardo, whose parts are lists.
use Rattle.std.specs.Prelude.{ℕ, ◌+◌, Bool, true, false, List, [], ◌∷◌, ◌++◌, length}
use Rattle.superstep_instructions.specs.declared.instr.Side.TheVariants.{Uniform}
use Rattle.superstep_instructions.specs.declared.instr.Instr.{Instr}
use Rattle.superstep_instructions.specs.declared.instr.Instr.TheVariants.{Jump, JumpIfZero}
use Rattle.pram_names.specs.declared.body.Step.{Step}
use Rattle.pram_names.specs.declared.body.Statement.{Statement}
use Rattle.plain_form.specs.Registers.{behind_locals}
use Rattle.plain_form.specs.Formulas.{Formula, Pair}
use Rattle.plain_form.specs.Groups.{value_at}
use Rattle.plain_form.specs.Shapes.{still, flush, counted, sent, looped, turned, pardo_code}
use Rattle.plain_form.specs.Inside.{steps_code, steps_left}
use Rattle.plain_form.specs.Outside.{statements_code, statements_left}
use Rattle.straight_lowering.specs.declared.ranges.Turns.{Turns}
use Rattle.straight_lowering.specs.Straight.{setting}
use Rattle.lowering.specs.Parts.{frame}
use Rattle.straight_lowering.specs.Written.{Written, wrote, patched}

-- a part, and the send of what it holds
abbrev pub part : ℕ → Bool → List Statement → ℕ → List Instr
part free held ss start = sent (statements_code true free start held ss) (statements_left held ss)

-- a `while` from its head on
abbrev pub while_turns : (free head : ℕ) → Bool → ℕ → Formula → List Statement → List Instr
while_turns free head held line f ss =
    looped head (counted true held line Uniform free f) (value_at Uniform free f) (part free (still held f) ss)

abbrev pub while_loop : (free start : ℕ) → Bool → ℕ → Formula → List Statement → List Instr
while_loop free start held line f ss = flush held ++ while_turns free (start + length (flush held)) false line f ss

-- the turns
abbrev pub for_turns : ℕ → Bool → ℕ → Turns → ℕ → List Statement → List Instr
for_turns start held line t x ss = turned start t.more (setting held line t x) (part t.behind held ss)

-- a pardo
abbrev pub pardo : (free start : ℕ) → Bool → ℕ → Formula → Formula → ℕ → List Step → List Instr
pardo free start held line f g locals ss =
    pardo_code true held start line free f g (λ start. steps_code (frame free) (behind_locals locals) start (still held (Pair f g)) ss)

abbrev pub pardo_left : Bool → Formula → Formula → List Step → Bool
pardo_left held f g ss = steps_left (still held (Pair f g)) ss

-- the first part of an `if`, which is written, with the jump over it, and the else part behind it, if there is one
abbrev pub joined : (over source free : ℕ) → List Statement → Written → Written
joined over source free [] w = patched over (JumpIfZero source (length w.instructions)) w
joined over source free (s ∷ ss) w =
    let other = length w.instructions + 1 in
    let else_part = part free w.held (s ∷ ss) other in
    wrote (Jump (other + length else_part) ∷ else_part) false (patched over (JumpIfZero source other) w)
