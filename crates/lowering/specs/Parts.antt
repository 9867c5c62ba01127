-- The code of statements with parts, whose parts are lists.
use Rattle.std.specs.Prelude.{ℕ, ◌+◌, Bool, true, false, List, [], ◌∷◌, ◌++◌, length}
use Rattle.superstep_instructions.specs.declared.instr.Instr.{Instr}
use Rattle.superstep_instructions.specs.declared.instr.Instr.TheVariants.{Unmask}
use Rattle.pram_names.specs.declared.body.Step.{Step}
use Rattle.plain_form.specs.Formulas.{Formula}
use Rattle.plain_form.specs.Shapes as shapes
use Rattle.plain_form.specs.Shapes.{still, counted, sent, looped, flipped}
use Rattle.plain_form.specs.Inside.{Frame, steps_code, steps_left}
use Rattle.straight_lowering.specs.Straight.{flags}

abbrev pub frame : ℕ → Frame
frame vote = record { keep = true; vote = vote }

-- whether there are any
abbrev pub are_some : {A : Type 0} → List A → Bool
are_some [] = false
are_some (x ∷ xs) = true

-- ---- inside pardo

-- an else part, if there is one
abbrev pub step_else : (vote base start : ℕ) → Bool → List Step → List Instr
step_else vote base start held ss = flipped (are_some ss) start (λ start. steps_code (frame vote) base start held ss)

-- a body, and the send of what it holds
abbrev pub sent_steps : (vote base : ℕ) → Bool → List Step → ℕ → List Instr
sent_steps vote base held ss start = sent (steps_code (frame vote) base start held ss) (steps_left held ss)

-- a `while` from its head on
abbrev pub step_turns : (vote flag base head : ℕ) → Bool → ℕ → Formula → List Step → List Instr
step_turns vote flag base head held line f ss =
    looped head (flags held line vote flag base f) vote (sent_steps vote base (still held f) ss)

abbrev pub step_while : (vote base start : ℕ) → Bool → ℕ → Formula → List Step → List Instr
step_while vote base start held line f ss =
    let before = shapes.flagged held base in
    before ++ step_turns vote base (base + 1) (start + length before) false line f ss ++ (Unmask ∷ [])
