-- The code of statements inside pardo. Their registers: `vote` is uniform, the private ones from `base` on are free.
use Rattle.std.specs.Prelude.{ℕ, ◌+◌, Bool, true, false, List, [], ◌∷◌, ◌++◌, length}
use Rattle.superstep_instructions.specs.declared.instr.Side.TheVariants.{Private}
use Rattle.superstep_instructions.specs.declared.instr.Instr.{Instr}
use Rattle.pram_names.specs.declared.body.StepTarget.{StepTarget}
use Rattle.pram_names.specs.declared.body.StepTarget.TheVariants as inner
use Rattle.pram_names.specs.declared.body.Step as step
use Rattle.pram_names.specs.declared.body.Step.{Step, Row_of-Step, end_of-Step, more_of-Step}
use Rattle.plain_form.specs.Registers.{local}
use Rattle.plain_form.specs.Formulas.{Formula, Zero, formula_of}
use Rattle.plain_form.specs.Shapes.{still, gets, writes, sent, inner_if_code, inner_while_code}

-- what stays the same inside a pardo: whether empty sends are kept, and the register for votes
pub record Frame : Type 0 where
  pub keep : Bool
  pub vote : ℕ

abbrev pub inner_assign : Frame → Bool → ℕ → ℕ → StepTarget → Formula → List Instr
inner_assign w held line base (inner.Local x) f = gets w.keep held line Private base f (local x)
inner_assign w held line base (inner.Cell a) f = writes w.keep held line Private base a Zero f
inner_assign w held line base (inner.Element a i) f = writes w.keep held line Private base a (formula_of i) f

-- whether a write is held behind an assignment
abbrev pub inner_assign_left : Bool → StepTarget → Formula → Bool
inner_assign_left held (inner.Local x) f = still held f
inner_assign_left held (inner.Cell a) f = true
inner_assign_left held (inner.Element a i) f = true

abbrev mutual
  -- whether a write is held behind a statement
  pub step_left : Bool → Step → Bool
  step_left held (step.Assign here x e) = inner_assign_left held x (formula_of e)
  step_left held (step.If' here e q then_part r else_part) = part_left (part_left (still held (formula_of e)) then_part) else_part
  step_left held (step.While' here e q body) = false

  pub part_left : Bool → {n : _} → Row_of-Step n → Bool
  part_left held end_of-Step = held
  part_left held (more_of-Step s ss) = part_left (step_left held s) ss

-- the same for the statements of a list
abbrev pub steps_left : Bool → List Step → Bool
steps_left held [] = held
steps_left held (s ∷ ss) = steps_left (step_left held s) ss

-- whether an else part has statements
abbrev pub has_part : {n : _} → Row_of-Step n → Bool
has_part end_of-Step = false
has_part (more_of-Step s ss) = true

abbrev mutual
  -- the code of a statement, from where it begins on
  pub step_code : Frame → (base start : ℕ) → Bool → Step → List Instr
  step_code w base start held (step.Assign here x e) = inner_assign w held here.line base x (formula_of e)
  step_code w base start held (step.If' here e q then_part r else_part) =
      inner_if_code w.keep held start here.line base (formula_of e)
      (λ start. part_code w base start (still held (formula_of e)) then_part) (has_part else_part)
      (λ start. part_code w base start (part_left (still held (formula_of e)) then_part) else_part)
  step_code w base start held (step.While' here e q body) =
      inner_while_code w.keep held start here.line w.vote base (base + 1) (formula_of e)
      (λ start. sent (part_code w (base + 1) start false body) (part_left false body))

  pub part_code : Frame → (base start : ℕ) → Bool → {n : _} → Row_of-Step n → List Instr
  part_code w base start held end_of-Step = []
  part_code w base start held (more_of-Step s ss) =
      let first = step_code w base start held s in first ++ part_code w base (start + length first) (step_left held s) ss

-- the same for the statements of a list
abbrev pub steps_code : Frame → (base start : ℕ) → Bool → List Step → List Instr
steps_code w base start held [] = []
steps_code w base start held (s ∷ ss) =
    let first = step_code w base start held s in first ++ steps_code w base (start + length first) (step_left held s) ss
