-- Room for the numbers of a program's code: of its registers, declarations and positions.
use Rattle.std.specs.Prelude.{ℕ, ◌+◌, ◌<◌, ◌^◌, List, [], ◌∷◌}
use Rattle.pram_names.specs.declared.body.Step as step
use Rattle.pram_names.specs.declared.body.Step.{Step, Row_of-Step, end_of-Step, more_of-Step}
use Rattle.pram_names.specs.declared.body.Statement.{Statement, Assign, Print, While', If', For', Pardo, Row_of-Statement, end_of-Statement}
use Rattle.pram_names.specs.declared.body.Statement.{more_of-Statement}
use Rattle.plain_form.specs.Registers.{behind_turns, behind_locals}
use Rattle.plain_form.specs.Formulas.{Pair, formula_of}
use Rattle.straight_lowering.specs.Room.{IsRoomFor, IsAssignRoom, IsInnerAssignRoom}

abbrev mutual
  -- of a statement inside pardo whose registers begin at base
  pub StepHasRoom : ℕ → Step → Type 0
  StepHasRoom base (step.Assign here x e) = IsInnerAssignRoom x (formula_of e) base
  StepHasRoom base (step.If' here e q then_part r else_part) =
      IsRoomFor (formula_of e) base × PartHasRoom base then_part × PartHasRoom base else_part
  StepHasRoom base (step.While' here e q body) = (base + 1 < 2 ^ 16) × IsRoomFor (formula_of e) (base + 1) × PartHasRoom (base + 1) body

  pub PartHasRoom : ℕ → {k : _} → Row_of-Step k → Type 0
  PartHasRoom base end_of-Step = Unit {0}
  PartHasRoom base (more_of-Step s ss) = StepHasRoom base s × PartHasRoom base ss

-- the same of the statements of a list
abbrev pub StepsHaveRoom : ℕ → List Step → Type 0
StepsHaveRoom base [] = Unit {0}
StepsHaveRoom base (s ∷ ss) = StepHasRoom base s × StepsHaveRoom base ss

abbrev mutual
  -- of a statement outside pardo whose registers begin at free
  pub StatementHasRoom : ℕ → Statement → Type 0
  StatementHasRoom free (Assign here x e) = IsAssignRoom x (formula_of e) free
  StatementHasRoom free (Print here e) = IsRoomFor (formula_of e) free
  StatementHasRoom free (While' here e q body) = IsRoomFor (formula_of e) free × BlockHasRoom free body
  StatementHasRoom free (If' here e q then_part r else_part) =
      IsRoomFor (formula_of e) free × BlockHasRoom free then_part × BlockHasRoom free else_part
  StatementHasRoom free (For' here x e f q body) =
      (free + 3 < 2 ^ 16) × (x + 1 < 2 ^ 16) × IsRoomFor (Pair (formula_of e) (formula_of f)) (behind_turns free)
      × BlockHasRoom (behind_turns free) body
  StatementHasRoom free (Pardo here e f locals body) =
      IsRoomFor (Pair (formula_of e) (formula_of f)) free × (locals + 2 < 2 ^ 16) × StepsHaveRoom (behind_locals locals) body.items

  pub BlockHasRoom : ℕ → {k : _} → Row_of-Statement k → Type 0
  BlockHasRoom free end_of-Statement = Unit {0}
  BlockHasRoom free (more_of-Statement s ss) = StatementHasRoom free s × BlockHasRoom free ss

-- the same of the statements of a list
abbrev pub StatementsHaveRoom : ℕ → List Statement → Type 0
StatementsHaveRoom free [] = Unit {0}
StatementsHaveRoom free (s ∷ ss) = StatementHasRoom free s × StatementsHaveRoom free ss
