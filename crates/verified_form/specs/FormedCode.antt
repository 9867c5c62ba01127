-- What is so for the code of every program within bounds.
use Rattle.std.specs.Prelude.{ℕ, ◌<◌, ◌^◌, Bool, List, [], ◌∷◌}
use Rattle.pram_names.specs.declared.body.Step as step
use Rattle.pram_names.specs.declared.body.Step.{Step, Row_of-Step, end_of-Step, more_of-Step}
use Rattle.pram_names.specs.declared.body.Statement.{Statement, Assign, Print, While', If', For', Pardo, Row_of-Statement, end_of-Statement}
use Rattle.pram_names.specs.declared.body.Statement.{more_of-Statement}
use Rattle.pram_check.specs.Checked.{Checked, IsResolved}
use Rattle.pram_check.specs.Bounded.{IsBounded}
use Rattle.superstep_instructions.specs.Limits.{IsCode}
use Rattle.bsp_verify.specs.WellFormed.{IsWellFormed}
use Rattle.plain_form.specs.PlainForm.{form_of}

-- each of its places has a state, such that every instruction is met
abbrev pub FormsAreWellFormed : Type 0
FormsAreWellFormed = (keep : Bool) (p : Checked) → IsBounded p → IsWellFormed (form_of keep p)

-- ---- the limits of a listing

-- a line that a listing has
abbrev pub IsLine : ℕ → Type 0
IsLine line = line < 2 ^ 32

abbrev mutual
  -- the lines of a statement inside pardo
  pub HasLines : Step → Type 0
  HasLines (step.Assign here x e) = IsLine here.line
  HasLines (step.If' here e q then_part r else_part) = IsLine here.line × PartHasLines then_part × PartHasLines else_part
  HasLines (step.While' here e q body) = IsLine here.line × PartHasLines body

  pub PartHasLines : {k : _} → Row_of-Step k → Type 0
  PartHasLines end_of-Step = Unit {0}
  PartHasLines (more_of-Step s ss) = HasLines s × PartHasLines ss

-- the same of the statements of a list
abbrev pub StepsHaveLines : List Step → Type 0
StepsHaveLines [] = Unit {0}
StepsHaveLines (s ∷ ss) = HasLines s × StepsHaveLines ss

abbrev mutual
  -- the lines of a statement
  pub StatementHasLines : Statement → Type 0
  StatementHasLines (Assign here x e) = IsLine here.line
  StatementHasLines (Print here e) = IsLine here.line
  StatementHasLines (While' here e q body) = IsLine here.line × BlockHasLines body
  StatementHasLines (If' here e q then_part r else_part) = IsLine here.line × BlockHasLines then_part × BlockHasLines else_part
  StatementHasLines (For' here x e f q body) = IsLine here.line × BlockHasLines body
  StatementHasLines (Pardo here e f locals body) = IsLine here.line × StepsHaveLines body.items

  pub BlockHasLines : {k : _} → Row_of-Statement k → Type 0
  BlockHasLines end_of-Statement = Unit {0}
  BlockHasLines (more_of-Statement s ss) = StatementHasLines s × BlockHasLines ss

-- the same of the statements of a list
abbrev pub BodyHasLines : List Statement → Type 0
BodyHasLines [] = Unit {0}
BodyHasLines (s ∷ ss) = StatementHasLines s × BodyHasLines ss

-- The code keeps the limits of a listing: its registers, its instructions, and all that they name have numbers there. (A line of a text
-- has one; of a program as such nothing bounds it.)
abbrev pub FormsAreCode : Type 0
FormsAreCode = (keep : Bool) (p : Checked) → IsBounded p → IsResolved p → BodyHasLines p.body → IsCode (form_of keep p)
