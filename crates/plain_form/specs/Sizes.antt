-- How large a statement is in a text, and that its code is at most four times as long.
use Rattle.std.specs.Prelude.{ℕ, ◌+◌, ◌*◌, ◌≤◌, Bool, List, [], ◌∷◌, length}
use Rattle.pram_names.specs.declared.body.Step as step
use Rattle.pram_names.specs.declared.body.Step.{Step, Row_of-Step, end_of-Step, more_of-Step}
use Rattle.pram_names.specs.declared.body.Statement.{Statement, Assign, Print, While', If', For', Pardo, Row_of-Statement, end_of-Statement}
use Rattle.pram_names.specs.declared.body.Statement.{more_of-Statement}
use Rattle.pram_trees.specs.Program.{program_tokens}
use Rattle.pram_names.specs.Breaches.{most_tokens}
use Rattle.superstep_instructions.specs.Limits.{most_instructions}
use Rattle.pram_check.specs.Bounded.{nodes, inner_target_nodes, target_nodes}
use Rattle.pram_check.specs.Checked.{Checked, IsResolved}
use Rattle.plain_form.specs.PlainForm.{instructions_of}

abbrev mutual
  -- the words and signs of a statement inside pardo, but for brackets and `else`
  pub step_words : Step → ℕ
  step_words (step.Assign here x e) = 2 + inner_target_nodes x + nodes e
  step_words (step.If' here e q then_part r else_part) = 3 + nodes e + part_step_words then_part + part_step_words else_part
  step_words (step.While' here e q body) = 3 + nodes e + part_step_words body

  pub part_step_words : {k : _} → Row_of-Step k → ℕ
  part_step_words end_of-Step = 0
  part_step_words (more_of-Step s ss) = step_words s + part_step_words ss

-- the same of the statements of a list
abbrev pub steps_words : List Step → ℕ
steps_words [] = 0
steps_words (s ∷ ss) = step_words s + steps_words ss

abbrev mutual
  -- the words and signs of a statement, but for brackets, `else` and the declarations of locals
  pub words : Statement → ℕ
  words (Assign here x e) = 2 + target_nodes x + nodes e
  words (Print here e) = 2 + nodes e
  words (While' here e q body) = 3 + nodes e + part_words body
  words (If' here e q then_part r else_part) = 3 + nodes e + part_words then_part + part_words else_part
  words (For' here x e f q body) = 6 + nodes e + nodes f + part_words body
  words (Pardo here e f locals body) = 6 + nodes e + nodes f + steps_words body.items

  pub part_words : {k : _} → Row_of-Statement k → ℕ
  part_words end_of-Statement = 0
  part_words (more_of-Statement s ss) = words s + part_words ss

-- the same of the statements of a list
abbrev pub body_words : List Statement → ℕ
body_words [] = 0
body_words (s ∷ ss) = words s + body_words ss

-- at most four instructions a word, and the last one
abbrev pub CodeIsShort : Type 0
CodeIsShort = (keep : Bool) (p : Checked) → length (instructions_of keep p) ≤ 4 * body_words p.body + 1

-- these words, and eight around them, are in the text that the program is of
abbrev pub WordsAreInTheText : Type 0
WordsAreInTheText = (p : Checked) → IsResolved p → body_words p.body + 8 ≤ length (program_tokens p.tree)

-- the code of a program with few enough tokens is within the limit of a listing
abbrev pub CodeFits : Type 0
CodeFits = (keep : Bool) (p : Checked) → IsResolved p → length (program_tokens p.tree) ≤ most_tokens →
    length (instructions_of keep p) ≤ most_instructions
