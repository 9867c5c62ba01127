-- The code of statements outside pardo. The uniform registers from `free` on are free.
use Rattle.std.specs.Prelude.{ℕ, ◌+◌, Bool, true, false, List, [], ◌∷◌, ◌++◌, length}
use Rattle.superstep_instructions.specs.declared.instr.Side.TheVariants.{Uniform}
use Rattle.superstep_instructions.specs.declared.instr.Instr.{Instr}
use Rattle.pram_names.specs.declared.body.Target.{Target}
use Rattle.pram_names.specs.declared.body.Target.TheVariants as target
use Rattle.pram_names.specs.declared.body.Statement.{Statement, Assign, Print, While', If', For', Pardo, Row_of-Statement, end_of-Statement}
use Rattle.pram_names.specs.declared.body.Statement.{more_of-Statement}
use Rattle.plain_form.specs.Registers.{variable, behind_turns, behind_locals}
use Rattle.plain_form.specs.Formulas.{Formula, Zero, Pair, formula_of}
use Rattle.plain_form.specs.Shapes.{still, gets, writes, prints, sent, while_code, if_code, for_code, pardo_code}
use Rattle.plain_form.specs.Inside.{steps_code, steps_left}

abbrev pub assign : Bool → Bool → ℕ → ℕ → Target → Formula → List Instr
assign keep held line free (target.Uniform x) f = gets keep held line Uniform free f (variable x)
assign keep held line free (target.Cell a) f = writes keep held line Uniform free a Zero f
assign keep held line free (target.Element a i) f = writes keep held line Uniform free a (formula_of i) f

-- whether a write is held behind an assignment
abbrev pub assign_left : Bool → Target → Formula → Bool
assign_left held (target.Uniform x) f = still held f
assign_left held (target.Cell a) f = true
assign_left held (target.Element a i) f = true

-- whether a write is held behind a statement
abbrev pub left : Bool → Statement → Bool
left held (Assign here x e) = assign_left held x (formula_of e)
left held (Print here e) = still held (formula_of e)
left held (While' here e q body) = false
left held (If' here e q then_part r else_part) = false
left held (For' here x e f q body) = false
left held (Pardo here e f locals body) = steps_left (still held (Pair (formula_of e) (formula_of f))) body.items

abbrev pub part_left : Bool → {n : _} → Row_of-Statement n → Bool
part_left held end_of-Statement = held
part_left held (more_of-Statement s ss) = part_left (left held s) ss

-- the same for the statements of a list
abbrev pub statements_left : Bool → List Statement → Bool
statements_left held [] = held
statements_left held (s ∷ ss) = statements_left (left held s) ss

-- whether an else part has statements
abbrev pub has_part : {n : _} → Row_of-Statement n → Bool
has_part end_of-Statement = false
has_part (more_of-Statement s ss) = true

abbrev mutual
  -- the code of a statement, from where it begins on
  pub code : Bool → (free start : ℕ) → Bool → Statement → List Instr
  code keep free start held (Assign here x e) = assign keep held here.line free x (formula_of e)
  code keep free start held (Print here e) = prints keep held here.line free (formula_of e)
  code keep free start held (While' here e q body) =
      while_code keep held start here.line free (formula_of e) (λ start. sent (part_code keep free start false body) (part_left false body))
  code keep free start held (If' here e q then_part r else_part) =
      if_code keep held start here.line free (formula_of e)
      (λ start. sent (part_code keep free start false then_part) (part_left false then_part))
      (has_part else_part) (λ start. sent (part_code keep free start false else_part) (part_left false else_part))
  code keep free start held (For' here x e f q body) =
      for_code keep held start here.line free x (formula_of e) (formula_of f)
      (λ start. sent (part_code keep (behind_turns free) start false body) (part_left false body))
  code keep free start held (Pardo here e f locals body) =
      pardo_code keep held start here.line free (formula_of e) (formula_of f)
      (λ start. steps_code (record { keep = keep; vote = free }) (behind_locals locals) start
      (still held (Pair (formula_of e) (formula_of f))) body.items)

  pub part_code : Bool → (free start : ℕ) → Bool → {n : _} → Row_of-Statement n → List Instr
  part_code keep free start held end_of-Statement = []
  part_code keep free start held (more_of-Statement s ss) =
      let first = code keep free start held s in first ++ part_code keep free (start + length first) (left held s) ss

-- the same for the statements of a list
abbrev pub statements_code : Bool → (free start : ℕ) → Bool → List Statement → List Instr
statements_code keep free start held [] = []
statements_code keep free start held (s ∷ ss) =
    let first = code keep free start held s in first ++ statements_code keep free (start + length first) (left held s) ss
