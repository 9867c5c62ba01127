-- What a checked program is, and which tree it is of.
use Rattle.std.specs.Prelude.{◌≡◌, ℕ, List, pos}
use Rattle.pram_model.specs.declared.rule.Rule.{Rule}
use Rattle.pram_model.specs.Layout.{SharedEntry}
use Rattle.pram_trees.specs.Program.{ProgramTree}
use Rattle.pram_names.specs.declared.body.Statement.{Statement}
use Rattle.pram_names.specs.Scope.{globals, shared_entries, uniform_count}
use Rattle.pram_names.specs.Resolved.{SayStatements}

-- a program whose names are resolved: its tree, its rule, its most processors, its shared declarations, the number of
-- its uniform variables, and its body
pub record Checked : Type 0 where
  pub tree : ProgramTree
  pub rule : Rule
  pub procs : ℕ
  pub layout : List SharedEntry
  pub uniforms : ℕ
  pub body : List Statement

-- a program says what its tree says
pub record IsResolved (p : Checked) : Type 0 where
  pub rule : p.rule ≡ p.tree.rule
  pub procs : pos p.procs ≡ p.tree.procs.value
  pub layout : p.layout ≡ shared_entries p.tree.declarations
  pub uniforms : p.uniforms ≡ uniform_count p.tree.declarations
  pub body : SayStatements (globals p.tree.declarations) p.tree.body p.body

-- the program of these parts, under the rule of its tree
abbrev pub checked : ProgramTree → ℕ → List SharedEntry → ℕ → List Statement → Checked
checked t procs layout uniforms body =
    record { tree = t; rule = t.rule; procs = procs; layout = layout; uniforms = uniforms; body = body }
