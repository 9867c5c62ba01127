-- What `check` answers.
use Rattle.std.specs.Prelude.{◌≡◌, pos}
use Rattle.pram_trees.specs.Program.{ProgramTree}
use Rattle.pram_check.specs.declared.resolve.Parts.{Parts}
use Rattle.pram_names.specs.Scope.{globals, shared_entries, uniform_count}
use Rattle.pram_names.specs.Resolved.{SayStatements}

-- the parts of a program that says what its tree says
pub record ArePartsOf (t : ProgramTree) (p : Parts) : Type 0 where
  pub procs : pos p.procs ≡ t.procs.value
  pub layout : p.layout ≡ shared_entries t.declarations
  pub uniforms : p.uniforms ≡ uniform_count t.declarations
  pub body : SayStatements (globals t.declarations) t.body p.body.items
