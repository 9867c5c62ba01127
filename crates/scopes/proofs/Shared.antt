-- A program may be shared among threads: what it is made of may, its tree and what its names stand for.
use denote.Param.Send.{IsSync, sendable, view_sync}
use denote.Param.SendFields.{declared_sync}
use Rattle.std.proofs.Crossing.{crosses}
use Rattle.pram_model.proofs.rule.Rule.TheSendSync as rule
use Rattle.pram_tokens.proofs.token.Binary.TheSendSync as binary
use Rattle.pram_tokens.proofs.token.Location.TheSendSync as location
use Rattle.pram_tokens.proofs.token.Name.TheSendSync as name
use Rattle.pram_tokens.proofs.token.Numeral.TheSendSync as numeral
use Rattle.pram_trees.proofs.tree.Declaration.TheSendSync as declaration
use Rattle.pram_trees.proofs.tree.Expr.TheLaws.TheKnot as expr
use Rattle.pram_trees.proofs.tree.Prefix.TheSendSync as prefix
use Rattle.pram_trees.proofs.tree.Stmt.TheLaws.TheKnot as stmt
use Rattle.pram_names.proofs.body.Expression.TheLaws.TheKnot as expression
use Rattle.pram_names.proofs.body.Step.TheLaws.TheKnot as step
use Rattle.pram_names.proofs.body.Statement.TheLaws.TheKnot as statement
use Rattle.pram_trees.specs.contracts.tree.Tree as tree
use Rattle.pram_names.specs.contracts.body.Statement as body
use Rattle.pram_check.specs.contracts.resolve.Parts as parts
use Rattle.pram_check.specs.contracts.program.Program.{the_row}
use Rattle.pram_check.specs.contracts.program.Program.TheInside as inside
use Rattle.scopes.specs.contracts.specification.Specification as specification

tree_sync : IsSync tree.the_row
tree_sync =
    search (
      rule.the_field_sync,
      binary.the_sync,
      location.the_field_sync,
      name.the_field_sync,
      name.the_sync,
      numeral.the_field_sync,
      declaration.the_sync,
      prefix.the_field_sync,
      crosses,
      expr.crosses,
      stmt.crosses,
      sendable,
    ) depth 60 fits 20000

body_sync : IsSync body.the_row
body_sync = search (crosses, expression.crosses, step.crosses, statement.crosses, sendable) depth 60 fits 20000

parts_sync : IsSync parts.the_row
parts_sync = search (crosses, body_sync, sendable) depth 60 fits 20000

inside_sync : IsSync inside.the_row
inside_sync = declared_sync inside.the_type (tree_sync, (parts_sync, tt))

pub program_sync : IsSync the_row
program_sync = view_sync _ _ _ _ _ inside_sync

pub specification_sync : IsSync specification.the_row
specification_sync = search (crosses, program_sync, sendable) depth 60 fits 20000
