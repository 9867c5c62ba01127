-- A program without the places at which it stands in a text, and what is read back from its spelling.
use Rattle.std.specs.Prelude.{◌≡◌, ◌≤◌, map, length}
use Rattle.pram_tokens.specs.declared.token.Location.{Location}
use Rattle.pram_tokens.specs.declared.token.Name.{Name}
use Rattle.pram_tokens.specs.declared.token.Numeral.{Numeral}
use Rattle.pram_trees.specs.declared.tree.Declaration.{Declaration}
use Rattle.pram_trees.specs.declared.tree.Declaration.TheVariants as d
use Rattle.pram_trees.specs.declared.tree.Expr.{Expr}
use Rattle.pram_trees.specs.declared.tree.Expr.TheVariants as e
use Rattle.pram_trees.specs.declared.tree.Expr.TheOpen.{Expr-F}
use Rattle.pram_trees.specs.declared.tree.Expr.TheFolds.{fold-Expr}
use Rattle.pram_trees.specs.declared.tree.Stmt.{Stmt}
use Rattle.pram_trees.specs.declared.tree.Stmt.TheVariants as s
use Rattle.pram_trees.specs.declared.tree.Stmt.TheOpen.{Stmt-F}
use Rattle.pram_trees.specs.declared.tree.Stmt.TheFolds.{fold-Stmt}
use Rattle.pram_trees.specs.Program.{ProgramTree, IsTree, limit, program_tokens}
use Rattle.pram_tokens.specs.Scanning.{longest}
use Rattle.pram_printer.specs.Spelling.{spelling}
use Rattle.pram_trees.specs.Text.{IsTextOf}

-- one place for everything
abbrev pub start : Location
start = record { offset = 0; line = 1 }

abbrev pub bare_name : Name → Name
bare_name x = record { text = x.text; location = start }

abbrev pub bare_number : Numeral → Numeral
bare_number n = record { value = n.value; location = start }

-- a node of an expression at that place, whose operands stand there already
abbrev pub bare_node : Expr-F Expr → Expr
bare_node (Expr-F.Number n) = e.Number (bare_number n)
bare_node (Expr-F.Name x) = e.Name (bare_name x)
bare_node (Expr-F.Element x i) = e.Element (bare_name x) i
bare_node (Expr-F.Paren i) = e.Paren i
bare_node (Expr-F.Prefix p i) = e.Prefix p i
bare_node (Expr-F.Chain first rest) = e.Chain first rest

unfoldable pub bare_expr : Expr → Expr
bare_expr = fold-Expr Expr bare_node

-- a statement at that place, whose inner statements stand there already
abbrev pub bare_step : Stmt-F Stmt → Stmt
bare_step (Stmt-F.Assign x v) = s.Assign (bare_name x) (bare_expr v)
bare_step (Stmt-F.AssignElement x i v) = s.AssignElement (bare_name x) (bare_expr i) (bare_expr v)
bare_step (Stmt-F.Print at v) = s.Print start (bare_expr v)
bare_step (Stmt-F.While at c body) = s.While start (bare_expr c) body
bare_step (Stmt-F.If at c body other) = s.If start (bare_expr c) body other
bare_step (Stmt-F.For at x low high body) = s.For start (bare_name x) (bare_expr low) (bare_expr high) body
bare_step (Stmt-F.Pardo at low x high locals body) =
    s.Pardo start (bare_expr low) (bare_name x) (bare_expr high) (map bare_name locals) body

unfoldable pub bare_statement : Stmt → Stmt
bare_statement = fold-Stmt Stmt bare_step

abbrev pub bare_declaration : Declaration → Declaration
bare_declaration (d.Cell x) = d.Cell (bare_name x)
bare_declaration (d.Array x low high) = d.Array (bare_name x) (bare_number low) (bare_number high)
bare_declaration (d.Uniform x) = d.Uniform (bare_name x)

-- the program with each of its locations put to the start of a text
abbrev pub without_locations : ProgramTree → ProgramTree
without_locations p = record {
  rule = p.rule;
  rule_location = start;
  procs = bare_number p.procs;
  declarations = map bare_declaration p.declarations;
  body = map bare_statement p.body;
}

-- The spelling of a tree is a text, of a tree that differs from it in its locations alone.
pub record IsReadBack (p : ProgramTree) : Type 0 where
  pub again : ProgramTree
  pub text : IsTextOf (spelling (program_tokens p)) again
  pub same : without_locations again ≡ without_locations p

-- Each tree of the grammar whose spelling is not too long is read back from it.
abbrev pub PrintingReadsBack : Type 0
PrintingReadsBack = (p : ProgramTree) → IsTree limit limit p → length (spelling (program_tokens p)) ≤ longest → IsReadBack p
