-- Names that hold in the body of a pardo alone: its index and its locals.
use Rattle.std.specs.Prelude.{ℕ, List, [], ◌∷◌, map, Option, Some, None}
use Rattle.std.specs.Option.{option_or}
use Rattle.pram_tokens.specs.declared.token.Name.{Name}
use Rattle.pram_trees.specs.declared.tree.Stmt.{Stmt}
use Rattle.pram_trees.specs.declared.tree.Stmt.TheOpen.{Stmt-F}
use Rattle.pram_trees.specs.declared.tree.Stmt.TheFolds.{fold-Stmt}
use Rattle.pram_trees.specs.Program.{ProgramTree}
use Rattle.help.specs.declared.known.Sort.TheVariants as sort
use Rattle.help.specs.InScope.{Known, as_declared}
use Rattle.help.specs.Nearness.{named}

-- the index and the locals of a pardo
abbrev pub bound_by : Name → List Name → List Known
bound_by index locals = as_declared index sort.Index ∷ map (λ x. as_declared x sort.Local) locals

-- the one of them that is spelled so, and else the one that was found before
abbrev pub pardo_bound : List ℕ → Name → List Name → Option Known → Option Known
pardo_bound word index locals found = option_or (named (bound_by index locals) word) found

-- the name of the last pardo so far that is spelled so, by the one that was found before
abbrev pub Seeking : Type 0
Seeking = Option Known → Option Known

abbrev pub found_all : List Seeking → Seeking
found_all [] found = found
found_all (f ∷ fs) found = found_all fs (f found)

abbrev pub found_else : Option (List Seeking) → Seeking
found_else None found = found
found_else (Some fs) found = found_all fs found

abbrev pub node_bound : List ℕ → Stmt-F Seeking → Seeking
node_bound word (Stmt-F.Assign x v) found = found
node_bound word (Stmt-F.AssignElement x i v) found = found
node_bound word (Stmt-F.Print l v) found = found
node_bound word (Stmt-F.While l e body) found = found_all body found
node_bound word (Stmt-F.If l e body other) found = found_else other (found_all body found)
node_bound word (Stmt-F.For l x low high body) found = found_all body found
node_bound word (Stmt-F.Pardo l low x high locals body) found = found_all body (pardo_bound word x locals found)

unfoldable pub statement_bound : List ℕ → Stmt → Seeking
statement_bound word = fold-Stmt Seeking (node_bound word)

abbrev pub block_bound : List ℕ → List Stmt → Seeking
block_bound word [] found = found
block_bound word (s ∷ rest) found = block_bound word rest (statement_bound word s found)

abbrev pub else_bound : List ℕ → Option (List Stmt) → Seeking
else_bound word None found = found
else_bound word (Some body) found = block_bound word body found

-- the index or the local of that spelling in a program, of the last pardo that has one
abbrev pub bound_in : ProgramTree → List ℕ → Option Known
bound_in tree word = block_bound word tree.body None
