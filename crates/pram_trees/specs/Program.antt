-- Whole programs: their tree, its tokens, and which trees stand in the grammar.
use Rattle.std.specs.Prelude.{◌≡◌, ℕ, List, [], ◌∷◌, ◌++◌}
use Rattle.pram_model.specs.declared.rule.Rule.{Rule}
use Rattle.pram_model.specs.Rules.{rule_word}
use Rattle.pram_tokens.specs.declared.token.Location.{Location}
use Rattle.pram_tokens.specs.declared.token.Mark.TheVariants as mark
use Rattle.pram_tokens.specs.declared.token.Numeral.{Numeral}
use Rattle.pram_tokens.specs.declared.token.Token.{Token}
use Rattle.pram_tokens.specs.declared.token.Token.TheVariants as token
use Rattle.pram_trees.specs.declared.tree.Declaration.{Declaration}
use Rattle.pram_trees.specs.declared.tree.Declaration.TheVariants as d
use Rattle.pram_trees.specs.declared.tree.Stmt.{Stmt}
use Rattle.pram_trees.specs.Blocks.{block_tokens, IsBlock}
use Rattle.pram_tokens.specs.Tokens.{AreReal}

-- What a program says: its rule and where the rule's word stands, its number of processors, its declarations and its statements.
pub record ProgramTree : Type 0 where
  pub rule : Rule
  pub rule_location : Location
  pub procs : Numeral
  pub declarations : List Declaration
  pub body : List Stmt

-- the program of these parts
abbrev pub tree_of : Rule → Location → Numeral → List Declaration → List Stmt → ProgramTree
tree_of r at n xs statements = record { rule = r; rule_location = at; procs = n; declarations = xs; body = statements }

-- a rule's word, which is a name everywhere else
abbrev pub rule_token : Rule → Location → Token
rule_token r at = token.Name (record { text = rule_word r; location = at })

-- the tokens of a declaration
abbrev pub declaration_tokens : Declaration → List Token
-- "shared" NAME ";"
declaration_tokens (d.Cell x) = token.Mark mark.Shared ∷ (token.Name x ∷ (token.Mark mark.Semicolon ∷ []))
-- "shared" NAME "[" NUMBER ".." NUMBER "]" ";"
declaration_tokens (d.Array x low high) =
    token.Mark mark.Shared ∷ (token.Name x ∷ (token.Mark mark.OpenBracket ∷ (token.Number low ∷ (token.Mark mark.Range
    ∷ (token.Number high ∷ (token.Mark mark.CloseBracket ∷ (token.Mark mark.Semicolon ∷ [])))))))
-- "var" NAME ";"
declaration_tokens (d.Uniform x) = token.Mark mark.Var ∷ (token.Name x ∷ (token.Mark mark.Semicolon ∷ []))

-- decl*
abbrev pub declarations_tokens : List Declaration → List Token
declarations_tokens [] = []
declarations_tokens (x ∷ rest) = declaration_tokens x ++ declarations_tokens rest

-- "rule" RULE ";" "procs" NUMBER ";", and what stands behind them
abbrev pub header_tokens : Rule → Location → Numeral → List Token → List Token
header_tokens r at procs rest =
    token.Mark mark.Rule ∷ (rule_token r at
    ∷ (token.Mark mark.Semicolon ∷ (token.Mark mark.Procs ∷ (token.Number procs ∷ (token.Mark mark.Semicolon ∷ rest)))))

-- program := "rule" RULE ";" "procs" NUMBER ";" decl* "begin" stmt* "end"
abbrev pub program_tokens : ProgramTree → List Token
program_tokens p =
    header_tokens p.rule p.rule_location p.procs
    (declarations_tokens p.declarations ++ (token.Mark mark.Begin ∷ (block_tokens p.body ++ token.Mark mark.End ∷ [])))

-- A tree of the grammar, of block nesting at most b and expression nesting at most d, whose names are names and whose numbers are numbers.
pub record IsTree (b d : ℕ) (p : ProgramTree) : Type 0 where
  pub is_block : IsBlock b d p.body
  pub are_real : AreReal (program_tokens p)

-- the greatest nesting, of blocks and of expressions
abbrev pub limit : ℕ
limit = 64

-- the tokens of such a tree
abbrev pub IsProgram : (b d : ℕ) → List Token → Type 0
IsProgram b d ts = (p : ProgramTree) × IsTree b d p × (ts ≡ program_tokens p)

-- some program of that nesting begins with these tokens
abbrev pub Begins : (b d : ℕ) → List Token → Type 0
Begins b d front = (more : List Token) × IsProgram b d (front ++ more)
