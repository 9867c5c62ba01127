-- A program under another rule of concurrent access.
use Rattle.pram_model.specs.declared.rule.Rule.{Rule}
use Rattle.pram_trees.specs.Program.{ProgramTree}

-- the same tree but for the rule
abbrev pub tree_under : Rule → ProgramTree → ProgramTree
tree_under r t = record t { rule = r }
