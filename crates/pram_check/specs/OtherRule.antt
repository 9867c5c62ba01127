-- A checked program under another rule of concurrent access.
use Rattle.pram_model.specs.declared.rule.Rule.{Rule}
use Rattle.pram_trees.specs.OtherRule.{tree_under}
use Rattle.pram_check.specs.Checked.{Checked}

-- the same program but for the rule, in its tree too
abbrev pub under : Rule → Checked → Checked
under r p = record p { tree = tree_under r p.tree; rule = r }
