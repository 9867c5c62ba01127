-- The text of lines from one on.
use Rattle.std.proofs.Common.{◌≡◌, ℕ, ◌+◌, ◌<◌, List, ◌++◌, drop, length, get_or, ap}
use Rattle.std.proofs.lemmas.List.{drop_more}
use Rattle.costs.specs.declared.line_cost.LineCost.{LineCost}
use Rattle.costs.specs.CostText.{line_text, lines_text}

pub lines_at : (cs : List LineCost) (i : ℕ) (d : LineCost) → i < length cs →
    lines_text (drop i cs) ≡ line_text (get_or cs i d) ++ lines_text (drop (i + 1) cs)
lines_at cs i d within = ap lines_text (drop_more cs i d within)
