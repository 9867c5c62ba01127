use Rattle.std.proofs.Common.{ℕ, map, drop}
use Rattle.address_map.specs.Lawful.{Shape}
use Rattle.combining.specs.Alone.{AscendAll}
use Rattle.combining.proofs.alone.ascend_all.Given as goal

abbrev pub invariant-loop-words : goal.invariant-loop-words
invariant-loop-words g l =
    let rule = g.R.WriteRule.rule l.rule in
    (m : Shape) (j : ℕ) → AscendAll rule m j l.least (map (λ x. x.now) (drop l.words-index l.columns))
    → AscendAll rule m j 0 (map (λ x. x.now) l.columns)
