use Rattle.std.proofs.Common.{◌≤◌, ◌^◌, map, drop}
use Rattle.combining.specs.Alone.{AscendWords}
use Rattle.combining.proofs.apart.ascend_words_all.Given as goal

abbrev pub invariant-loop-words : goal.invariant-loop-words
invariant-loop-words l = record {
  ascend : AscendWords l.least (map (λ x. x.now) (drop l.words-index l.columns)) → AscendWords 0 (map (λ x. x.now) l.columns);
  single : l.least ≤ 2 ^ 23;
}
