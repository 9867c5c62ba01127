use Rattle.std.proofs.Common.{map}
use Rattle.combining.proofs.WordsApart.{none_shared}
use Rattle.combining.proofs.readers.asks_are_apart.Goals as goal

pub returns : goal.returns
returns c apart m part k = none_shared m part (map (λ x. x.now) c.args.columns.now) k (c.ascend_words_all.ensures apart)
