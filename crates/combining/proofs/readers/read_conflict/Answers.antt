use Rattle.std.proofs.Common.{map}
use Rattle.combining.proofs.WordsApart.{none_shared}
use Rattle.combining.proofs.readers.read_conflict.Goals as goal

pub returns-then-ascend_words_all-clause-least : goal.returns-then-ascend_words_all-clause-least
returns-then-ascend_words_all-clause-least g c =
    none_shared (g.M.AddressMap.shape c.args.map.now) c.args.part (map (λ x. x.now) c.args.columns.now) c.args.k
    (c.ascend_words_all.ensures c.if-ascend_words_all.true)
