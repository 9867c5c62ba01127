use Rattle.renaming.proofs.Packs.{none_unnamed}
use Rattle.renaming.proofs.packing_laws.none_is_there_unnamed.Goals as goal

pub returns : goal.returns
returns c = none_unnamed
