use Rattle.sized_texts.proofs.Greatest.{root_is}
use Rattle.sized_texts.proofs.operation.root.Goals as goal

pub returns : goal.returns
returns c = root_is _ _ c.isqrt.ensures.square_le c.isqrt.ensures.next_square_gt
