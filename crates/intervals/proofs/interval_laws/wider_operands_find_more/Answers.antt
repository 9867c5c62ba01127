use Rattle.intervals.proofs.Wider.{found_wider}
use Rattle.intervals.proofs.interval_laws.wider_operands_find_more.Goals as goal

pub returns : goal.returns
returns c operator a b wide_a wide_b r s m n v w = found_wider a b wide_a wide_b v w operator r s m n
