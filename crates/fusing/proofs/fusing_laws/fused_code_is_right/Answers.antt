use Rattle.fusing.proofs.Fused.{all_fuse}
use Rattle.fusing.proofs.fusing_laws.fused_code_is_right.Goals as goal

pub returns : goal.returns
returns c = record { right = all_fuse }
