use Rattle.fusing.proofs.Fused.{has_one, has_any}
use Rattle.fusing.proofs.fusing_laws.one_code_is_fused.Goals as goal

pub returns : goal.returns
returns c = record { one = has_one; any = has_any }
