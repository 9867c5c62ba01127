use Rattle.prepared_division.proofs.Powers.{shifted_signed}
use Rattle.prepared_division.proofs.power.PowerOfTwo.value.Goals as goal

pub returns : goal.returns
returns c = shifted_signed c.args.self.shift c.args.self.few
