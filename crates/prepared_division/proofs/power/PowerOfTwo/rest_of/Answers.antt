use Rattle.std.proofs.Common.{ap, ◌∙◌, bit_and}
use Rattle.std.proofs.lemmas.Nat.{and_mask}
use Rattle.prepared_division.proofs.power.PowerOfTwo.rest_of.Goals as goal

pub returns : goal.returns
returns c = ap (bit_and c.args.number) c.args.self.low ∙ and_mask c.args.number c.args.self.shift
