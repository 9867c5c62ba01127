use Rattle.renaming.proofs.Packs.{runs_alike, well_formed}
use Rattle.renaming.proofs.packing_laws.packed_code_is_right.Goals as goal

pub returns : goal.returns
returns c = record { formed = well_formed; alike = runs_alike }
