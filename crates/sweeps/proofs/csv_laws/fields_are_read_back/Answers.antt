use Rattle.sweeps.proofs.ReadBack.{read_back}
use Rattle.sweeps.proofs.csv_laws.fields_are_read_back.Goals as goal

pub returns : goal.returns
returns c = read_back
