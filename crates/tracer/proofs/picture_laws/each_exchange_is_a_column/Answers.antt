use Rattle.tracer.proofs.Standing.{column_stands}
use Rattle.tracer.proofs.picture_laws.each_exchange_is_a_column.Goals as goal

pub returns : goal.returns
returns c = column_stands
