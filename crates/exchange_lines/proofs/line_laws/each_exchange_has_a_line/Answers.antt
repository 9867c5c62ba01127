use Rattle.exchange_lines.proofs.Workers.{each_has_one}
use Rattle.exchange_lines.proofs.line_laws.each_exchange_has_a_line.Goals as goal

pub returns : goal.returns
returns c = each_has_one
