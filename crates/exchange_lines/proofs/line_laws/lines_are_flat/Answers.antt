use Rattle.exchange_lines.proofs.Listed.{lines_are_flat}
use Rattle.exchange_lines.proofs.line_laws.lines_are_flat.Goals as goal

pub returns : goal.returns
returns c = lines_are_flat
