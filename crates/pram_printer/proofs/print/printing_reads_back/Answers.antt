use Rattle.pram_printer.proofs.RoundTrip.{reads_back}
use Rattle.pram_printer.proofs.print.printing_reads_back.Goals as goal

pub returns : goal.returns
returns c = record { reads_back = reads_back }
