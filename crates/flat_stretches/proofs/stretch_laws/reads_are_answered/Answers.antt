use Rattle.flat_stretches.proofs.ReadLemmas as reads
use Rattle.flat_stretches.proofs.stretch_laws.reads_are_answered.Goals as goal

pub returns : goal.returns
returns c = record {
  answered = reads.reads_are_answered;
  arrive = reads.reads_arrive;
  others = reads.others_stay;
  none = reads.no_reads_stay;
}
