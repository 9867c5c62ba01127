use Rattle.bsp_verify.proofs.RunLemmas.{reads_have_one_side, sent_reads_have_one_side}
use Rattle.bsp_verify.proofs.runs_law.reads_have_one_side.Goals as goal

pub returns : goal.returns
returns c = record { moments = reads_have_one_side; sent = sent_reads_have_one_side }
