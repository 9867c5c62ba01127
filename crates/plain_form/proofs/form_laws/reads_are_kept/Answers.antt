use Rattle.plain_form.proofs.KeptReads.{reads_of}
use Rattle.plain_form.proofs.form_laws.reads_are_kept.Goals as goal

pub returns : goal.returns
returns c = record { reads = reads_of }
