use Rattle.worker_bank.proofs.InstructionReportLemmas.{first_faults_are_told as told}
use Rattle.worker_bank.proofs.bank_laws.first_faults_are_told.Goals as goal

pub returns : goal.returns
returns c = told
