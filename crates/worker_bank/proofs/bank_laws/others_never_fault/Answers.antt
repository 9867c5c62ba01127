use Rattle.worker_bank.proofs.InstructionReportLemmas.{others_never_fault as never}
use Rattle.worker_bank.proofs.bank_laws.others_never_fault.Goals as goal

pub returns : goal.returns
returns c = never
