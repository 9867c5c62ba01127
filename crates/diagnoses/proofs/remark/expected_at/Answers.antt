use Rattle.diagnoses.specs.Remarks.{TooLong}
use Rattle.diagnoses.proofs.remark.expected_at.Goals as goal

pub returns-then-text-gt-LONGEST : goal.returns-then-text-gt-LONGEST
returns-then-text-gt-LONGEST c = TooLong c.if-text-gt-LONGEST.true
