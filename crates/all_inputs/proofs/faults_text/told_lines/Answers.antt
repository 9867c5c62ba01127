use Rattle.std.proofs.Common.{sym}
use Rattle.std.proofs.lemmas.List.{take_all}
use Rattle.all_inputs.proofs.faults_text.told_lines.Goals as goal

pub returns-else-entries-gt-MOST_LINES : goal.returns-else-entries-gt-MOST_LINES
returns-else-entries-gt-MOST_LINES c = sym (take_all 100 c.args.entries.now c.if-entries-gt-MOST_LINES.false)
