use Rattle.plain_form.proofs.StatementLengths as lengths
use Rattle.plain_form.proofs.TextWords.{words_in_text, code_fits}
use Rattle.plain_form.proofs.form_laws.code_is_short.Goals as goal

pub returns : goal.returns
returns c = record { short = lengths.code_is_short; in_text = words_in_text; fits = code_fits }
