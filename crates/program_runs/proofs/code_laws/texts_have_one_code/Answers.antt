use Rattle.program_runs.proofs.OneCode.{texts_have_one_code, texts_have_one_list, texts_have_one_reserve}
use Rattle.program_runs.proofs.code_laws.texts_have_one_code.Goals as goal

pub returns : goal.returns
returns c = record { code = texts_have_one_code; exchanges = texts_have_one_list; reserve = texts_have_one_reserve }
