use Rattle.help.proofs.OneHint.{one_hint}
use Rattle.help.proofs.hint_laws.a_place_has_one_hint.Goals as goal

pub returns : goal.returns
returns c = one_hint
