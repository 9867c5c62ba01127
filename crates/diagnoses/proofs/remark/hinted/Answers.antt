use Rattle.std.proofs.Common.{subst}
use Rattle.help.specs.Hints.{IsHint}
use Rattle.diagnoses.specs.Remarks.{Expects}
use Rattle.diagnoses.proofs.remark.hinted.Goals as goal

pub returns : goal.returns
returns c =
    Expects c.args.found.items c.in_ok-hint.hint c.requires.choices
    (subst (λ f. IsHint c.args.text.now c.args.at f c.in_ok-hint.hint) c.deref.ensures.value c.in_ok-hint.ensures)
