use Rattle.std.proofs.Common.{◌∙◌, ap, map}
use Rattle.help.specs.InScope.{known_is}
use Rattle.diagnoses.proofs.Fitted.{by_cut, no_cut}
use Rattle.diagnoses.proofs.Remarked.{if_ok}
use Rattle.diagnoses.proofs.fitting.fitting_names.Goals as goal

pub returns-in_ok-blocks-in-Ok : goal.returns-in_ok-blocks-in-Ok
returns-in_ok-blocks-in-Ok c =
    if_ok c.keep.result _ _
    (λ kept is. is ∙ by_cut _ c.args.at (map known_is c.args.names.now) c.in-Ok.tokens.items _ c.in-Ok.offsets.items
    c.tokens_before-n.result _ _ _ _
    c.in-Ok.ensures.cut c.deref-in-Ok-4.ensures.value c.deref-in-Ok-5.ensures.value
    (rw c.deref.ensures.value at c.tokens_before-n.ensures.value) (rw c.deref-in-Ok-3.ensures.value at c.role_of.ensures)
    c.is_inside.ensures (rw (c.deref-in-Ok.ensures.value, c.deref-in-Ok-2.ensures.value) at c.in_ok-blocks-in-Ok.ensures))
    c.keep.ensures

pub returns-in-Err-BadToken : goal.returns-in-Err-BadToken
returns-in-Err-BadToken c =
    let e = c.in-Err-BadToken in
    ap (map known_is) c.new.ensures.items ∙ no_cut _ c.tokenize.result e.field-0 e.field-0-0 _ c.args.at (map known_is c.args.names.now)
    e.is e.field-0-is c.tokenize.ensures.cut
