use Rattle.diagnoses.proofs.Fitted.{role_by_cut, role_no_cut}
use Rattle.diagnoses.proofs.fitting.role_at.Goals as goal

pub returns-in-Ok : goal.returns-in-Ok
returns-in-Ok c =
    role_by_cut _ c.args.at c.in-Ok.tokens.items _ c.in-Ok.offsets.items c.tokens_before.result c.role_of.result
    c.in-Ok.ensures.cut c.deref.ensures.value (rw c.deref-in-Ok.ensures.value at c.tokens_before.ensures.value) c.role_of.ensures

pub returns-in-Err-BadToken : goal.returns-in-Err-BadToken
returns-in-Err-BadToken c =
    let e = c.in-Err-BadToken in
    role_no_cut _ c.tokenize.result e.field-0 e.field-0-0 _ c.args.at e.is e.field-0-is c.tokenize.ensures.cut
