use Rattle.std.proofs.Common.{Err, subst}
use Rattle.pram_trees.specs.Text.{IsAnswer}
use Rattle.diagnoses.specs.Remarks.{OfNone}
use Rattle.diagnoses.proofs.Remarked.{by_tree, if_ok}
use Rattle.diagnoses.proofs.remark.remark_of.Goals as goal

pub returns-in-Ok : goal.returns-in-Ok
returns-in-Ok c =
    if_ok c.remark_in.result _ _ (λ r is. by_tree c.args.text.now c.args.breach _ _ c.in-Ok.ensures.found is) c.remark_in.ensures

pub returns-in-Err-NotAscii : goal.returns-in-Err-NotAscii
returns-in-Err-NotAscii c =
    let e = c.in-Err-NotAscii in OfNone (λ tree is. subst (λ f. IsAnswer tree (Err f)) e.field-0-is (e.ensures.only tree is))

pub returns-in-Err-TextTooLong : goal.returns-in-Err-TextTooLong
returns-in-Err-TextTooLong c =
    let e = c.in-Err-TextTooLong in OfNone (λ tree is. subst (λ f. IsAnswer tree (Err f)) e.field-0-is (e.ensures.only tree is))

pub returns-in-Err-BadToken : goal.returns-in-Err-BadToken
returns-in-Err-BadToken c =
    let e = c.in-Err-BadToken in OfNone (λ tree is. subst (λ f. IsAnswer tree (Err f)) e.field-0-is (e.ensures.only tree is))

pub returns-in-Err-Syntax : goal.returns-in-Err-Syntax
returns-in-Err-Syntax c =
    let e = c.in-Err-Syntax in OfNone (λ tree is. subst (λ f. IsAnswer tree (Err f)) e.field-0-is (e.ensures.only tree is))

pub returns-in-Err-TooDeep : goal.returns-in-Err-TooDeep
returns-in-Err-TooDeep c =
    let e = c.in-Err-TooDeep in OfNone (λ tree is. subst (λ f. IsAnswer tree (Err f)) e.field-0-is (e.ensures.only tree is))
