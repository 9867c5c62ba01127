use Rattle.diagnoses.proofs.Remarked.{no_token}
use Rattle.diagnoses.proofs.remark.expected_in.Goals as goal

pub returns-in-Err-BadToken : goal.returns-in-Err-BadToken
returns-in-Err-BadToken c =
    let e = c.in-Err-BadToken in
    no_token c.args.text.now c.front.result.now c.args.at e.field-0-0 e.field-0 c.choices_behind.result c.front.ensures e.is e.field-0-is
    c.choices_behind.ensures.refused
