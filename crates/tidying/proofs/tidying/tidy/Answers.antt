use Rattle.tidying.proofs.Founds.{is_tidied, runs_alike}
use Rattle.tidying.proofs.tidying.tidy.Goals as goal

pub returns-in-Some-3-clause-tidied : goal.returns-in-Some-3-clause-tidied
returns-in-Some-3-clause-tidied c =
    is_tidied c.args.code.now c.code-plain.result.now c.in-Some-2.whole c.code-whole_code.result.now c.in-Some-3.tidied
    c.code-plain.ensures.value c.code-whole_code.ensures.value c.code-whole_code.ensures.stands
    (c.in_ok-is_left.ensures c.if-not-branch.false) c.in_ok-tidied.field-0 c.in_ok-tidied.ensures c.in-Some-3.is

pub returns-in-Some-3-clause-alike : goal.returns-in-Some-3-clause-alike
returns-in-Some-3-clause-alike c =
    runs_alike c.args.code.now c.code-plain.result.now c.in-Some-2.whole c.code-whole_code.result.now c.in-Some-3.tidied
    c.code-plain.ensures.value c.code-whole_code.ensures.value c.code-whole_code.ensures.stands
    (c.in_ok-is_left.ensures c.if-not-branch.false) c.in_ok-tidied.field-0 c.in_ok-tidied.ensures c.in-Some-3.is
    c.code-plain.ensures.stands c.code-instructions.ensures.stands
