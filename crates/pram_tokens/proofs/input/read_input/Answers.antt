use Rattle.std.proofs.Common.{sym, subst, ◌∙◌}
use Rattle.pram_tokens.specs.Input.{IsWrong}
use Rattle.pram_tokens.proofs.Inputs.{not_wrong, one_list}
use Rattle.pram_tokens.proofs.input.read_input.Goals as goal

pub returns-in-Ok-clause-only : goal.returns-in-Ok-clause-only
returns-in-Ok-clause-only c = λ values input. one_list c.in-Ok.found.items values (sym c.in-Ok.ensures.numbers ∙ input.numbers)

pub returns-in-BadToken-clause-only : goal.returns-in-BadToken-clause-only
returns-in-BadToken-clause-only c = λ values input.
    absurd (not_wrong c.args.text.now values c.in-BadToken.at input
    (subst (IsWrong c.args.text.now) c.in-BadToken.is c.in-Err.ensures.wrong))
