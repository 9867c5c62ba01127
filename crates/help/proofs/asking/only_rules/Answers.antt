use Rattle.std.proofs.Common.{IfOk, Result, Ok, Err, subst}
use Rattle.std.specs.Prelude.{Bool, List}
use Rattle.pram_tokens.specs.declared.token.Token.{Token}
use Rattle.help.specs.declared.choice.Choice.TheVariants as choice
use Rattle.help.specs.Choices.{CouldStand, Decides, OnlyRules}
use Rattle.help.specs.Kinds.{sample}
use Rattle.help.proofs.Beginnings.{only_rules}
use Rattle.help.proofs.Gathering.{is_not_so}
use Rattle.help.proofs.asking.only_rules.Goals as goal

by_answer : {E : Type 0} (front : List Token) (r : Result Bool E) → (CouldStand front (sample choice.Name) → ⊥) →
    IfOk r (λ b. Decides b (CouldStand front (sample choice.Rule))) → IfOk r (λ b. Decides b (OnlyRules front))
by_answer front (Ok b) no_name h = only_rules front b no_name h
by_answer front (Err e) no_name h = tt

-- no name could stand there
pub returns-else-branch-clause-decides : goal.returns-else-branch-clause-decides
returns-else-branch-clause-decides c =
    by_answer c.args.tokens.now.items c.could_stand-else-branch.result
    (is_not_so c.in_ok-could_stand.field-0 _ c.in_ok-could_stand.ensures.decides c.if-branch.false)
    (subst (λ l. IfOk c.could_stand-else-branch.result (λ b. Decides b (CouldStand l (sample choice.Rule))))
    c.in_ok-could_stand.ensures.same
    c.could_stand-else-branch.ensures.decides)
