use Rattle.std.proofs.Common.{◌∙◌, ◌+◌, ap, get_or, subst, sym}
use Rattle.help.specs.declared.choice.Choice.TheVariants as choice
use Rattle.help.specs.Choices.{IsTold, Told}
use Rattle.help.proofs.Gathering.{Gathered, gathered_all, gathered_left_out, gathered_told, is_not_so, is_so}
use Rattle.help.proofs.asking.choices_of.Goals as goal
use Rattle.help.proofs.asking.choices_of.Goals.{then-branch+in_ok-push, else-branch}

pub loop-choice-preserved : goal.loop-choice-preserved
loop-choice-preserved c =
    let all = c.all_choices-all.result.now in
    let i = c.loop-choice.choice-index in
    let front = c.args.tokens.now.items in
    let one = get_or all i choice.Name in
    let now = c.loop-choice.tokens.items in
    record {
      same = c.in_ok-is_told.ensures.same ∙ c.loop-choice.invariant.same;
      all = c.loop-choice.invariant.all;
      gathered = elim c.if-branch.branch [
        | then-branch+in_ok-push w ↦ subst (λ l. Gathered front all l (i + 1))
            (sym w.in_ok-push.ensures.items ∙ sym (ap (λ v. v.items) w.found-is))
            (gathered_told front all _ i choice.Name c.loop-choice-test.true
            (subst (λ l. IsTold l one) c.loop-choice.invariant.same (is_so _ (IsTold now one) c.in_ok-is_told.ensures.decides
            w.if-branch.true))
            c.loop-choice.invariant.gathered)
        | else-branch w ↦ subst (λ l. Gathered front all l (i + 1)) (sym (ap (λ v. v.items) w.found-is))
            (gathered_left_out front all _ i choice.Name c.loop-choice-test.true
            (subst (λ l. IsTold l one → ⊥) c.loop-choice.invariant.same (is_not_so _ (IsTold now one) c.in_ok-is_told.ensures.decides
            w.if-branch.false))
            c.loop-choice.invariant.gathered)
      ];
    }

pub returns : goal.returns
returns c =
    subst (λ all. Told c.args.tokens.now.items all c.loop-choice.found.items) c.loop-choice.invariant.all
    (gathered_all c.args.tokens.now.items _ _ c.loop-choice.choice-index c.loop-choice-test.false c.loop-choice.invariant.gathered)
