use Rattle.laid_out_texts.proofs.Kept.{IsLeft, IsTaken, is_left, is_taken}
use Rattle.laid_out_texts.proofs.arranged.lay_out.Goals as goal

of_taken : (c : goal.Then-branch) → IsTaken c.args.text.now c.in_ok-new.new.items
of_taken c =
    is_taken c.args.text.now c.in_ok-new.new.items c.deref.result.now c.in_ok-is_same.field-0 c.in_ok-new.ensures c.deref.ensures.value
    c.in_ok-is_same.ensures c.if-branch.true

pub returns-then-branch-clause-layout : goal.returns-then-branch-clause-layout
returns-then-branch-clause-layout c = (of_taken c).layout

pub returns-then-branch-clause-pieces : goal.returns-then-branch-clause-pieces
returns-then-branch-clause-pieces c = (of_taken c).pieces

pub returns-then-branch-clause-tokens : goal.returns-then-branch-clause-tokens
returns-then-branch-clause-tokens c = (of_taken c).tokens

pub returns-then-branch-clause-again : goal.returns-then-branch-clause-again
returns-then-branch-clause-again c = (of_taken c).again

of_left : (c : goal.After-drop-new-2) → IsLeft c.args.text.now c.in_ok-kept.kept.items
of_left c =
    is_left c.args.text.now c.in_ok-new.new.items c.deref.result.now c.in_ok-kept.kept.items c.in_ok-is_same.field-0 c.in_ok-new.ensures
    c.deref.ensures.value c.in_ok-is_same.ensures c.if-branch.false c.in_ok-kept.ensures.items

pub returns-clause-layout : goal.returns-clause-layout
returns-clause-layout c = (of_left c).layout

pub returns-clause-again : goal.returns-clause-again
returns-clause-again c = (of_left c).again
