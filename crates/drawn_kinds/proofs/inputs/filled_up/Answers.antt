use Rattle.std.proofs.Common.{◌∙◌, ◌++◌, ap, arith, sym}
use Rattle.std.proofs.lemmas.List.{append-nil}
use Rattle.drawn_kinds.proofs.Edged.{over_even, over_odd}
use Rattle.drawn_kinds.proofs.inputs.filled_up.Goals as goal

pub returns-then-count-eq0 : goal.returns-then-count-eq0
returns-then-count-eq0 c =
    sym (ap (λ over. c.args.ends.items ++ over) (over_even c.args.count (omega arith)) ∙ append-nil c.args.ends.items)

pub returns : goal.returns
returns c = c.in_ok-push.ensures.items ∙ ap (λ over. c.args.ends.items ++ over) (sym (over_odd c.args.count (omega arith)))
