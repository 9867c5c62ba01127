use Rattle.std.proofs.Common.{refl, sym, ◌∙◌}
use Rattle.pram_meaning.specs.Together.{value_in}
use Rattle.pram_values.specs.Truth.{is_nonzero}
use Rattle.abstract_runs.proofs.Gifts.{part_value}
use Rattle.abstract_runs.proofs.Selected.{one_goes}
use Rattle.abstract_runs.proofs.selecting.choice.Goals as goal

pub returns-then-row-clause-chosen : goal.returns-then-row-clause-chosen
returns-then-row-clause-chosen c = λ faults x p i.
    let value = part_value faults c.args.row.now c.in-Some.effect x c.in-Some.is p i in
    one_goes c.args.wanted (is_nonzero (value_in x.attempt)) _ x p.member refl
    (c.in-Some-goes.ensures (value_in x.attempt) (c.decide.ensures (value_in x.attempt) value))

pub returns-else-row-clause-chosen : goal.returns-else-row-clause-chosen
returns-else-row-clause-chosen c = λ faults x p i.
    one_goes c.args.wanted (is_nonzero (value_in x.attempt)) _ x p.member refl (λ s. absurd (cc (sym s ∙ c.if-row.false)))
