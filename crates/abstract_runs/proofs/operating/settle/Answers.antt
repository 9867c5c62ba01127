use Rattle.std.proofs.Common.{rules, ◌≡◌, length, subst}
use Rattle.pram_values.specs.declared.kind.Kind.TheVariants.{Overflow}
use Rattle.abstract_runs.specs.Finding.{MayBy}
use Rattle.abstract_runs.proofs.operating.settle.Goals as goal

pub returns-clause-overflow : goal.returns-clause-overflow
returns-clause-overflow c = λ may.
    let here : c.len-here.result ≡ length c.push.new.self.items = search rules in
    subst (λ n. MayBy Overflow n c.note_if-2.new.faults) here
    (c.note_if-2.ensures.kept Overflow c.len-here.result (c.note_if.ensures.noted may))
