use Rattle.std.proofs.Common.{ap, refl, subst}
use Rattle.std.specs.Prelude.{ℕ, Err}
use Rattle.comparing.specs.Found.{drawn_inputs}
use Rattle.comparing.specs.declared.refusal.ComparisonRefusal.{ComparisonRefusal}
use Rattle.command_pairs.specs.Pairs.{IsFoundBy, IsTooLong}
use Rattle.command_pairs.proofs.Fitting.{none_told}
use Rattle.command_pairs.proofs.trying.on_drawn.Goals as goal

pub halted-requires : goal.halted-requires
halted-requires c = record { too_long = λ side is. (c.in-Err.ensures.too_long side).0 (ap (λ (why : ComparisonRefusal). Err why) is) }

pub returns-in-Ok-clause-found : goal.returns-in-Ok-clause-found
returns-in-Ok-clause-found c =
    let d = c.args.drawn in
    subst (λ (n : ℕ). IsFoundBy c.args.precondition.now c.args.first.now c.args.second.now c.args.compared.now c.args.bound n
    (drawn_inputs d.drawing.low d.drawing.high d.drawing.seed n d.count) c.in-Ok.comparison) c.cells_drawn-cells.ensures
    (record {
      fit = none_told _ c.in-Ok.comparison _ refl (λ side. c.in-Ok.ensures.too_long side);
      found = c.in-Ok.ensures.found;
    })

pub returns-in-Err-clause-refused : goal.returns-in-Err-clause-refused
returns-in-Err-clause-refused c =
    let h = c.halted.result in
    subst (λ (n : ℕ). IsTooLong c.args.precondition.now c.args.first.now c.args.second.now n h.stop h.about) c.cells_drawn-cells.ensures
    c.halted.ensures
