use Rattle.std.proofs.Common.{ap, refl, subst}
use Rattle.std.specs.Prelude.{ℕ, Err}
use Rattle.comparing.specs.Found.{AreOfKind}
use Rattle.comparing.specs.declared.refusal.ComparisonRefusal.{ComparisonRefusal}
use Rattle.command_pairs.specs.Pairs.{IsFoundBy, IsTooLong}
use Rattle.command_pairs.proofs.Fitting.{none_told}
use Rattle.command_pairs.proofs.trying.on_kind.Goals as goal

pub halted-requires : goal.halted-requires
halted-requires c = record { too_long = λ side is. (c.in-Err.ensures.too_long side).0 (ap (λ (why : ComparisonRefusal). Err why) is) }

pub returns-in-Ok-clause-found : goal.returns-in-Ok-clause-found
returns-in-Ok-clause-found c =
    let words = c.args.words in
    let told = c.in-Ok.ensures.found in
    let cells = c.kind_cells-cells.ensures in (
      told.0,
      subst (λ (n : ℕ). AreOfKind words.kind words.seed n words.count told.0) cells told.1,
      subst (λ (n : ℕ). IsFoundBy c.args.precondition.now c.args.first.now c.args.second.now c.args.compared.now c.args.bound n told.0
          c.in-Ok.comparison) cells
          (record {
            fit = none_told _ c.in-Ok.comparison _ refl (λ side. c.in-Ok.ensures.too_long side);
            found = told.2;
          }),
    )

pub returns-in-Err-clause-refused : goal.returns-in-Err-clause-refused
returns-in-Err-clause-refused c =
    let h = c.halted.result in
    subst (λ (n : ℕ). IsTooLong c.args.precondition.now c.args.first.now c.args.second.now n h.stop h.about) c.kind_cells-cells.ensures
    c.halted.ensures
