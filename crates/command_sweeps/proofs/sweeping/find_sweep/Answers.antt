use Rattle.std.proofs.Common.{List, ℕ, inr, subst}
use Rattle.command_sweeps.specs.Sweeps.{HasNoRows}
use Rattle.command_requests.proofs.Sizes.{hands_on}
use Rattle.command_sweeps.proofs.sweeping.find_sweep.Goals as goal

pub returns-in_err-rows-clause-refused : goal.returns-in_err-rows-clause-refused
returns-in_err-rows-clause-refused g c =
    let h = c.in_err-rows.field-0.0 in
    hands_on _ h _ c.from_residual-in_err-rows.ensures.1 (inr (
      c.in_ok-sweep.sweep,
      c.in_ok-sweep.ensures.sweep,
      subst (λ (sizes : List ℕ). HasNoRows (g.S.Sources.holds c.args.sources.now) c.args.file.now c.args.words sizes h)
          c.deref.ensures.value c.in_err-rows.ensures.refused,
    ))
