use Rattle.std.proofs.Common.{subst}
use Rattle.address_map.specs.Outcome.{IsCells, IsOdd}
use Rattle.program_runs.specs.Runs.{IsChoice}
use Rattle.program_runs.proofs.RunLemmas.{is_no_map}
use Rattle.program_runs.proofs.on_map.map_fault.Goals as goal

pub returns-in-Err-clause-some : goal.returns-in-Err-clause-some
returns-in-Err-clause-some c =
    is_no_map (IsCells c.args.cells) c.args.options c.in-Err.fault c.in-Err.ensures.err (λ choice. c.requires)

pub returns-in-Err-new-clause-some : goal.returns-in-Err-new-clause-some
returns-in-Err-new-clause-some c =
    is_no_map (IsCells c.args.cells × IsOdd c.in-Affine.factor) c.args.options c.in-Err-new.fault c.in-Err-new.ensures.err
    (λ choice. (c.requires, subst IsChoice c.in-Affine.is choice))
