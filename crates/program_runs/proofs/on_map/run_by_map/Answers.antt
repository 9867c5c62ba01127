use Rattle.std.proofs.Common.{subst}
use Rattle.address_map.specs.Outcome.{IsCells, IsOdd}
use Rattle.program_runs.specs.Runs.{IsChoice}
use Rattle.program_runs.proofs.RunLemmas.{is_no_map}
use Rattle.program_runs.proofs.on_map.run_by_map.Goals as goal

pub returns-in-Err-clause-refused : goal.returns-in-Err-clause-refused
returns-in-Err-clause-refused g c =
    c.refusal_of.ensures c.args.code.now c.args.input.now c.args.options c.args.reserve
    (is_no_map (IsCells c.places-cells.result) c.args.options c.in-Err.fault c.in-Err.ensures.err (λ choice. c.places-cells.ensures.cells))

pub returns-in-Err-new-clause-refused : goal.returns-in-Err-new-clause-refused
returns-in-Err-new-clause-refused g c =
    c.refusal_of-in-Err-new.ensures c.args.code.now c.args.input.now c.args.options c.args.reserve
    (is_no_map (IsCells c.places-cells.result × IsOdd c.in-Affine.factor) c.args.options c.in-Err-new.fault c.in-Err-new.ensures.err
    (λ choice. (c.places-cells.ensures.cells, subst IsChoice c.in-Affine.is choice)))
