use Rattle.std.proofs.Common.{inl}
use Rattle.command_requests.proofs.Sizes.{hands_on}
use Rattle.command_sweeps.proofs.sweeping.check_program.Goals as goal

pub returns-in_err-load_program : goal.returns-in_err-load_program
returns-in_err-load_program g c =
    hands_on _ c.in_err-load_program.field-0.0 _ c.from_residual.ensures.1
    (inl (c.in-Ok.at, c.in-Ok.ensures, c.in_err-load_program.ensures.refused))
