use Rattle.std.proofs.Common.{inl}
use Rattle.command_requests.proofs.Sizes.{hands_on}
use Rattle.command_sweeps.proofs.sweeping.filled_name.Goals as goal

pub returns-in_err-sizes-clause-unfilled : goal.returns-in_err-sizes-clause-unfilled
returns-in_err-sizes-clause-unfilled c =
    hands_on _ c.in_err-sizes.field-0.0 _ c.from_residual.ensures.1 (inl c.in_err-sizes.ensures.refused)
