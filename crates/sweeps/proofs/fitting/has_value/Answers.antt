use Rattle.std.proofs.Common.{inl, rules}
use Rattle.sweeps.proofs.Rows.{has_value}
use Rattle.sweeps.proofs.fitting.has_value.Goals as goal

pub returns-then-size-gt0 : goal.returns-then-size-gt0
returns-then-size-gt0 c =
    (λ some. has_value c.args.formula.now c.args.size (inl c.if-size-gt0.true), λ is. search rules)
