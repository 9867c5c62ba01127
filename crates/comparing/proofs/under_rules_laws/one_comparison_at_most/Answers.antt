use Rattle.comparing.proofs.OneComparison.{one_comparison_at_most}
use Rattle.comparing.proofs.under_rules_laws.one_comparison_at_most.Goals as goal

pub returns : goal.returns
returns c = one_comparison_at_most
