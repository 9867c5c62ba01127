use Rattle.std.proofs.Common.{refl}
use Rattle.command_facts.proofs.Writing.{cut_off, wrote}
use Rattle.command_text.proofs.writing.write_rules.Goals as goal

pub returns-in_err-show_comparison : goal.returns-in_err-show_comparison
returns-in_err-show_comparison g c = record {
  written = cut_off _ _ _ _ c.from_residual.result c.from_residual.ensures.1 c.in_err-show_comparison.ensures.written;
}

pub returns : goal.returns
returns g c = record {
  written = wrote _ _ _ _ _ _ c.finish.result refl c.in_ok-show_comparison.ensures.written c.finish.ensures.ok c.finish.ensures.failed;
}
