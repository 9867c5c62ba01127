use Rattle.command_facts.proofs.Writing.{cut_off, wrote}
use Rattle.command_text.proofs.writing.write_outcome.Goals as goal

pub returns-in_err-show_chosen : goal.returns-in_err-show_chosen
returns-in_err-show_chosen g c = record {
  written = cut_off _ _ _ _ c.from_residual.result c.from_residual.ensures.1 c.in_err-show_chosen.ensures.written;
}

pub returns : goal.returns
returns g c = record {
  written = wrote _ _ _ _ _ _ c.finish.result c.of.ensures c.in_ok-show_chosen.ensures.written c.finish.ensures.ok c.finish.ensures.failed;
}
