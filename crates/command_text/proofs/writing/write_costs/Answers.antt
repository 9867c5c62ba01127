use Rattle.command_facts.proofs.Writing.{cut_off, wrote}
use Rattle.command_text.proofs.writing.write_costs.Goals as goal

pub returns-in_err-write_numbers_and_outcome : goal.returns-in_err-write_numbers_and_outcome
returns-in_err-write_numbers_and_outcome g c = record {
  written = cut_off _ _ _ _ c.from_residual.result c.from_residual.ensures.1 c.in_err-write_numbers_and_outcome.ensures.written;
}

pub returns : goal.returns
returns g c = record {
  written = wrote _ _ _ _ _ _ c.finish.result c.of.ensures c.in_ok-write_numbers_and_outcome.ensures.written c.finish.ensures.ok
      c.finish.ensures.failed;
}
