use Rattle.std.proofs.Common.{refl}
use Rattle.command_facts.proofs.Writing.{cut_off, wrote}
use Rattle.command_text.proofs.writing.write_export.Goals as goal

pub returns-in_err-write_program : goal.returns-in_err-write_program
returns-in_err-write_program g c = record {
  written = cut_off _ _ _ _ c.from_residual.result c.from_residual.ensures.1 c.in_err-write_program.ensures.written;
}

pub returns : goal.returns
returns g c = record {
  written = wrote _ _ _ _ _ _ c.finish.result refl c.in_ok-write_program.ensures.written c.finish.ensures.ok c.finish.ensures.failed;
}
