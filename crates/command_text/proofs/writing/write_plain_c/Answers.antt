use Rattle.std.proofs.Common.{refl}
use Rattle.command_facts.proofs.Writing.{cut_off, wrote}
use Rattle.command_text.proofs.writing.write_plain_c.Goals as goal

pub returns-in_err-write_alone : goal.returns-in_err-write_alone
returns-in_err-write_alone g c = record {
  written = cut_off _ _ _ _ c.from_residual.result c.from_residual.ensures.1 c.in_err-write_alone.ensures.written;
}

pub returns : goal.returns
returns g c = record {
  written = wrote _ _ _ _ _ _ c.finish.result refl c.in_ok-write_alone.ensures.written c.finish.ensures.ok c.finish.ensures.failed;
}
