use Rattle.std.proofs.Common.{refl}
use Rattle.command_facts.proofs.Writing.{cut_off, wrote}
use Rattle.command_text.proofs.writing.write_plan.Goals as goal

pub returns-in_err-write_listing : goal.returns-in_err-write_listing
returns-in_err-write_listing g c = record {
  written = cut_off _ _ _ _ c.from_residual.result c.from_residual.ensures.1 c.in_err-write_listing.ensures.written;
}

pub returns : goal.returns
returns g c = record {
  written = wrote _ _ _ _ _ _ c.finish.result refl c.in_ok-write_listing.ensures.written c.finish.ensures.ok c.finish.ensures.failed;
}
