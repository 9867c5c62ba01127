use Rattle.std.proofs.Common.{refl, subst}
use Rattle.text_out.specs.Out.{StopsIn}
use Rattle.command_facts.specs.Written.{Wrote}
use Rattle.command_facts.proofs.Writing.{cut_off, wrote}
use Rattle.command_json.proofs.writing.write_json.Goals as goal

pub returns-in_err-write_all : goal.returns-in_err-write_all
returns-in_err-write_all g c = record {
  written = cut_off _ _ _ _ c.from_residual.result c.from_residual.ensures.1
      (subst (StopsIn (g.O.Out.state c.args.out.now) (g.O.Out.state c.write_all.new.self)) c.as_bytes.ensures.value
      c.in_err-write_all.ensures.written);
}

pub returns : goal.returns
returns g c = record {
  written = subst (λ t. Wrote c.args.status t (g.O.Out.state c.args.out.now) (g.O.Out.state c.finish.new.out) c.finish.result)
      c.as_bytes.ensures.value
      (wrote _ _ _ _ _ _ c.finish.result refl c.in_ok-write_all.ensures.written c.finish.ensures.ok c.finish.ensures.failed);
}
