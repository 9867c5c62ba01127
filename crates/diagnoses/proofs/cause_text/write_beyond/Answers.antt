use Rattle.std.proofs.Common.{◌<◌, subst}
use Rattle.text_out.specs.Out.{Writes}
use Rattle.diagnoses.proofs.CauseLemmas.{beyond_here}
use Rattle.diagnoses.proofs.cause_text.write_beyond.Goals as goal

pub returns-then-entry-len : goal.returns-then-entry-len
returns-then-entry-len g c = record {
  written = beyond_here
      (λ text. Writes (g.W.Out.state c.args.out.now) (g.W.Out.state c.write_subscript.new.out) text c.write_subscript.result)
      c.args.layout.now c.args.entry c.args.subscript.now (subst (λ n. c.args.entry < n) c.len.ensures c.if-entry-len.true)
      c.write_subscript.ensures.written;
}
