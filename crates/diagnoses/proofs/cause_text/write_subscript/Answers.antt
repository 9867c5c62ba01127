use Rattle.std.specs.Prelude.{slice_get}
use Rattle.text_out.specs.Out.{Writes}
use Rattle.diagnoses.proofs.CauseLemmas.{subscript_told}
use Rattle.diagnoses.proofs.cause_text.write_subscript.Goals as goal

pub returns : goal.returns
returns g c = record {
  written = subscript_told
      (λ text. Writes (g.W.Out.state c.args.out.now) (g.W.Out.state c.write_outside.new.out) text c.write_outside.result)
      (slice_get c.args.layout.now c.args.entry) c.name.result.now c.args.subscript.now c.range-range.result.low c.range-range.result.high
      c.name.ensures c.range-range.ensures.bounds c.write_outside.ensures.written;
}
