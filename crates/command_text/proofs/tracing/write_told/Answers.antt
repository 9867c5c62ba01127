use Rattle.text_places.proofs.Pieces.{both, stops_in_first}
use Rattle.write_rules.specs.Verdict.{verdict_of}
use Rattle.program_texts.specs.Shown.{shown}
use Rattle.command_text.specs.Traces.{behind}
use Rattle.command_text.proofs.TracesWritten.{told_so}
use Rattle.command_text.proofs.tracing.write_told.Goals as goal

pub returns-in_err-write_trace : goal.returns-in_err-write_trace
returns-in_err-write_trace g c =
    let found = c.args.found.now in
    let rest = behind c.args.words (shown c.args.layout.now (verdict_of c.args.outcome.now)) found.counts in
    record {
      written = stops_in_first _ _ _ _ rest c.from_residual.result _ (told_so found.lines.items _ found.counts rest c.deref.ensures.value)
          c.from_residual.ensures.1 c.in_err-write_trace.ensures.written;
    }

pub returns : goal.returns
returns g c =
    let found = c.args.found.now in
    let rest = behind c.args.words (shown c.args.layout.now (verdict_of c.args.outcome.now)) found.counts in
    record {
      written = both _ _ _ _ _ rest c.write_behind.result (told_so found.lines.items _ found.counts rest c.deref.ensures.value)
          c.in_ok-write_trace.ensures.written c.write_behind.ensures.written;
    }
