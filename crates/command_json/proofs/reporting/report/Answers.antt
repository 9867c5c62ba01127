use Rattle.std.proofs.Common.{[], inr}
use Rattle.command_json.proofs.reporting.report.Goals as goal

-- there was no memory for the line
pub returns-in-Err : goal.returns-in-Err
returns-in-Err g c = record {
  told = inr (record {
    line = c.out_of_memory_line.result.now;
    json = c.out_of_memory_line.ensures.json [];
    reported = c.write_line-in-Err.ensures.written;
  });
}
