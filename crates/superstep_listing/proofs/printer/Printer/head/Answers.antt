use Rattle.std.proofs.Common.{sym, ◌∙◌}
use Rattle.text_out.proofs.Printed.{printed_as, prints_then}
use Rattle.superstep_listing.proofs.Printed.{printed-head}
use Rattle.superstep_listing.proofs.printer.Printer.head.Goals as goal

pub returns-clause-prints : goal.returns-clause-prints
returns-clause-prints g c =
    printed_as (printed-head c.args.rule c.args.procs)
    (prints_then c.text.ensures.prints (prints_then (printed_as (sym (c.as_bytes.ensures.value ∙ c.word.ensures)) c.text-2.ensures.prints)
    (prints_then c.text-3.ensures.prints c.field.ensures.prints)))
