use Rattle.std.proofs.Common.{sym, ap, ◌∙◌, ◌++◌, ◌∷◌, [], length, map}
use Rattle.std.specs.Prelude.{codes}
use Rattle.text_out.proofs.Printed.{printed_as, prints_then}
use Rattle.superstep_listing.specs.Listing.{ended, entry_line, field_words, head_lines, instr_lines, line}
use Rattle.superstep_listing.proofs.Printed.{printed-code, printed-sizes}
use Rattle.superstep_listing.proofs.printer.Printer.code.Goals as goal

pub returns-clause-prints : goal.returns-clause-prints
returns-clause-prints g c =
    let head = printed_as (ap (λ r. ended (head_lines r c.args.code.now.procs)) (sym c.rule.ensures.value)
    ∙ ap (λ n. ended (head_lines c.rule.result n)) (sym c.procs.ensures.value)) c.head.ensures.prints in
    let entries = printed_as (ap (λ es. ended (map entry_line es)) (sym c.layout.ensures.value)) c.entries.ensures.prints in
    let uniform = printed_as (ap (λ n. line (field_words (codes "uniform") n) ++ 10 ∷ []) (sym c.uniform_registers.ensures.value))
    c.field.ensures.prints in
    let private = printed_as (ap (λ n. line (field_words (codes "private") n) ++ 10 ∷ []) (sym c.private_registers.ensures.value))
    c.field-2.ensures.prints in
    let count = printed_as (ap (λ is. line (field_words (codes "code") (length is)) ++ 10 ∷ []) (sym c.instructions-instrs.ensures.value))
    c.field-3.ensures.prints in
    let instrs = printed_as (ap (λ is. ended (instr_lines 0 is)) (sym c.instructions-instrs.ensures.value)) c.instrs.ensures.prints in
    let sizes = printed_as (printed-sizes c.args.code.now.uniform_registers c.args.code.now.private_registers
    (length c.args.code.now.instructions)) (prints_then uniform (prints_then private count)) in
    printed_as (printed-code c.args.code.now) (prints_then head (prints_then entries (prints_then sizes instrs)))
