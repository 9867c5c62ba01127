use Rattle.std.proofs.Common.{ap, sym}
use Rattle.pram_trees.specs.Blocks.{block_tokens}
use Rattle.pram_trees.specs.Program.{declarations_tokens}
use Rattle.pram_printer.specs.Spelling.{spelling}
use Rattle.text_out.proofs.Printed.{printed_as, prints_then}
use Rattle.pram_printer.proofs.Printed.{spelling-program}
use Rattle.pram_printer.proofs.printer.Printer.tree.Goals as goal

pub returns-clause-prints : goal.returns-clause-prints
returns-clause-prints g c =
    let declarations = printed_as (ap (λ l. spelling (declarations_tokens l)) (sym c.declarations.ensures.value))
    c.declarations-2.ensures.prints in
    let body = printed_as (ap (λ l. spelling (block_tokens l)) (sym c.body.ensures.value)) c.statements.ensures.prints in
    printed_as (spelling-program c.args.tree.now)
    (prints_then c.header.ensures.prints
    (prints_then declarations (prints_then c.mark.ensures.prints (prints_then body c.mark-2.ensures.prints))))
