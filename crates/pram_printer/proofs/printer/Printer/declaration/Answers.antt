use Rattle.std.proofs.Common.{ap}
use Rattle.pram_trees.specs.Program.{declaration_tokens}
use Rattle.pram_printer.specs.Spelling.{spelling}
use Rattle.text_out.proofs.Printed.{printed_as, prints_then}
use Rattle.pram_printer.proofs.printer.Printer.declaration.Goals as goal

pub returns-in-Cell-clause-prints : goal.returns-in-Cell-clause-prints
returns-in-Cell-clause-prints g c =
    printed_as (ap (λ d. spelling (declaration_tokens d)) c.in-Cell.is)
    (prints_then c.mark.ensures.prints (prints_then c.name.ensures.prints c.mark-in-Cell.ensures.prints))

pub returns-in-Array-clause-prints : goal.returns-in-Array-clause-prints
returns-in-Array-clause-prints g c =
    printed_as (ap (λ d. spelling (declaration_tokens d)) c.in-Array.is)
    (prints_then c.mark-in-Array.ensures.prints
    (prints_then c.name-in-Array.ensures.prints (prints_then c.mark-in-Array-2.ensures.prints (prints_then c.number.ensures.prints
    (prints_then c.mark-in-Array-3.ensures.prints
    (prints_then c.number-in-Array.ensures.prints (prints_then c.mark-in-Array-4.ensures.prints c.mark-in-Array-5.ensures.prints)))))))

pub returns-in-Uniform-clause-prints : goal.returns-in-Uniform-clause-prints
returns-in-Uniform-clause-prints g c =
    printed_as (ap (λ d. spelling (declaration_tokens d)) c.in-Uniform.is)
    (prints_then c.mark-in-Uniform.ensures.prints (prints_then c.name-in-Uniform.ensures.prints c.mark-in-Uniform-2.ensures.prints))
