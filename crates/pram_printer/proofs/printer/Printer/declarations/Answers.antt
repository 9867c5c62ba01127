use Rattle.std.proofs.Common.{◌∙◌}
use Rattle.pram_trees.specs.Program.{declaration_tokens, declarations_tokens}
use Rattle.pram_printer.specs.Spelling.{spelling}
use Rattle.text_out.proofs.Printed.{printed_more}
use Rattle.pram_printer.proofs.Printed.{spelling-append}
use Rattle.pram_printer.proofs.printer.Printer.declarations.Goals as goal

pub loop-declaration-preserved : goal.loop-declaration-preserved
loop-declaration-preserved g c = (
  c.declaration.ensures.same_out ∙ c.loop-declaration.invariant.0,
  printed_more (λ xs. spelling (declarations_tokens xs)) (λ x. spelling (declaration_tokens x))
      (λ y ys. spelling-append (declaration_tokens y) (declarations_tokens ys)) _ _ _
      c.args.declarations.now c.loop-declaration.declaration-index c.declaration-item.result c.loop-declaration.invariant.1
      c.loop-declaration-test.true c.declaration-item.is c.declaration.ensures.prints,
)
