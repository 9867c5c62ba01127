use Rattle.std.proofs.Common.{List, [], ◌∷◌, ◌∙◌}
use Rattle.pram_tokens.specs.declared.token.Token.TheVariants as token
use Rattle.pram_tokens.specs.declared.token.Mark.TheVariants as mark
use Rattle.pram_tokens.specs.declared.token.Name.{Name}
use Rattle.pram_tokens.specs.declared.token.Token.{Token}
use Rattle.pram_trees.specs.Blocks.{local_tokens}
use Rattle.pram_printer.specs.Spelling.{spelling}
use Rattle.text_out.proofs.Printed.{printed_more, prints_then}
use Rattle.pram_printer.proofs.Printed.{spelling-append}
use Rattle.pram_printer.proofs.printer.Printer.locals.Goals as goal

-- the tokens of one local
abbrev one : Name → List Token
one x = token.Mark mark.Local ∷ (token.Name x ∷ (token.Mark mark.Semicolon ∷ []))

pub loop-local-preserved : goal.loop-local-preserved
loop-local-preserved g c = (
  c.mark-in-loop-local.ensures.same_out ∙ c.name.ensures.same_out ∙ c.mark.ensures.same_out ∙ c.loop-local.invariant.0,
  printed_more (λ xs. spelling (local_tokens xs)) (λ x. spelling (one x)) (λ y ys. spelling-append (one y) (local_tokens ys)) _ _ _
      c.args.locals.now c.loop-local.local-index c.local-item.result c.loop-local.invariant.1 c.loop-local-test.true c.local-item.is
      (prints_then c.mark.ensures.prints (prints_then c.name.ensures.prints c.mark-in-loop-local.ensures.prints)),
)
