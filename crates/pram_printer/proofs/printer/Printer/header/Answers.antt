use Rattle.std.proofs.Common.{◌++◌, ◌∷◌, [], ap, sym, ◌∙◌}
use Rattle.pram_tokens.specs.declared.token.Token.TheVariants as token
use Rattle.pram_model.specs.Rules.{rule_word}
use Rattle.pram_printer.specs.Spelling.{spelled}
use Rattle.text_out.proofs.Printed.{printed_as, prints_then}
use Rattle.pram_printer.proofs.printer.Printer.header.Goals as goal

pub returns-clause-prints : goal.returns-clause-prints
returns-clause-prints g c =
    let word = printed_as (ap (λ t. t ++ 32 ∷ []) (sym (c.as_bytes.ensures.value ∙ (c.word.ensures ∙ ap rule_word c.rule.ensures.value))))
    c.put.ensures.prints in
    let number = printed_as (ap (λ n. spelled (token.Number n)) (sym c.procs.ensures.value)) c.number.ensures.prints in
    prints_then c.mark.ensures.prints
    (prints_then word (prints_then c.mark-2.ensures.prints
    (prints_then c.mark-3.ensures.prints (prints_then number c.mark-4.ensures.prints))))
