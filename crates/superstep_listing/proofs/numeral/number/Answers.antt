use Rattle.std.proofs.Common.{◌≡◌, ◌∙◌, sym, ap, subst}
use Rattle.std.specs.Fmt.{signed_decimal}
use Rattle.std.specs.Prelude.{Ok}
use Rattle.superstep_instructions.specs.Code.{Wide}
use Rattle.superstep_instructions.specs.Limits.{Fits}
use Rattle.superstep_listing.proofs.Numerals.{not_text, parsed_as, read_back, same_bytes}
use Rattle.superstep_listing.proofs.numeral.number.Goals as goal

pub returns-in_default : goal.returns-in_default
returns-in_default c = record { value = not_text c.args.word.now c.in_default.ensures.cases.0 }

pub returns-in_default-parse : goal.returns-in_default-parse
returns-in_default-parse c = record {
  value = λ z fits e.
      let r : c.parse.result ≡ Ok z = parsed_as _ c.parse.result c.parse.ensures.value.0 z fits (c.in-Ok.ensures.cases.0 ∙ e) in
      let is = c.in_default-parse.is in cc;
}

pub returns-else-eq : goal.returns-else-eq
returns-else-eq c = record {
  value = λ z fits e.
      let r : c.parse.result ≡ Ok z = parsed_as _ c.parse.result c.parse.ensures.value.0 z fits (c.in-Ok.ensures.cases.0 ∙ e) in
      let same : z ≡ c.in-Ok-parse.value = (let is = c.in-Ok-parse.is in cc) in
      let text = c.format.ensures.text ∙ ap signed_decimal (read_back c.in-Ok-parse.value (subst (λ v. Fits (Wide v)) same fits)
      ∙ sym same) in
      let test = same_bytes c.as_bytes.result.now c.args.word.now (c.as_bytes.ensures.value ∙ text ∙ sym e) in
      let told = c.eq.ensures in let other = c.if-eq.false in cc;
}
