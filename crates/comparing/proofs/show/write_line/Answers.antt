use Rattle.std.proofs.Common.{◌∙◌, ◌++◌, ap, codes, sym}
use Rattle.pram_model.specs.Rules.{rule_word}
use Rattle.program_texts.specs.Shown.{line}
use Rattle.text_out.proofs.Progress.{breaks_off, closes, goes_on, starts}
use Rattle.comparing.specs.Compared.{declares, finding_of}
use Rattle.comparing.specs.RulesText.{told}
use Rattle.comparing.proofs.Lines.{line_split}
use Rattle.comparing.proofs.show.write_line.Goals as goal

pub returns-in_err-write_parts : goal.returns-in_err-write_parts
returns-in_err-write_parts g c =
    let all = c.args.comparison.now in
    let at = line_split (rule_word c.args.rule) _ (told (declares all c.args.rule) all.layout (finding_of all c.args.rule))
    (c.as_bytes.ensures.value ∙ c.word.ensures) in
    record {
      written = breaks_off _ _ _ _ _ _ _ c.from_residual.result _ c.from_residual.ensures.1
          (starts _ _) at c.in_err-write_parts.ensures.written;
    }

pub returns : goal.returns
returns g c =
    let all = c.args.comparison.now in
    let at = ap (λ f. line (rule_word c.args.rule ++ (codes " " ++ told (declares all c.args.rule) all.layout f)))
    (sym c.of.ensures.value)
    ∙ ap (λ d. line (rule_word c.args.rule ++ (codes " " ++ told d all.layout c.of.result))) (sym c.declares-declared.ensures.value)
    ∙ line_split (rule_word c.args.rule) _ (told c.declares-declared.result all.layout c.of.result)
    (c.as_bytes.ensures.value ∙ c.word.ensures) in
    let worded = goes_on _ _ _ _ _ _ _ (starts _ _) at c.in_ok-write_parts.ensures.written in
    record { written = closes _ _ _ _ _ c.write_told.result worded c.write_told.ensures.written }
