use Rattle.std.proofs.Common.{map, refl, subst, sym}
use Rattle.std.specs.String.{string_bytes}
use Rattle.program_texts.specs.declared.stop.Stop.{Stop}
use Rattle.command_requests.specs.Sentences.{word_fault}
use Rattle.command_text.specs.Explained.{IsSaidBehind, IsWrongOf}
use Rattle.command_text.proofs.Reporting.{said_else}
use Rattle.command_text.proofs.explaining.write_behind.Goals as goal

pub returns-in-Number : goal.returns-in-Number
returns-in-Number g c =
    let h = c.args.halted.now in
    let words = map string_bytes c.args.words.now in
    let said = word_fault c.args.wrong c.in-Number.word.now in
    record {
      written = (
        said,
        subst (λ (s : Stop). IsWrongOf words s c.args.wrong → IsSaidBehind words s h.about said) (sym c.in-Number.is)
            (λ is. (c.args.wrong, is, refl)) c.requires.wrong,
        c.write_word_fault.ensures.written,
      );
    }

pub returns-in_default : goal.returns-in_default
returns-in_default g c =
    let h = c.args.halted.now in
    let w = c.write_stop_diagnosis.ensures.written in
    record { written = (w.0, said_else _ h.stop h.about w.0 c.in_default.not-Number w.1, w.2) }
