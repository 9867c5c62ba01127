use Rattle.std.proofs.Common.{◌∙◌, ap, refl}
use Rattle.std.proofs.lemmas.Str.Ascii.{trim_ascii_is}
use Rattle.pictures.specs.Steps.ProgramLines.{without_end, without_front}
use Rattle.pictures.proofs.steps.program_lines.code_of.Goals as goal

pub returns : goal.returns
returns c =
    let bytes = c.line_text-bytes.result.now in
    trim_ascii_is bytes c.trim_ascii.result.now (without_front bytes) refl c.trim_ascii.ensures.value
    ∙ ap (λ b. without_end (without_front b)) c.line_text-bytes.ensures
