use Rattle.all_inputs.proofs.Parts.{stopped_in_first, two_parts}
use Rattle.all_inputs.proofs.interval_text.write_is_in.Goals as goal

pub returns-in_err-write_is_in_words : goal.returns-in_err-write_is_in_words
returns-in_err-write_is_in_words g c = record {
  written = stopped_in_first _ _ _ _ _ _ c.from_residual.ensures.1 c.in_err-write_is_in_words.ensures.written;
}

pub returns : goal.returns
returns g c = record {
  written = two_parts _ _ _ _ _ _ c.in_ok-write_is_in_words.ensures.written c.write_interval.ensures.written;
}
