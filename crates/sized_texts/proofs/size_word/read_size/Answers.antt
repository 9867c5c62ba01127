use Rattle.sized_texts.proofs.SizeWords.{word_not_read, word_read}
use Rattle.sized_texts.proofs.size_word.read_size.Goals as goal

pub returns-in-None : goal.returns-in-None
returns-in-None c = record {
  read = word_not_read c.args.word.now c.as_bytes.result.now c.split_name.result.0.now c.split_name.result.1.now c.value_by.result
      c.as_bytes.ensures.value c.split_name.ensures.name c.split_name.ensures.rest c.value_by.ensures c.in-None.is;
}

pub returns-in_ok-from_slice-in-Some : goal.returns-in_ok-from_slice-in-Some
returns-in_ok-from_slice-in-Some c = record {
  read = word_read c.args.word.now c.as_bytes.result.now c.split_name.result.0.now c.split_name.result.1.now c.value_by.result
      c.as_bytes.ensures.value c.split_name.ensures.name c.split_name.ensures.rest c.value_by.ensures c.in-Some.value
      c.in_ok-from_slice-in-Some.field-0 c.in-Some.is c.in_ok-from_slice-in-Some.ensures;
}
