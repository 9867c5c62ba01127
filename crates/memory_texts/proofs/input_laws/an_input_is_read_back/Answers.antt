use Rattle.memory_texts.proofs.ReadBack.{read_back}
use Rattle.memory_texts.proofs.input_laws.an_input_is_read_back.Goals as goal

pub returns : goal.returns
returns c = read_back c.args.values.now c.requires.words c.requires.short
