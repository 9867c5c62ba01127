use Rattle.json_texts.proofs.stream.StreamTeller.tell.Goals as goal

pub line-requires : goal.line-requires
line-requires g c = record { few = c.is_asked.ensures.few c.if-not-is_asked.false }
