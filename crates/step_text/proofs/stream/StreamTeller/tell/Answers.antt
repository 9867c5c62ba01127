use Rattle.step_text.proofs.stream.StreamTeller.tell.Goals as goal

pub write-requires : goal.write-requires
write-requires g c = record { few = c.is_asked.ensures.few c.if-not-is_asked.false }
