use Rattle.std.proofs.Common.{subst, sym}
use Rattle.json_texts.specs.Small.{IsReadable}
use Rattle.help.specs.Messages.{message_is}
use Rattle.json_texts.proofs.MessageReadable.{readable_refusal}
use Rattle.json_texts.proofs.message.json_refusal.Goals as goal

pub line_of-requires : goal.line_of-requires
line_of-requires c = record {
  readable = subst IsReadable (sym c.in_ok-facts.ensures)
      (readable_refusal c.args.name.now c.args.source.now c.args.stop.now (message_is c.args.message.now));
}
