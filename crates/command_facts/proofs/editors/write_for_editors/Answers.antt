use Rattle.std.proofs.Common.{inl, inr, refl}
use Rattle.help.specs.Messages.{message_is}
use Rattle.command_facts.specs.Editors.{editor_text, unsaid_text}
use Rattle.command_facts.proofs.editors.write_for_editors.Goals as goal

pub returns-in-Ok : goal.returns-in-Ok
returns-in-Ok g c =
    let m = message_is c.in-Ok.message in
    record {
      written = (
        editor_text c.args.halted.now.stop c.args.halted.now.about m,
        inr (m, c.in-Ok.ensures, refl),
        c.write_message_for.ensures.written,
      );
    }

pub returns-in-Err : goal.returns-in-Err
returns-in-Err g c = record {
  written = (unsaid_text c.args.halted.now.stop c.args.halted.now.about, inl refl, c.write_unsaid.ensures.written);
}
