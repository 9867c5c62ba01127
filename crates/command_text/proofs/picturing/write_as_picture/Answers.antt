use Rattle.std.proofs.Common.{Err, Ok, refl}
use Rattle.command_requests.specs.declared.form.Form.TheVariants as form
use Rattle.command_facts.proofs.Writing.{wrote}
use Rattle.command_facts.specs.Found.{cut_at, entries_of, with_outcome}
use Rattle.program_texts.specs.Status.{status_of}
use Rattle.command_text.specs.Texts.{picture_text}
use Rattle.command_text.proofs.StepsWritten.{cut_in_text, cut_up_to, whole}
use Rattle.command_text.proofs.picturing.write_as_picture.Goals as goal

pub returns-in_err-ending : goal.returns-in_err-ending
returns-in_err-ending g c = record {
  told = λ on.
      let cut = c.in_err-ending.ensures.cut on in
      cut_up_to on c.args.steps.now cut.0 _ _ _ c.in_err-ending.field-0.0 c.from_residual.ensures.1 cut.1 cut.2;
}

pub returns-in_err-finish : goal.returns-in_err-finish
returns-in_err-finish g c =
    let s = c.args.steps.now in
    let r = c.in_ok-ending.ending in
    let cut = cut_at s r.bound in
    let shows = picture_text s.words (with_outcome cut r.outcome) (entries_of cut) in
    record {
      told = λ on. cut_up_to on s r.bound _ _ _ c.in_err-finish.field-0.0 c.from_residual-in_err-finish.ensures.1
          c.in_ok-ending.ensures.ends
          (cut_in_text on cut _ form.Picture c.requires.form r.outcome c.in_ok-ending.ensures.outcome _ (status_of r.outcome) _ shows refl
          (wrote _ _ shows _ _ _ (Err _) c.of.ensures c.in_ok-ending.ensures.picture c.in_err-finish.ensures.ok
          c.in_err-finish.ensures.failed));
    }

pub returns : goal.returns
returns g c =
    let s = c.args.steps.now in
    let r = c.in_ok-ending.ending in
    let cut = cut_at s r.bound in
    let shows = picture_text s.words (with_outcome cut r.outcome) (entries_of cut) in
    let w = wrote _ _ shows _ _ _ (Ok _) c.of.ensures c.in_ok-ending.ensures.picture c.in_ok-finish.ensures.ok
    c.in_ok-finish.ensures.failed in
    record {
      told = λ on. (
        c.in_ok-ending.ensures.ends,
        whole on cut _ form.Picture c.requires.form r.outcome c.in_ok-ending.ensures.outcome _ shows refl w.1,
      );
    }
