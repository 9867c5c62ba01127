use Rattle.std.proofs.Common.{Err, Ok}
use Rattle.program_texts.specs.Status.{status_of}
use Rattle.command_facts.specs.Found.{cut_at}
use Rattle.command_facts.proofs.Steps.{all_of_it}
use Rattle.command_text.proofs.StepsWritten.{cut_in_lines, cut_in_outcome, cut_up_to, outcome_as, telling_by, told_in_words}
use Rattle.command_text.proofs.stepping.write_in_words.Goals as goal

pub returns-in_err-ending : goal.returns-in_err-ending
returns-in_err-ending g c =
    let s = c.args.steps.now in
    let all = s.limit.bound in
    let telling = telling_by c.args.on s _ _ c.telling_of-telling.result c.as_slice-text.ensures.value c.text-sized.ensures.value
    c.telling_of-telling.ensures in
    record {
      told = cut_up_to c.args.on s all _ _ _ c.in_err-ending.field-0.0 c.from_residual.ensures.1 (all_of_it s)
          (cut_in_lines c.args.on (cut_at s all) _ c.telling_of-telling.result c.requires.form telling _ _ c.in_err-ending.ensures.cut);
    }

pub returns-in_err-write_ending : goal.returns-in_err-write_ending
returns-in_err-write_ending g c =
    let s = c.args.steps.now in
    let r = c.in_ok-ending.ending in
    let cut = cut_at s r.bound in
    let telling = telling_by c.args.on s _ _ c.telling_of-telling.result c.as_slice-text.ensures.value c.text-sized.ensures.value
    c.telling_of-telling.ensures in
    let o = r.outcome in
    let w = outcome_as cut o _ (status_of o) _ _ (Err _) c.layout.ensures c.in_err-write_ending.ensures.written in
    record {
      told = cut_up_to c.args.on s r.bound _ _ _ c.in_err-write_ending.field-0.0 c.from_residual-in_err-write_ending.ensures.1
          c.in_ok-ending.ensures.ends
          (cut_in_outcome c.args.on cut _ c.telling_of-telling.result c.requires.form telling o c.in_ok-ending.ensures.outcome _ _
          c.in_ok-ending.ensures.lines (status_of o) _ w);
    }

pub returns : goal.returns
returns g c =
    let s = c.args.steps.now in
    let r = c.in_ok-ending.ending in
    let cut = cut_at s r.bound in
    let telling = telling_by c.args.on s _ _ c.telling_of-telling.result c.as_slice-text.ensures.value c.text-sized.ensures.value
    c.telling_of-telling.ensures in
    let o = r.outcome in
    let w = outcome_as cut o _ (status_of o) _ _ (Ok _) c.layout.ensures c.in_ok-write_ending.ensures.written in
    record {
      told = (
        c.in_ok-ending.ensures.ends,
        told_in_words c.args.on cut _ c.telling_of-telling.result c.requires.form telling o c.in_ok-ending.ensures.outcome _ _
            c.in_ok-ending.ensures.lines (status_of o) _ w,
      );
    }
