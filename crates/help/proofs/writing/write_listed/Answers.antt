use Rattle.std.proofs.Common.{◌+◌, ◌-◌, ◌<◌, ◌≡◌, arith, length}
use Rattle.text_out.proofs.Writing.{writes_stopped}
use Rattle.text_out.proofs.Progress.{stops}
use Rattle.help.specs.declared.choice.Choice.TheVariants as choice
use Rattle.help.proofs.Listing.{listed_more, listed_next}
use Rattle.help.proofs.writing.write_listed.Goals as goal

-- the writer stopped within one kind
pub returns-in_err-write_among : goal.returns-in_err-write_among
returns-in_err-write_among g c =
    let ks = c.args.choices.now in
    let i = c.loop-choice.choice-index in
    let below : i < length ks = c.loop-choice-test.true in
    let counted : c.loop-choice.others + i ≡ length ks = c.loop-choice.invariant.counted in
    let next = listed_next ks i c.loop-choice.others (c.loop-choice.others - 1) choice.Name below counted (omega (arith, below, counted)) in
    record {
      written = writes_stopped _ _ _ c.from_residual.result _ c.from_residual.ensures.1
          (stops _ _ _ _ _ _ _ c.loop-choice.invariant.progress next c.in_err-write_among.ensures.written);
    }

pub loop-choice-preserved : goal.loop-choice-preserved
loop-choice-preserved g c =
    let ks = c.args.choices.now in
    let i = c.loop-choice.choice-index in
    let below : i < length ks = c.loop-choice-test.true in
    let counted : c.loop-choice.others + i ≡ length ks = c.loop-choice.invariant.counted in
    listed_more _ _ _ ks i c.loop-choice.others (c.loop-choice.others - 1) choice.Name c.loop-choice.invariant below
    (omega (arith, below, counted))
    c.in_ok-write_among.ensures.written
