use Rattle.std.proofs.Common.{◌∙◌, ap, map}
use Rattle.pram_meaning.specs.Listening.{action_is}
use Rattle.pram_meaning.specs.Runs.{effect_is, state_of}
use Rattle.journal.specs.Entries.{act_is}
use Rattle.journal.specs.Acts.{alone_acts}
use Rattle.journal.proofs.Told.{done_alone}
use Rattle.journal.proofs.ran.ran_alone.Goals as goal

pub returns : goal.returns
returns c =
    let written = c.written_alone-written.result in
    let acts = c.in_ok-acts.ensures
    ∙ ap (λ cells. alone_acts cells c.args.trail.now c.args.effect.now.cell written) c.deref.ensures.value in
    done_alone c.args.location (action_is c.args.action.now) (state_of c.args.run.now) c.args.trail.now (effect_is c.args.effect.now)
    (map act_is c.in_ok-acts.acts.items) c.in_ok-cells.cells.items c.in_ok-variables.variables.items c.new.result.items
    c.in_ok-printed.printed.items written acts c.written_alone-written.ensures c.in_ok-cells.ensures c.in_ok-variables.ensures
    c.new.ensures.items c.in_ok-printed.ensures
