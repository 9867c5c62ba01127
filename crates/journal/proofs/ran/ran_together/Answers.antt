use Rattle.std.proofs.Common.{◌∙◌, ap, map}
use Rattle.pram_meaning.specs.Judging.{part_is}
use Rattle.pram_meaning.specs.Listening.{step_action_is}
use Rattle.pram_meaning.specs.Sets.{state_in}
use Rattle.journal.specs.Entries.{act_is}
use Rattle.journal.specs.Acts.{act_of}
use Rattle.journal.proofs.Told.{done_together}
use Rattle.journal.proofs.ran.ran_together.Goals as goal

pub returns : goal.returns
returns c =
    let parts = map part_is c.args.parts.now in
    let acts = c.in_ok-acts.ensures ∙ ap (λ cells. map (act_of cells) parts) c.deref.ensures.value in
    done_together c.args.program.now c.args.location (step_action_is c.args.action.now) (state_in c.args.run.now c.args.team.now.items)
    (map part_is c.args.parts.now) (map act_is c.in_ok-acts.acts.items) c.in_ok-cells.cells.items c.new.result.items
    c.in_ok-locals.locals.items c.new-2.result.items acts (c.in_ok-cells.ensures c.args.team.now.items)
    c.new.ensures.items c.in_ok-locals.ensures c.new-2.ensures.items
