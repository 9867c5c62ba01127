use Rattle.std.proofs.Common.{◌∙◌, ℕ, Option, sym}
use Rattle.pram_meaning.specs.Listening.{step_action_is}
use Rattle.pram_meaning.specs.Sets.{state_in}
use Rattle.pram_meaning.specs.Store.{seen_by}
use Rattle.journal.specs.Causes.{Cause, known_cause}
use Rattle.journal.specs.FoundCauses.{cause_in}
use Rattle.journal.proofs.OwnParts.{own_found}
use Rattle.journal.proofs.together.own_cause.Goals as goal

pub returns-then-is_own : goal.returns-then-is_own
returns-then-is_own c =
    let f : ℕ → Option Cause =
    λ v. cause_in (seen_by c.args.program.now (state_in c.args.run.now c.args.team.now.items) v) (step_action_is c.args.action.now) in
    own_found f c.args.key c.args.parts.now c.loop-x.x-index c.x-item.result (known_cause c.cause_of_member.result)
    c.loop-x.invariant c.loop-x-test.true c.x-item.is (sym c.is_own.ensures ∙ c.if-is_own.true) c.cause_of_member.ensures
