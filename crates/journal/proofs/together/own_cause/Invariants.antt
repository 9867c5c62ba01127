use Rattle.std.proofs.Common.{◌≡◌, ℕ, Option, drop, map}
use Rattle.pram_meaning.specs.Judging.{part_is}
use Rattle.pram_meaning.specs.Listening.{step_action_is}
use Rattle.pram_meaning.specs.Sets.{state_in}
use Rattle.pram_meaning.specs.Store.{seen_by}
use Rattle.journal.specs.Causes.{Cause}
use Rattle.journal.specs.FoundCauses.{cause_in, own_cause}
use Rattle.journal.proofs.together.own_cause.Given as goal

-- it is that of what is left
abbrev pub invariant-loop-x : goal.invariant-loop-x
invariant-loop-x l =
    let f : ℕ → Option Cause = λ v. cause_in (seen_by l.program (state_in l.run l.team.items) v) (step_action_is l.action) in
    own_cause f l.key (map part_is (drop l.x-index l.parts)) ≡ own_cause f l.key (map part_is l.parts)
