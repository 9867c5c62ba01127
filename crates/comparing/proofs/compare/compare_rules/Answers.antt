use Rattle.std.proofs.Common.{◌≡◌, refl, subst}
use Rattle.pram_model.specs.declared.rule.Rule.{Rule}
use Rattle.pram_model.specs.declared.rule.Rule.TheVariants.{Erew, Crew, Common, Priority, Sum}
use Rattle.pram_check.specs.OtherRule.{under}
use Rattle.pram_meaning.specs.Outcome.{IsOutcome}
use Rattle.rule_laws.specs.Order.{from_crew, from_erew, to_priority}
use Rattle.comparing.specs.RulesTold.{ahead}
use Rattle.comparing.proofs.Comparisons.{by_rule, compared, found_under, moved, next, then_known}
use Rattle.comparing.proofs.Told.{behind_ahead, still}
use Rattle.comparing.proofs.compare.compare_rules.Goals as goal

-- a run under erew tells crew
pub find-requires-clause-known : goal.find-requires-clause-known
find-requires-clause-known g c =
    let erew = c.in_ok-program in
    (Erew, from_erew, then_known Erew c.args.program erew.program _ _ _ _ _ erew.ensures.program erew.ensures.found)

pub find_ahead-requires-clause-crew : goal.find_ahead-requires-clause-crew
find_ahead-requires-clause-crew g c =
    let crew = c.in_ok-program-2 in
    then_known Crew c.in_ok-program.program crew.program _ _ _ _ _ crew.ensures.program crew.ensures.found

-- one under crew tells common
pub find-requires-2-clause-known : goal.find-requires-2-clause-known
find-requires-2-clause-known g c =
    let crew = c.in_ok-program-2 in
    let early = c.in_ok-program-3 in
    let rule = ahead c.rule-rule.result in
    let known = then_known Crew c.in_ok-program.program crew.program _ _ _ _ _ crew.ensures.program crew.ensures.found in
    let kept = still Crew rule crew.program crew.program _ _ _ _ _ _ known early.ensures.found in
    (Crew, from_crew refl, moved rule Crew crew.program early.program _ _ _ _ _ early.ensures.program kept)

-- one under common tells priority
pub find-requires-3-clause-known : goal.find-requires-3-clause-known
find-requires-3-clause-known g c =
    let common = c.in_ok-program-4 in (
      Common,
      to_priority,
      then_known Common c.in_ok-program-3.program common.program _ _ _ _ _ common.ensures.program common.ensures.found,
    )

-- one under crew tells sum, if that wasn't gone through before
pub find-requires-4-clause-known : goal.find-requires-4-clause-known
find-requires-4-clause-known g c =
    let crew = c.in_ok-program-2 in
    let early = c.in_ok-program-3 in
    let common = c.in_ok-program-4 in
    let priority = c.in_ok-program-5 in
    let rule = ahead c.rule-rule.result in
    let known = then_known rule crew.program early.program _ _ _ _ _ early.ensures.program early.ensures.found in
    let behind_common = still rule Common early.program early.program _ _ _ _ _ _ known common.ensures.found in
    let moved_on = moved Common rule early.program common.program _ _ _ _ _ common.ensures.program behind_common in
    let behind_priority = still rule Priority common.program common.program _ _ _ _ _ _ moved_on priority.ensures.found in (
      rule,
      behind_ahead c.rule-rule.result,
      moved Priority rule common.program priority.program _ _ _ _ _ priority.ensures.program behind_priority,
    )

pub returns-clause-comparison : goal.returns-clause-comparison
returns-clause-comparison g c =
    let p = c.args.program in
    let input = c.args.input.now in
    let n = c.args.bound in
    let erew = c.in_ok-program in
    let crew = c.in_ok-program-2 in
    let early = c.in_ok-program-3 in
    let common = c.in_ok-program-4 in
    let priority = c.in_ok-program-5 in
    let sum = c.in_ok-program-6 in
    let rule = ahead c.rule-rule.result in
    let under_erew : erew.program ≡ under Erew p = erew.ensures.program in
    let under_crew = next Erew Crew p _ _ under_erew crew.ensures.program in
    let under_early = next Crew rule p _ _ under_crew early.ensures.program in
    let under_common = next rule Common p _ _ under_early common.ensures.program in
    let under_priority = next Common Priority p _ _ under_common priority.ensures.program in
    let a = erew.ensures.found in
    let b = found_under Erew Crew p erew.program _ _ _ _ _ under_erew crew.ensures.found in
    let z = found_under Crew rule p crew.program _ _ _ _ _ under_crew early.ensures.found in
    let d = found_under rule Common p early.program _ _ _ _ _ under_early common.ensures.found in
    let e = found_under Common Priority p common.program _ _ _ _ _ under_common priority.ensures.found in
    let f = found_under Priority Sum p priority.program _ _ _ _ _ under_priority sum.ensures.found in
    let outcomes : (r : Rule) → IsOutcome (under r p) input n (by_rule a.0 b.0 d.0 e.0 f.0 r) = λ r.
    elim r as (λ r. IsOutcome (under r p) input n (by_rule a.0 b.0 d.0 e.0 f.0 r)) [
      | Erew ↦ a.1
      | Crew ↦ b.1
      | Common ↦ d.1
      | Priority ↦ e.1
      | Sum ↦ f.1
    ] in
    let early_is : IsOutcome (under (ahead p.rule) p) input n z.0 =
    subst (λ r. IsOutcome (under (ahead r) p) input n z.0) c.rule-rule.ensures z.1 in
    compared p input n _ early.ahead a.0 b.0 z.0 d.0 e.0 f.0 _ _ _ _ _ _ _ c.none-first.ensures a.2 b.2 z.2 d.2 e.2 f.2
    c.rule-rule.ensures c.bounded.ensures.bounded c.have_64_bits.ensures early_is outcomes
