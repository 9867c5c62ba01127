use Rattle.std.proofs.Common.{◌≡◌, refl, subst, sym}
use Rattle.pram_model.specs.declared.rule.Rule.TheVariants.{Crew}
use Rattle.pram_check.specs.OtherRule.{under}
use Rattle.rule_laws.specs.Order.{from_crew}
use Rattle.comparing.specs.Judged.{IsFoundUnder}
use Rattle.comparing.specs.RulesTold.{ahead}
use Rattle.comparing.proofs.Told.{crew_ahead}
use Rattle.comparing.proofs.compare.find_ahead.Goals as goal

pub find-requires-clause-known : goal.find-requires-clause-known
find-requires-clause-known g c = (Crew, from_crew refl, c.requires.crew)

pub returns-in-Erew : goal.returns-in-Erew
returns-in-Erew g c =
    let p = c.args.program in
    let first = c.args.first.now in
    let same : ahead c.args.declared ≡ Crew = crew_ahead c.args.declared c.in-Erew.is in
    record {
      program = subst (λ r. c.under.result ≡ under r p) (sym same) c.under.ensures.value;
      found = subst (λ r. IsFoundUnder r p c.args.given.input.now c.args.given.bound first c.args.crew first) (sym same) c.requires.crew;
      fitting = λ e. absurd (cc e);
    }
