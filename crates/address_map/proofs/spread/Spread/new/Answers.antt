use Rattle.std.proofs.Common.{arith}
use Rattle.address_map.specs.Outcome.{IsFault}
use Rattle.address_map.proofs.spread.Spread.new.Goals.{then-modules-eq0-via-then-modules-eq0}
use Rattle.address_map.proofs.spread.Spread.new.Goals.{then-modules-eq0-via-else-modules-eq0+then-modules-gt32}
use Rattle.address_map.proofs.spread.Spread.new.Goals as goal

-- no modules, or too many
pub returns-then-modules-eq0-clause-err : goal.returns-then-modules-eq0-clause-err
unfolding IsFault
returns-then-modules-eq0-clause-err c = λ p.
    let least = p.0 in
    let most = p.1 in
    elim c.then-modules-eq0.branch [
      | then-modules-eq0-via-then-modules-eq0 w ↦ (let e = w.if-modules-eq0.true in
          omega arith)
      | then-modules-eq0-via-else-modules-eq0+then-modules-gt32 w ↦ (let e = w.if-modules-gt32.true in omega arith)
    ]

-- no power of two
pub returns-in-None-clause-err : goal.returns-in-None-clause-err
unfolding IsFault
returns-in-None-clause-err c = ((let e = c.if-modules-eq0.false in omega arith, c.if-modules-gt32.false), c.in-None.ensures)
