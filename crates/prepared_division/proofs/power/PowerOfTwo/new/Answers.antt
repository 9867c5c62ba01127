use Rattle.std.proofs.Common.{rules, ap, sym, ◌∙◌, to_z, w64, SFits, arith}
use Rattle.std.proofs.lemmas.Int.{to_z-of_z}
use Rattle.prepared_division.proofs.Powers.{shifted_signed}
use Rattle.prepared_division.proofs.power.PowerOfTwo.new.Goals as goal

pub returns-then-value-shift : goal.returns-then-value-shift
returns-then-value-shift c =
    let below = c.shifts-test.true in
    let fits : SFits w64 c.args.value = search rules in
    let same = sym (to_z-of_z w64 c.args.value fits) ∙ ap (to_z w64) c.if-value-shift.true in
    sym (same ∙ shifted_signed c.shifts.shift (omega (arith, below)))
