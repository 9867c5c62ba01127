use Rattle.std.proofs.Common.{rules, ◌≡◌, ℤ, pos, ◌+ℤ◌, refl}
use Rattle.std.specs.Int.{int_min}
use Rattle.intervals.specs.Remainders.{IsRemainderRange}
use Rattle.intervals.proofs.Ends.{one_passed}
use Rattle.intervals.proofs.Rests.{bounds_sound}
use Rattle.intervals.proofs.remainders.bounds.Goals as goal

low : (c : goal.After-from_to) → c.from_to.result.least ≡ int_min (pos 0) (c.args.right.least +ℤ pos 1)
low c = one_passed (λ (z : ℤ). z) c.lowest.result _ c.from_to.result.least (search rules) c.from_to.ensures.least c.lowest.ensures

high : (c : goal.After-from_to) → c.from_to.result.greatest ≡ c.highest.result
high c = one_passed (λ (z : ℤ). z) c.highest.result _ c.from_to.result.greatest (search rules) c.from_to.ensures.greatest refl

range : (c : goal.After-from_to) → IsRemainderRange c.args.left c.args.right c.from_to.result
range c = record {
  least = low c;
  greatest = record { capped = rw (high c) c.highest.ensures.capped; free = rw (high c) c.highest.ensures.free };
}

pub returns-clause-sound : goal.returns-clause-sound
returns-clause-sound c = bounds_sound c.args.left c.args.right c.from_to.result (range c)

pub returns-clause-range : goal.returns-clause-range
returns-clause-range c = range c
