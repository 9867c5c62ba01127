use Rattle.std.proofs.Common.{rules, ◌≡◌, ℤ, ◌*ℤ◌}
use Rattle.std.specs.Int.{int_min, int_max}
use Rattle.intervals.proofs.Ends.{one_passed}
use Rattle.intervals.proofs.products.products.Goals as goal

pub returns-clause-least : goal.returns-clause-least
returns-clause-least c =
    let f = λ (z : ℤ). int_min (z *ℤ c.args.right.least) (z *ℤ c.args.right.greatest) in
    let low : c.row.result.least ≡ f c.args.left.least = one_passed f c.least.result c.args.left.least _ (search rules) c.row.ensures.least c.least.ensures in
    let high : c.row-2.result.least ≡ f c.args.left.greatest =
    one_passed f c.greatest.result c.args.left.greatest _ (search rules) c.row-2.ensures.least c.greatest.ensures in
    rw (low, high) at c.joined.ensures.least

pub returns-clause-greatest : goal.returns-clause-greatest
returns-clause-greatest c =
    let f = λ (z : ℤ). int_max (z *ℤ c.args.right.least) (z *ℤ c.args.right.greatest) in
    let low : c.row.result.greatest ≡ f c.args.left.least = one_passed f c.least.result c.args.left.least _ (search rules) c.row.ensures.greatest c.least.ensures in
    let high : c.row-2.result.greatest ≡ f c.args.left.greatest =
    one_passed f c.greatest.result c.args.left.greatest _ (search rules) c.row-2.ensures.greatest c.greatest.ensures in
    rw (low, high) at c.joined.ensures.greatest
