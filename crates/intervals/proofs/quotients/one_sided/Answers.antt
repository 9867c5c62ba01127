use Rattle.std.proofs.Common.{rules, ◌≡◌, ℤ}
use Rattle.std.specs.Int.{int_min, int_max}
use Rattle.pram_values.specs.Division.{floor_quotient}
use Rattle.intervals.specs.Corners.{least_corner, greatest_corner}
use Rattle.intervals.proofs.Ends.{one_passed}
use Rattle.intervals.proofs.Floors.{floors_hull}
use Rattle.intervals.proofs.quotients.one_sided.Goals as goal

lowest : (c : goal.After-joined) → c.joined.result.least ≡ least_corner floor_quotient c.args.left c.args.right
lowest c =
    let f = λ (z : ℤ). int_min (floor_quotient z c.args.right.least) (floor_quotient z c.args.right.greatest) in
    let low : c.row.result.least ≡ f c.args.left.least = one_passed f c.least.result c.args.left.least _ (search rules) c.row.ensures.least c.least.ensures in
    let high : c.row-2.result.least ≡ f c.args.left.greatest =
    one_passed f c.greatest.result c.args.left.greatest _ (search rules) c.row-2.ensures.least c.greatest.ensures in
    rw (low, high) at c.joined.ensures.least

highest : (c : goal.After-joined) → c.joined.result.greatest ≡ greatest_corner floor_quotient c.args.left c.args.right
highest c =
    let f = λ (z : ℤ). int_max (floor_quotient z c.args.right.least) (floor_quotient z c.args.right.greatest) in
    let low : c.row.result.greatest ≡ f c.args.left.least = one_passed f c.least.result c.args.left.least _ (search rules) c.row.ensures.greatest c.least.ensures in
    let high : c.row-2.result.greatest ≡ f c.args.left.greatest =
    one_passed f c.greatest.result c.args.left.greatest _ (search rules) c.row-2.ensures.greatest c.greatest.ensures in
    rw (low, high) at c.joined.ensures.greatest

pub returns : goal.returns
returns c = rw (lowest c, highest c) (floors_hull c.args.left c.args.right c.requires)
