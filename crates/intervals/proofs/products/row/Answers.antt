use Rattle.std.proofs.Common.{rules, ◌≡◌, ◌*ℤ◌}
use Rattle.intervals.proofs.Ends.{least_of_passed, greatest_of_passed, given_passed}
use Rattle.intervals.proofs.products.row.Goals as goal

pub returns-clause-least : goal.returns-clause-least
returns-clause-least c =
    let low : c.product.result ≡ c.args.x *ℤ c.args.right.least =
    given_passed ◌*ℤ◌ c.args.x c.least.result c.args.right.least c.product.result c.ranges.x (search rules) c.product.ensures c.least.ensures in
    let high : c.product-2.result ≡ c.args.x *ℤ c.args.right.greatest =
    given_passed ◌*ℤ◌ c.args.x c.greatest.result c.args.right.greatest c.product-2.result c.ranges.x (search rules) c.product-2.ensures c.greatest.ensures in
    least_of_passed c.product.result c.product-2.result _ _ c.between.result.least (search rules) (search rules) c.between.ensures.least low high

pub returns-clause-greatest : goal.returns-clause-greatest
returns-clause-greatest c =
    let low : c.product.result ≡ c.args.x *ℤ c.args.right.least =
    given_passed ◌*ℤ◌ c.args.x c.least.result c.args.right.least c.product.result c.ranges.x (search rules) c.product.ensures c.least.ensures in
    let high : c.product-2.result ≡ c.args.x *ℤ c.args.right.greatest =
    given_passed ◌*ℤ◌ c.args.x c.greatest.result c.args.right.greatest c.product-2.result c.ranges.x (search rules) c.product-2.ensures c.greatest.ensures in
    greatest_of_passed c.product.result c.product-2.result _ _ c.between.result.greatest (search rules) (search rules) c.between.ensures.greatest low high
