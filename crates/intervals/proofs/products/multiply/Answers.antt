use Rattle.std.proofs.Common.{◌*ℤ◌, true}
use Rattle.intervals.proofs.Hulls.{tells_always, ends_given}
use Rattle.intervals.proofs.Corners.{products_hull}
use Rattle.intervals.proofs.products.multiply.Goals as goal

pub returns-clause-told : goal.returns-clause-told
returns-clause-told c =
    tells_always ◌*ℤ◌ c.args.left c.args.right _ _ c.cut.result (products_hull c.args.left c.args.right)
    (rw (c.products.ensures.least, c.products.ensures.greatest) at c.cut.ensures.cut) c.cut.ensures.zero

pub returns-clause-ends : goal.returns-clause-ends
returns-clause-ends c =
    ends_given (λ y. true) ◌*ℤ◌ c.args.left c.args.right _ _ c.cut.result.value c.cut.result.may_overflow (products_hull c.args.left c.args.right)
    (rw (c.products.ensures.least, c.products.ensures.greatest) at c.cut.ensures.cut)

pub returns-clause-cut : goal.returns-clause-cut
returns-clause-cut c = record {
  lo = _;
  hi = _;
  hull = products_hull c.args.left c.args.right;
  cut = rw (c.products.ensures.least, c.products.ensures.greatest) at c.cut.ensures.cut;
}
