use Rattle.intervals.proofs.operation.by_operator.Goals as goal

pub returns-in-Or-clause-told : goal.returns-in-Or-clause-told
returns-in-Or-clause-told c = rw c.in-Or.is c.either.ensures.told

pub returns-in-Or-clause-reached : goal.returns-in-Or-clause-reached
returns-in-Or-clause-reached c = rw c.in-Or.is (λ t. c.either.ensures.ends)

pub returns-in-And-clause-told : goal.returns-in-And-clause-told
returns-in-And-clause-told c = rw c.in-And.is c.both.ensures.told

pub returns-in-And-clause-reached : goal.returns-in-And-clause-reached
returns-in-And-clause-reached c = rw c.in-And.is (λ t. c.both.ensures.ends)

pub returns-in-Equal-clause-told : goal.returns-in-Equal-clause-told
returns-in-Equal-clause-told c = rw c.in-Equal.is c.compare.ensures.told

pub returns-in-Equal-clause-reached : goal.returns-in-Equal-clause-reached
returns-in-Equal-clause-reached c = rw c.in-Equal.is (λ t. c.compare.ensures.ends)

pub returns-in-Unequal-clause-told : goal.returns-in-Unequal-clause-told
returns-in-Unequal-clause-told c = rw c.in-Unequal.is c.compare-in-Unequal.ensures.told

pub returns-in-Unequal-clause-reached : goal.returns-in-Unequal-clause-reached
returns-in-Unequal-clause-reached c = rw c.in-Unequal.is (λ t. c.compare-in-Unequal.ensures.ends)

pub returns-in-Less-clause-told : goal.returns-in-Less-clause-told
returns-in-Less-clause-told c = rw c.in-Less.is c.compare-in-Less.ensures.told

pub returns-in-Less-clause-reached : goal.returns-in-Less-clause-reached
returns-in-Less-clause-reached c = rw c.in-Less.is (λ t. c.compare-in-Less.ensures.ends)

pub returns-in-AtMost-clause-told : goal.returns-in-AtMost-clause-told
returns-in-AtMost-clause-told c = rw c.in-AtMost.is c.compare-in-AtMost.ensures.told

pub returns-in-AtMost-clause-reached : goal.returns-in-AtMost-clause-reached
returns-in-AtMost-clause-reached c = rw c.in-AtMost.is (λ t. c.compare-in-AtMost.ensures.ends)

pub returns-in-Greater-clause-told : goal.returns-in-Greater-clause-told
returns-in-Greater-clause-told c = rw c.in-Greater.is c.compare-in-Greater.ensures.told

pub returns-in-Greater-clause-reached : goal.returns-in-Greater-clause-reached
returns-in-Greater-clause-reached c = rw c.in-Greater.is (λ t. c.compare-in-Greater.ensures.ends)

pub returns-in-AtLeast-clause-told : goal.returns-in-AtLeast-clause-told
returns-in-AtLeast-clause-told c = rw c.in-AtLeast.is c.compare-in-AtLeast.ensures.told

pub returns-in-AtLeast-clause-reached : goal.returns-in-AtLeast-clause-reached
returns-in-AtLeast-clause-reached c = rw c.in-AtLeast.is (λ t. c.compare-in-AtLeast.ensures.ends)

pub returns-in-Add-clause-told : goal.returns-in-Add-clause-told
returns-in-Add-clause-told c = rw c.in-Add.is c.add.ensures.told

pub returns-in-Add-clause-reached : goal.returns-in-Add-clause-reached
returns-in-Add-clause-reached c = rw c.in-Add.is (λ t. c.add.ensures.ends)

pub returns-in-Subtract-clause-told : goal.returns-in-Subtract-clause-told
returns-in-Subtract-clause-told c = rw c.in-Subtract.is c.subtract.ensures.told

pub returns-in-Subtract-clause-reached : goal.returns-in-Subtract-clause-reached
returns-in-Subtract-clause-reached c = rw c.in-Subtract.is (λ t. c.subtract.ensures.ends)

pub returns-in-Multiply-clause-told : goal.returns-in-Multiply-clause-told
returns-in-Multiply-clause-told c = rw c.in-Multiply.is c.multiply.ensures.told

pub returns-in-Multiply-clause-reached : goal.returns-in-Multiply-clause-reached
returns-in-Multiply-clause-reached c = rw c.in-Multiply.is (c.multiply.ensures.ends)

pub returns-in-Divide-clause-told : goal.returns-in-Divide-clause-told
returns-in-Divide-clause-told c = rw c.in-Divide.is c.divide_by.ensures.told

pub returns-in-Divide-clause-reached : goal.returns-in-Divide-clause-reached
returns-in-Divide-clause-reached c = rw c.in-Divide.is (c.divide_by.ensures.ends)

pub returns-in-Remainder-clause-told : goal.returns-in-Remainder-clause-told
returns-in-Remainder-clause-told c = rw c.in-Remainder.is c.remainder_by.ensures.told

pub returns-in-Remainder-clause-reached : goal.returns-in-Remainder-clause-reached
returns-in-Remainder-clause-reached c = rw c.in-Remainder.is (c.remainder_by.ensures.ends)

pub returns-in-Multiply-clause-bounded : goal.returns-in-Multiply-clause-bounded
returns-in-Multiply-clause-bounded c = rw c.in-Multiply.is c.multiply.ensures.cut

pub returns-in-Divide-clause-bounded : goal.returns-in-Divide-clause-bounded
returns-in-Divide-clause-bounded c = rw c.in-Divide.is c.divide_by.ensures.cut

pub returns-in-Remainder-clause-bounded : goal.returns-in-Remainder-clause-bounded
returns-in-Remainder-clause-bounded c = rw c.in-Remainder.is c.remainder_by.ensures.range

pub returns-in-Or-clause-bounded : goal.returns-in-Or-clause-bounded
returns-in-Or-clause-bounded c = rw c.in-Or.is tt

pub returns-in-And-clause-bounded : goal.returns-in-And-clause-bounded
returns-in-And-clause-bounded c = rw c.in-And.is tt

pub returns-in-Equal-clause-bounded : goal.returns-in-Equal-clause-bounded
returns-in-Equal-clause-bounded c = rw c.in-Equal.is tt

pub returns-in-Unequal-clause-bounded : goal.returns-in-Unequal-clause-bounded
returns-in-Unequal-clause-bounded c = rw c.in-Unequal.is tt

pub returns-in-Less-clause-bounded : goal.returns-in-Less-clause-bounded
returns-in-Less-clause-bounded c = rw c.in-Less.is tt

pub returns-in-AtMost-clause-bounded : goal.returns-in-AtMost-clause-bounded
returns-in-AtMost-clause-bounded c = rw c.in-AtMost.is tt

pub returns-in-Greater-clause-bounded : goal.returns-in-Greater-clause-bounded
returns-in-Greater-clause-bounded c = rw c.in-Greater.is tt

pub returns-in-AtLeast-clause-bounded : goal.returns-in-AtLeast-clause-bounded
returns-in-AtLeast-clause-bounded c = rw c.in-AtLeast.is tt

pub returns-in-Add-clause-bounded : goal.returns-in-Add-clause-bounded
returns-in-Add-clause-bounded c = rw c.in-Add.is tt

pub returns-in-Subtract-clause-bounded : goal.returns-in-Subtract-clause-bounded
returns-in-Subtract-clause-bounded c = rw c.in-Subtract.is tt
