use Rattle.std.proofs.Common.{rules}
use Rattle.abstract_runs.proofs.Setting.{cover_set, cover_past}
use Rattle.abstract_runs.proofs.storing.set_interval.Goals as goal

pub returns-then-place-len-clause-covers : goal.returns-then-place-len-clause-covers
returns-then-place-len-clause-covers c = λ zs v h i. cover_set c.args.items.now.items zs c.args.place c.args.value v h i

pub returns-else-place-len-clause-covers : goal.returns-else-place-len-clause-covers
returns-else-place-len-clause-covers c = λ zs v h i. cover_past c.args.items.now.items zs c.args.place v h (search rules)
