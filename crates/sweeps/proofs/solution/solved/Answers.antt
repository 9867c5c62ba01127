use Rattle.std.proofs.Common.{◌≡◌, ◌∙◌, ap, sym, arith, neg_ℤ}
use Rattle.std.proofs.lemmas.Int.{ints}
use Rattle.sweeps.specs.Equations.{dot, entry, vector}
use Rattle.sweeps.specs.Wides.{integer}
use Rattle.sweeps.proofs.Linear.{dot_vectors}
use Rattle.sweeps.proofs.Solved.{same_quotient, within_842}
use Rattle.sweeps.proofs.solution.solved.Goals as goal

pub sum-sum-requires-clause-mine : goal.sum-sum-requires-clause-mine
sum-sum-requires-clause-mine c = within_842 c.args.column c.args.pivot.now c.requires.column c.requires.begins.bounded

pub quotient-requires-clause-some : goal.quotient-requires-clause-some
unfolding entry
quotient-requires-clause-some c zero = c.requires.begins.some (sym (ap integer c.at.ensures) ∙ zero)

pub returns : goal.returns
unfolding entry
returns c =
    let plus = c.negated.ensures.plus in
    let minus = c.negated.ensures.minus in
    let turned : integer c.negated.result ≡ neg_ℤ (integer c.sum-sum.result) = omega (arith, ints, plus, minus) in
    same_quotient (integer c.at.result) (entry c.args.pivot.now c.args.column) (integer c.negated.result)
    (neg_ℤ (dot 7 (entry c.args.pivot.now) (vector c.args.known.now))) (ap integer c.at.ensures)
    (turned ∙ ap neg_ℤ (c.sum-sum.ensures.value
    ∙ dot_vectors 7 (entry c.args.pivot.now) (entry c.of_formula.result) (vector c.args.known.now) c.of_formula.ensures.entries))
    c.quotient.result c.quotient.ensures
