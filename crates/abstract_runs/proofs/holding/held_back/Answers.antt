use Rattle.std.proofs.Common.{arith, ◌≤ℤ◌}
use Rattle.std.proofs.lemmas.Int.{ints}
use Rattle.abstract_runs.proofs.holding.held_back.Goals as goal

pub returns-in-Some : goal.returns-in-Some
returns-in-Some c = λ o z from near i.
    let a = from.least in let b = from.greatest in let d = near.least in let e = near.most in let g = i.least in let h = i.greatest in
    let low : c.lower_end-least.result ≤ℤ z = c.lower_end-least.ensures z (omega (arith, ints)) (omega (arith, ints)) in
    let high : z ≤ℤ c.upper_end-greatest.result = c.upper_end-greatest.ensures z (omega (arith, ints)) (omega (arith, ints)) in
    (c.in-Some.ensures.members z).1 (omega (arith, ints), omega (arith, ints))
