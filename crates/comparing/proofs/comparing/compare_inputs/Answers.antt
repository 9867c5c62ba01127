use Rattle.std.proofs.Common.{◌≡◌, ◌∙◌, ◌+◌, ◌∷◌, Global, List, Vec, ap, drop, map, sym, ℤ}
use Rattle.std.proofs.lemmas.List.{at_drop_more}
use Rattle.comparing.specs.Found.{found_is, values_of}
use Rattle.comparing.proofs.Gone.{further}
use Rattle.comparing.proofs.comparing.compare_inputs.Goals as goal

pub loop-input-preserved : goal.loop-input-preserved
loop-input-preserved c =
    let xs = c.args.inputs.now in
    let i = c.loop-input.input-index in
    let x = c.input-item.result in
    let here = c.deref.result.now in
    let rest : List (List ℤ) = map values_of (drop (i + 1) xs) in
    let is : map values_of (drop i xs) ≡ here ∷ rest =
    at_drop_more (λ (ys : List (Vec ℤ Global)). map values_of ys) xs i x c.loop-input-test.true
    ∙ ap (λ (y : Vec ℤ Global). map values_of (y ∷ drop (i + 1) xs)) (sym c.input-item.is)
    ∙ ap (λ (v : List ℤ). v ∷ rest) (sym c.deref.ensures.value) in
    further c.args.precondition.now c.args.first.now c.args.second.now c.args.compared.now c.args.bound c.most_told-most.result
    (map values_of xs)
    (map values_of (drop i xs)) rest here (found_is c.loop-input.comparison) (found_is c.try_input.new.comparison) c.loop-input.invariant is
    c.in_ok-try_input.ensures.found
