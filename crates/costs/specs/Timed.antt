-- The time and the work of moments that are heard.
use Rattle.std.proofs.Common.{◌≡◌, ◌+◌, ◌∙◌, List, [], ◌++◌, ap, arith, length-append}
use Rattle.std.proofs.lemmas.Grind.{flat_map-append}
use Rattle.std.proofs.lemmas.List.Sums.{sum_by-append}
use Rattle.std.specs.List.{flat_map}
use Rattle.pram_meaning.specs.Moments.{Moment}
use Rattle.costs.specs.declared.taken.TimeAndWork.{TimeAndWork}
use Rattle.costs.specs.declared.time_step.TimeStep.{TimeStep}
use Rattle.costs.specs.Cost.{time, work}
use Rattle.costs.specs.Steps.{steps_of}

-- Those of these moments are counted on top.
abbrev pub HasTimed : TimeAndWork → List Moment → TimeAndWork → Type 0
HasTimed a ms b = (b.time ≡ a.time + time (flat_map steps_of ms)) × (b.work ≡ a.work + work (flat_map steps_of ms))

-- ---- the laws of a listener

pub times_nothing : (a : TimeAndWork) → HasTimed a [] a
times_nothing a = (omega arith, omega arith)

pub times_on : (a b c : TimeAndWork) (ms ns : List Moment) → HasTimed a ms b → HasTimed b ns c → HasTimed a (ms ++ ns) c
times_on a b c ms ns h k =
    let xs = flat_map steps_of ms in
    let ys = flat_map steps_of ns in
    let both = flat_map-append steps_of ms ns in
    let t : time (flat_map steps_of (ms ++ ns)) ≡ time xs + time ys = ap time both ∙ length-append xs ys in
    let w : work (flat_map steps_of (ms ++ ns)) ≡ work xs + work ys =
    ap work both ∙ sum_by-append (λ (s : TimeStep). s.processors) xs ys in
    let ht = h.0 in let hw = h.1 in let kt = k.0 in let kw = k.1 in
    (omega (arith, t, ht, kt), omega (arith, w, hw, kw))
