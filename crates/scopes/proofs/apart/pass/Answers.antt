use Rattle.std.proofs.Common.{◌≡◌, ◌∙◌, ◌+◌, ◌-◌, ◌++◌, ℕ, ℤ, List, [], ◌∷◌, ap, length, replicate, take}
use Rattle.std.proofs.lemmas.Int.{to_z-of_z}
use mir.Syntax.{w64}
use mir.Val.{SFits, of_z, to_z}
use Rattle.scopes.specs.Lists.{lists_from}
use Rattle.scopes.proofs.Steps.{uncast}
use Rattle.scopes.proofs.Skips.{Topped, passed, passed_all, passed_fewer}
use Rattle.scopes.proofs.apart.pass.Goals as goal

-- the greatest value as the code passes it
back : (high : ℤ) (at : ℕ) (xs : List ℤ) → SFits w64 high →
    take (at + 1) xs ++ replicate (length xs - (at + 1)) (to_z w64 (of_z w64 high)) ≡ take (at + 1) xs ++ replicate
    (length xs - (at + 1)) high
back high at xs fits = ap (λ (z : ℤ). take (at + 1) xs ++ replicate (length xs - (at + 1)) z) (to_z-of_z w64 high fits)

stepped : (ys zs : List ℤ) (low high : ℤ) → SFits w64 low → SFits w64 high →
    lists_from (to_z w64 (of_z w64 low)) (to_z w64 (of_z w64 high)) ys ≡ ys ∷ lists_from (to_z w64 (of_z w64 low))
    (to_z w64 (of_z w64 high)) zs →
    lists_from low high ys ≡ ys ∷ lists_from low high zs
stepped ys zs low high f g h = uncast (λ (l k : ℤ). lists_from l k ys ≡ ys ∷ lists_from l k zs) low high f g h

ended : (ys : List ℤ) (low high : ℤ) → SFits w64 low → SFits w64 high →
    lists_from (to_z w64 (of_z w64 low)) (to_z w64 (of_z w64 high)) ys ≡ ys ∷ [] → lists_from low high ys ≡ ys ∷ []
ended ys low high f g h = uncast (λ (l k : ℤ). lists_from l k ys ≡ ys ∷ []) low high f g h

pub returns-clause-next : goal.returns-clause-next
returns-clause-next c = λ so.
    let xs = c.args.input.now in
    let ys = c.top.new.input in
    let t : Topped c.args.high xs ys c.args.at = record {
      place = c.requires.place;
      is = c.top.ensures
          ∙ back c.args.high c.args.at xs c.ranges.high;
    } in
    passed c.args.low c.args.high xs ys c.step.new.input c.args.at t c.requires.clashes
    (stepped ys c.step.new.input c.args.low c.args.high c.ranges.low c.ranges.high (c.step.ensures.next so))

pub returns-clause-fewer : goal.returns-clause-fewer
returns-clause-fewer c = λ so.
    let xs = c.args.input.now in
    let ys = c.top.new.input in
    let t : Topped c.args.high xs ys c.args.at = record {
      place = c.requires.place;
      is = c.top.ensures
          ∙ back c.args.high c.args.at xs c.ranges.high;
    } in
    passed_fewer c.args.low c.args.high xs ys c.step.new.input c.args.at t
    (stepped ys c.step.new.input c.args.low c.args.high c.ranges.low c.ranges.high (c.step.ensures.next so))

pub returns-clause-last : goal.returns-clause-last
returns-clause-last c = λ so.
    let xs = c.args.input.now in
    let ys = c.top.new.input in
    let t : Topped c.args.high xs ys c.args.at = record {
      place = c.requires.place;
      is = c.top.ensures
          ∙ back c.args.high c.args.at xs c.ranges.high;
    } in
    passed_all c.args.low c.args.high xs ys c.args.at t c.requires.clashes
    (ended ys c.args.low c.args.high c.ranges.low c.ranges.high (c.step.ensures.last so))
