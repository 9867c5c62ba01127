use Rattle.std.proofs.Common.{◌≡◌, ◌∙◌, ℤ, List, None, Ok, Some, ap, arith, subst}
use Rattle.std.specs.List.{find}
use Rattle.scopes.specs.Shrunk.{nearer_at}
use Rattle.scopes.specs.Wrong.{goes_wrong}
use Rattle.scopes.proofs.Nearer.{found_there, none_anywhere, none_there}
use Rattle.scopes.proofs.shrinking.shrink_once.Goals as goal

pub returns-then-branch-clause-shrinks : goal.returns-then-branch-clause-shrinks
returns-then-branch-clause-shrinks c = λ so.
    let xs = c.args.input.now in
    let k = c.loop-place.place in
    let ys = c.shrink_at.new.input in
    let wanted = goes_wrong c.args.scope c.args.specification.now c.args.program.now c.args.bound c.args.wrong in
    let same = c.loop-place.invariant.same in
    let put : find wanted (nearer_at xs k) ≡ Some ys =
    subst (λ (zs : List ℤ). find wanted (nearer_at zs k) ≡ Some ys) same (c.in_ok-shrink_at.ensures.put (ap Ok c.if-branch.true)) in
    found_there wanted xs ys k (omega arith) c.loop-place.invariant.left put

pub loop-place-preserved : goal.loop-place-preserved
loop-place-preserved c =
    let xs = c.args.input.now in
    let k = c.loop-place.place in
    let wanted = goes_wrong c.args.scope c.args.specification.now c.args.program.now c.args.bound c.args.wrong in
    let same = c.loop-place.invariant.same in
    let stays = c.in_ok-shrink_at.ensures.none (ap Ok c.if-branch.false) in
    let none : find wanted (nearer_at xs k) ≡ None =
    subst (λ (zs : List ℤ). find wanted (nearer_at zs k) ≡ None) same stays.1 in
    record {
      same = stays.0 ∙ same;
      left = none_there wanted xs k (omega arith) c.loop-place.invariant.left none;
    }

pub returns-clause-stays : goal.returns-clause-stays
returns-clause-stays c = λ so.
    let xs = c.args.input.now in
    let k = c.loop-place.place in
    let wanted = goes_wrong c.args.scope c.args.specification.now c.args.program.now c.args.bound c.args.wrong in
    (c.loop-place.invariant.same, none_anywhere wanted xs k (omega arith) c.loop-place.invariant.left)
