use Rattle.std.proofs.Common.{rules, ◌≡◌, ap, ◌∙◌, sym, FitsSigned, of_z}
use Rattle.std.specs.Int.{w64, w128}
use Rattle.std.proofs.lemmas.Int.{to_z-of_z}
use Rattle.pram_values.specs.Division.{floor_quotient}
use Rattle.intervals.proofs.Ends.{both_passed}
use Rattle.intervals.proofs.remainders.has_one_quotient.Goals as goal

pub returns : goal.returns
returns c =
    let first : c.floor.result ≡ floor_quotient c.args.left.least c.args.right.least =
    both_passed floor_quotient c.least.result c.least-divisor.result _ _ _ (search rules) (search rules) c.floor.ensures c.least.ensures c.least-divisor.ensures in
    let last : c.floor-2.result ≡ floor_quotient c.args.left.greatest c.args.right.least =
    both_passed floor_quotient c.greatest.result c.least-divisor.result _ _ _ (search rules) (search rules) c.floor-2.ensures c.greatest.ensures c.least-divisor.ensures in
    let f : FitsSigned w128 c.floor.result = search rules in
    let g : FitsSigned w128 c.floor-2.result = search rules in
    let same = simp to_z-of_z at c.is_same.ensures in (
      λ t. record {
        point = c.is_point.ensures.0 c.if-not-is_point.false;
        nonzero = λ e. c.if-divisor-eq0.false (ap (of_z w64) (c.least-divisor.ensures ∙ e));
        same = sym first ∙ same.0 t ∙ last;
      },
      λ h. same.1 (first ∙ h.same ∙ sym last),
    )
