use Rattle.std.proofs.Common.{◌≡◌, ◌∙◌, ◌++◌, ap, sym, to_z, of_z}
use Rattle.std.specs.Prelude.{unsigned_abs}
use Rattle.std.specs.Int.{w128}
use Rattle.std.proofs.lemmas.Int.{to_z-of_z}
use Rattle.text_out.proofs.Progress.{breaks_off, closes, goes_on, starts}
use Rattle.sweeps.specs.GrowthText.{product_text, sign_text, signed_text}
use Rattle.sweeps.proofs.growth_text.write_signed.Goals as goal

pub returns-in_err-write_all : goal.returns-in_err-write_all
returns-in_err-write_all g c =
    let z = c.args.coefficient in
    let back : to_z w128 (of_z w128 z) ≡ z = to_z-of_z w128 z c.ranges.coefficient in
    let sign : c.sign.result.now ≡ sign_text c.args.first z = c.sign.ensures ∙ ap (sign_text c.args.first) back in
    let rest = product_text c.args.variable.now (unsigned_abs z) c.args.term in
    record {
      written = breaks_off _ _ _ _ _ c.sign.result.now rest c.from_residual.result _ c.from_residual.ensures.1
          (starts _ _) (ap (λ t. t ++ rest) (sym sign)) c.in_err-write_all.ensures.written;
    }

pub returns : goal.returns
returns g c =
    let z = c.args.coefficient in
    let back : to_z w128 (of_z w128 z) ≡ z = to_z-of_z w128 z c.ranges.coefficient in
    let sign : c.sign.result.now ≡ sign_text c.args.first z = c.sign.ensures ∙ ap (sign_text c.args.first) back in
    let size : c.unsigned_abs.result ≡ unsigned_abs z = c.unsigned_abs.ensures.value ∙ ap unsigned_abs back in
    let product = product_text c.args.variable.now c.unsigned_abs.result c.args.term in
    let whole : signed_text c.args.variable.now c.args.first z c.args.term ≡ c.sign.result.now ++ product =
    ap (λ t. t ++ product_text c.args.variable.now (unsigned_abs z) c.args.term) (sym sign)
    ∙ ap (λ m. c.sign.result.now ++ product_text c.args.variable.now m c.args.term) (sym size) in
    record {
      written = closes _ _ _ _ product c.write_product.result
          (goes_on _ _ _ _ _ c.sign.result.now product (starts _ _) whole c.in_ok-write_all.ensures.written)
          c.write_product.ensures.written;
    }
