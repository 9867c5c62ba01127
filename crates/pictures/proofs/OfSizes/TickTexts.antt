-- Lines of round numbers from one on.
use Rattle.std.proofs.Common.{◌≡◌, ◌∙◌, ℕ, suc, ◌+◌, ◌-◌, ◌*◌, ◌<◌, ap, arith, sym}
use Rattle.svg_texts.specs.Shapes.{Over}
use Rattle.pictures.specs.declared.sizes.frame.Frame.{Frame}
use Rattle.pictures.specs.Sizes.Picture.{step, tick, ticks_from}

pub ticks_at : (f : Frame) (k j s : ℕ) → k < 6 → j ≡ k → s ≡ step f →
    ticks_from f k (6 - k) ≡ Over (tick f (j * s)) (ticks_from f (k + 1) (6 - (k + 1)))
ticks_at f k j s below same is =
    let more : 6 - k ≡ suc (6 - (k + 1)) = omega (arith, below) in
    ap (ticks_from f k) more ∙ ap (λ t. Over (tick f (k * t)) (ticks_from f (k + 1) (6 - (k + 1)))) (sym is)
    ∙ ap (λ n. Over (tick f (n * s)) (ticks_from f (k + 1) (6 - (k + 1)))) (sym same)
