use Rattle.std.proofs.Common.{ℕ, ◌≡◌, ◌<◌, ◌*◌, ◌∙◌, List, length, get_or, replicate, ap, sym, subst}
use lib.ListN.{length-replicate, get_or-replicate}
use Rattle.turnstile.proofs.Comings.{opens}
use Rattle.turnstile.proofs.Halves.{new_laid}
use Rattle.turnstile.proofs.barrier.Turnstile.new.Goals as goal

pub new-requires-2 : goal.new-requires-2
new-requires-2 c =
    let b = c.in_ok-blocks.blocks in let made = c.in_ok-blocks.ensures in let of = made.shape.0 in
    let zeros : c.as_slice.result.now ≡ replicate c.args.workers 0 = c.as_slice.ensures.value
    ∙ c.in_ok-words.ensures.items_if_clones_equal (λ y h. h) in
    opens b b.side c.as_slice.result.now c.in_ok-blocks.slots.items (subst (λ (n : ℕ). 0 < n) (sym of) c.requires.workers.0)
    (ap (λ (l : List ℕ). length l) zeros ∙ length-replicate c.args.workers 0 ∙ sym of)
    (λ w lw. ap (λ (l : List ℕ). get_or l w 0) zeros ∙ get_or-replicate c.args.workers w 0 0 (subst (λ (n : ℕ). w < n) of lw))
    (new_laid b c.in_ok-blocks.slots.items made.slots)

pub invariant_of-turnstile : goal.invariant_of-turnstile
invariant_of-turnstile c =
    let b = c.in_ok-blocks.blocks in let made = c.in_ok-blocks.ensures in let of = made.shape.0 in let ok = c.in-Ok.ensures.ok in
    let zeros : c.as_slice.result.now ≡ replicate c.args.workers 0 = c.as_slice.ensures.value
    ∙ c.in_ok-words.ensures.items_if_clones_equal (λ y h. h) in (
      ok.5 ∙ sym c.new_unchecked.ensures,
      ap (λ z. z.side) ok.5 ∙ of,
      ok.0 ∙ ap (λ (l : List ℕ). length l) zeros ∙ length-replicate c.args.workers 0,
      ok.1 ∙ (new_laid b c.in_ok-blocks.slots.items made.slots).0 ∙ ap (λ (n : ℕ). 2 * n * n) of,
      c.requires.workers.0,
      c.requires.workers.1,
    )
