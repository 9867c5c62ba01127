-- The names of what is compared, one by one.
use Rattle.std.proofs.Common.{◌≡◌, ◌∙◌, ◌<◌, ◌+◌, Bool, List, ℕ, Some, ap, drop, get_or, length, sym}
use Rattle.std.proofs.lemmas.List.{at_drop_more}
use Rattle.std.specs.Bool.{if◌then◌else◌}
use Rattle.std.specs.List.{find}

-- the name at i
module _ (ps : List (List ℕ)) (i : ℕ) (part : List ℕ) (here : (i < length ps) × (part ≡ get_or ps i part)) where
  pub found_more : (p : List ℕ → Bool) (test : Bool) → test ≡ p part →
      find p (drop i ps) ≡ (if test then Some part else find p (drop (i + 1) ps))
  found_more p test is =
      at_drop_more (find p) ps i part here.0
      ∙ ap (λ q. if p q then Some q else find p (drop (i + 1) ps)) (sym here.1)
      ∙ ap (λ t. if t then Some part else find p (drop (i + 1) ps)) (sym is)
