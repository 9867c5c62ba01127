-- The parts of a word, one by one.
use Rattle.std.proofs.Common.{◌≡◌, ◌∙◌, ◌<◌, ◌+◌, ◌||◌, Bool, List, ℕ, ap, drop, get_or, length, not, sym}
use Rattle.std.specs.Bool.{if◌then◌else◌}
use Rattle.std.specs.Prelude.{Some}
use Rattle.std.proofs.lemmas.List.{at_drop_more}
use Rattle.pram_model.specs.Layout.{SharedEntry}
use Rattle.pram_model.specs.Names.{is_one_of, same_text}
use Rattle.memory_texts.specs.Chosen.{declares, unknown_part}

-- the part at i
module _ (ps : List (List ℕ)) (i : ℕ) (part : List ℕ) (here : (i < length ps) × (part ≡ get_or ps i part)) where
  pub stands_more : (name read : List ℕ) (same : Bool) → read ≡ part → same ≡ same_text read name →
      is_one_of (drop i ps) name ≡ (same || is_one_of (drop (i + 1) ps) name)
  stands_more name read same is test =
      at_drop_more (λ l. is_one_of l name) ps i part here.0
      ∙ ap (λ p. same_text p name || is_one_of (drop (i + 1) ps) name) (sym here.1 ∙ sym is)
      ∙ ap (λ t. t || is_one_of (drop (i + 1) ps) name) (sym test)

  pub unknown_more : (layout : List SharedEntry) (read : List ℕ) (known : Bool) → read ≡ part → known ≡ declares layout read →
      unknown_part layout (drop i ps) ≡ (if not known then Some part else unknown_part layout (drop (i + 1) ps))
  unknown_more layout read known is test =
      at_drop_more (unknown_part layout) ps i part here.0
      ∙ ap (λ p. if not (declares layout p) then Some p else unknown_part layout (drop (i + 1) ps)) (sym here.1)
      ∙ ap (λ t. if not t then Some part else unknown_part layout (drop (i + 1) ps)) (sym (test ∙ ap (declares layout) is))
