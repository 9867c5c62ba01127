-- The words of a module's answers, ask by ask.
use Rattle.std.proofs.Common.{◌≡◌, ℕ, ℤ, List, [], ◌∷◌, map, sym, ap, ◌∙◌}
use Rattle.std.proofs.lemmas.Simd.{map-map}
use Rattle.address_map.specs.Lawful.{Shape}
use Rattle.superstep_machine.specs.Words.{word_of, values_words}
use Rattle.superstep_machine.specs.WordReading.{asks_in}
use Rattle.combining.specs.declared.words.PlacedAsk.{PlacedAsk}
use Rattle.combining.specs.Gathering.{value_at}
use Rattle.combining.specs.Items.{ask_placed, asks_placed}
use Rattle.combining.specs.Answers.{answers}

module _ (m : Shape) (j : ℕ) (values : List ℤ) where
  abbrev asked : PlacedAsk → ℤ
  asked x = value_at values x.offset

  of_items : (ws : List ℕ) → answers m j values ws ≡ values_words (map asked (asks_placed m j ws))
  of_items ws = sym (ap values_words (map-map asked (ask_placed m) (asks_in m j ws)))

  pub answers_next : (ws behind : List ℕ) (x : PlacedAsk) → asks_placed m j ws ≡ x ∷ asks_placed m j behind →
      answers m j values ws ≡ word_of (value_at values x.offset) ∷ answers m j values behind
  answers_next ws behind x e =
      of_items ws ∙ ap (λ xs. values_words (map asked xs)) e ∙ ap (λ us. word_of (asked x) ∷ us) (sym (of_items behind))

  pub answers_end : (ws : List ℕ) → asks_placed m j ws ≡ [] → answers m j values ws ≡ []
  answers_end ws e = of_items ws ∙ ap (λ xs. values_words (map asked xs)) e
