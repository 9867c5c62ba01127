-- The declarations, one by one.
use Rattle.std.proofs.Common.{◌≡◌, ◌<◌, ◌+◌, ◌++◌, ◌||◌, ◌∷◌, ◌∙◌, Bool, List, ℕ, ℤ, ap, drop, false, length, refl, slice_get, sym, take}
use Rattle.std.proofs.Common.{true}
use Rattle.std.specs.Bool.{if◌then◌else◌}
use Rattle.pram_model.specs.Names.{same_text}
use Rattle.program_texts.proofs.ShownLemmas.{entry_at, known_at}
use Rattle.memory_texts.specs.Cells.{declaration}
use Rattle.memory_texts.specs.Chosen.{chosen_lines, declares, line_if_chosen}
use Rattle.pram_model.specs.Layout.{size}
use Rattle.memory_texts.specs.declared.choice.Choice.{Choice}
use Rattle.memory_texts.specs.Chosen.{is_chosen}
use Rattle.std.specs.Prelude.{Option, Some, IfSome}
use Rattle.pram_model.specs.Layout.{SharedEntry}

-- the declaration at i has the name, or another one behind it
module _ (layout : List SharedEntry) (i : ℕ) (name read : List ℕ) (same : Bool) (below : i < length layout)
    (named : IfSome (slice_get layout i) (λ e. read ≡ e.name)) (test : same ≡ same_text read name) where
  turn : (e : SharedEntry) → slice_get layout i ≡ Some e → drop i layout ≡ e ∷ drop (i + 1) layout →
      declaration i (drop i layout) name ≡ (if same then Some (i, e.bounds) else declaration (i + 1) (drop (i + 1) layout) name)
  turn e found split =
      ap (λ l. declaration i l name) split
      ∙ ap (λ t. if t then Some (i, e.bounds) else declaration (i + 1) (drop (i + 1) layout) name)
      (sym (test ∙ ap (λ n. same_text n name) (known_at layout i e (λ e. read ≡ e.name) found named)))

  pub declared_here : (bounds : Option (ℤ × ℤ)) → IfSome (slice_get layout i) (λ e. bounds ≡ e.bounds) → same ≡ true →
      Some (i, bounds) ≡ declaration i (drop i layout) name
  declared_here bounds bounded is =
      let (e, found, split) = entry_at layout i below in
      ap (λ b. Some (i, b)) (known_at layout i e (λ e. bounds ≡ e.bounds) found bounded)
      ∙ sym (turn e found split ∙ ap (λ t. if t then Some (i, e.bounds) else declaration (i + 1) (drop (i + 1) layout) name) is)

  pub declared_behind : same ≡ false → declaration i (drop i layout) name ≡ declaration (i + 1) (drop (i + 1) layout) name
  declared_behind is =
      let (e, found, split) = entry_at layout i below in
      turn e found split ∙ ap (λ t. if t then Some (i, e.bounds) else declaration (i + 1) (drop (i + 1) layout) name) is

  pub declares_more : declares (drop i layout) name ≡ (same || declares (drop (i + 1) layout) name)
  declares_more =
      let (e, found, split) = entry_at layout i below in
      ap (λ l. declares l name) split
      ∙ ap (λ t. t || declares (drop (i + 1) layout) name)
      (sym (test ∙ ap (λ n. same_text n name) (known_at layout i e (λ e. read ≡ e.name) found named)))

-- the line of a declaration, if it is chosen, and those of the ones behind it
first_lines : (choice : Choice) (e : SharedEntry) (es : List SharedEntry) (memory : List ℤ) →
    chosen_lines choice (e ∷ es) memory ≡ line_if_chosen choice e (take (size e.bounds) memory)
    ++ chosen_lines choice es (drop (size e.bounds) memory)
first_lines choice e es memory = by (is_chosen choice e.name) refl
  where
    by : (t : Bool) → t ≡ is_chosen choice e.name → chosen_lines choice (e ∷ es) memory
        ≡ line_if_chosen choice e (take (size e.bounds) memory) ++ chosen_lines choice es (drop (size e.bounds) memory)
    by true is = rw (sym is) refl
    by false is = rw (sym is) refl

-- those from i on
pub chosen_at : (choice : Choice) (layout : List SharedEntry) (i : ℕ) (rest values others : List ℤ) (name : List ℕ)
    (bounds : Option (ℤ × ℤ)) (count : ℕ) →
    i < length layout
    → IfSome (slice_get layout i) (λ e. name ≡ e.name) → IfSome (slice_get layout i) (λ e. bounds ≡ e.bounds) →
    IfSome (slice_get layout i) (λ e. count ≡ size e.bounds)
    → values ≡ take count rest → others ≡ drop count rest
    → chosen_lines choice (drop i layout) rest ≡ line_if_chosen choice record { name = name; bounds = bounds } values
    ++ chosen_lines choice (drop (i + 1) layout) others
chosen_at choice layout i rest values others name bounds count below named bounded counted first behind =
    let (e, found, split) = entry_at layout i below in
    let named' = known_at layout i e (λ e. name ≡ e.name) found named in
    let bounded' = known_at layout i e (λ e. bounds ≡ e.bounds) found bounded in
    let counted' = known_at layout i e (λ e. count ≡ size e.bounds) found counted in
    let lines = λ (l : List SharedEntry) (m : List ℤ). chosen_lines choice l m in
    ap (λ l. lines l rest) split ∙ first_lines choice e (drop (i + 1) layout) rest
    ∙ ap (λ n. line_if_chosen choice e (take n rest) ++ lines (drop (i + 1) layout) (drop n rest)) (sym counted')
    ∙ ap (λ l. line_if_chosen choice e l ++ lines (drop (i + 1) layout) (drop count rest)) (sym first)
    ∙ ap (λ l. line_if_chosen choice e values ++ lines (drop (i + 1) layout) l) (sym behind)
    ∙ ap (λ n. line_if_chosen choice record { name = n; bounds = e.bounds } values ++ lines (drop (i + 1) layout) others) (sym named')
    ∙ ap (λ b. line_if_chosen choice record { name = name; bounds = b } values ++ lines (drop (i + 1) layout) others) (sym bounded')
