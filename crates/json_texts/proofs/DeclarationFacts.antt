-- The declarations, one by one.
use Rattle.std.proofs.Common.{◌≡◌, ◌<◌, ◌+◌, ◌++◌, ◌∙◌, ◌∷◌, Bool, List, ℕ, ap, append_assoc, drop, false, length, refl, slice_get}
use Rattle.std.proofs.Common.{sym, take, true}
use Rattle.std.specs.Prelude.{ℤ, Option, IfSome}
use Rattle.serde_json.specs.Data.{Data}
use Rattle.pram_model.specs.Layout.{SharedEntry, size}
use Rattle.program_texts.proofs.ShownLemmas.{entry_at, known_at}
use Rattle.memory_texts.specs.Chosen.{chosen, is_chosen}
use Rattle.memory_texts.specs.declared.choice.Choice.{Choice}
use Rattle.json_texts.specs.OutcomeFacts.{facts_if_chosen, memory_facts}

-- the facts of the chosen declarations
abbrev pub chosen_memory : Choice → List SharedEntry → (memory : List ℤ) → List Data
chosen_memory choice layout memory = memory_facts (chosen choice layout memory)

-- those of the first declaration, if it is chosen, and of the ones behind it
first_facts : (choice : Choice) (e : SharedEntry) (es : List SharedEntry) (memory : List ℤ) →
    chosen_memory choice (e ∷ es) memory ≡ facts_if_chosen choice e (take (size e.bounds) memory)
    ++ chosen_memory choice es (drop (size e.bounds) memory)
first_facts choice e es memory = by (is_chosen choice e.name) refl
  where
    by : (t : Bool) → t ≡ is_chosen choice e.name → chosen_memory choice (e ∷ es) memory
        ≡ facts_if_chosen choice e (take (size e.bounds) memory) ++ chosen_memory choice es (drop (size e.bounds) memory)
    by true is = rw (sym is) refl
    by false is = rw (sym is) refl

-- those from i on
pub memory_at : (choice : Choice) (layout : List SharedEntry) (i : ℕ) (rest values others : List ℤ) (name : List ℕ)
    (bounds : Option (ℤ × ℤ)) (count : ℕ) →
    i < length layout
    → IfSome (slice_get layout i) (λ e. name ≡ e.name) → IfSome (slice_get layout i) (λ e. bounds ≡ e.bounds) →
    IfSome (slice_get layout i) (λ e. count ≡ size e.bounds)
    → values ≡ take count rest → others ≡ drop count rest
    → chosen_memory choice (drop i layout) rest ≡ facts_if_chosen choice record { name = name; bounds = bounds } values
    ++ chosen_memory choice (drop (i + 1) layout) others
memory_at choice layout i rest values others name bounds count below named bounded counted first behind =
    let (e, found, split) = entry_at layout i below in
    let named' = known_at layout i e (λ e. name ≡ e.name) found named in
    let bounded' = known_at layout i e (λ e. bounds ≡ e.bounds) found bounded in
    let counted' = known_at layout i e (λ e. count ≡ size e.bounds) found counted in
    let facts = λ (l : List SharedEntry) (m : List ℤ). chosen_memory choice l m in
    ap (λ l. facts l rest) split ∙ first_facts choice e (drop (i + 1) layout) rest
    ∙ ap (λ n. facts_if_chosen choice e (take n rest) ++ facts (drop (i + 1) layout) (drop n rest)) (sym counted')
    ∙ ap (λ l. facts_if_chosen choice e l ++ facts (drop (i + 1) layout) (drop count rest)) (sym first)
    ∙ ap (λ l. facts_if_chosen choice e values ++ facts (drop (i + 1) layout) l) (sym behind)
    ∙ ap (λ n. facts_if_chosen choice record { name = n; bounds = e.bounds } values ++ facts (drop (i + 1) layout) others) (sym named')
    ∙ ap (λ b. facts_if_chosen choice record { name = name; bounds = b } values ++ facts (drop (i + 1) layout) others) (sym bounded')

-- some facts more, of what is left
pub some_more : (all left rest before now facts : List Data) → all ≡ before ++ left → left ≡ facts ++ rest → now ≡ before ++ facts →
    all ≡ now ++ rest
some_more all left rest before now facts parted next is =
    parted ∙ ap (λ l. before ++ l) next ∙ sym (append_assoc before facts rest) ∙ ap (λ l. l ++ rest) (sym is)
