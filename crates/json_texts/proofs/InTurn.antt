-- Facts of some things, put behind others one thing after the other.
use Rattle.std.proofs.Common.{◌≡◌, ◌∙◌, ℕ, ◌+◌, ◌<◌, ◌≤◌, List, ◌∷◌, ◌++◌, drop, length, get_or, append_assoc, append-nil, refl, ap, sym}
use Rattle.std.proofs.lemmas.List.{drop_more, drop_all}
use Rattle.std.specs.Prelude.{flat_map}
use Rattle.serde_json.specs.Data.{Data}

-- those of the first k stand there
pub record InTurn {A : Type 0} (f : A → List Data) (xs : List A) (k : ℕ) (old now : List Data) : Type 0 where
  pub same : old ++ flat_map f xs ≡ now ++ flat_map f (drop k xs)

pub turn_start : {A : Type 0} (f : A → List Data) (xs : List A) (old : List Data) → InTurn f xs 0 old old
turn_start f xs old = record { same = refl }

pub turn_go : {A : Type 0} (f : A → List Data) (xs : List A) (k : ℕ) (x : A) (old now new : List Data) → InTurn f xs k old now →
    k < length xs → x ≡ get_or xs k x → new ≡ now ++ f x → InTurn f xs (k + 1) old new
turn_go f xs k x old now new b h is e =
    let rest : List Data = flat_map f (drop (k + 1) xs) in record {
      same = b.same
          ∙ ap (λ ys. now ++ flat_map f ys) (drop_more xs k x h ∙ ap (λ y. y ∷ drop (k + 1) xs) (sym is))
          ∙ sym (append_assoc now (f x) rest)
          ∙ ap (λ l. l ++ rest) (sym e);
    }

pub turn_end : {A : Type 0} (f : A → List Data) (xs : List A) (k : ℕ) (old now : List Data) → InTurn f xs k old now → length xs ≤ k →
    now ≡ old ++ flat_map f xs
turn_end f xs k old now b h = sym (b.same ∙ ap (λ ys. now ++ flat_map f ys) (drop_all k xs h) ∙ append-nil now)
