-- A fold of the least key over a list, on its way.
use Rattle.std.proofs.Common.{◌≡◌, ℕ, ◌+◌, ◌<◌, ◌≤◌, List, [], ◌∷◌, ◌++◌, map, drop, length, get_or, append_assoc, append-nil, refl, ap}
use Rattle.std.proofs.Common.{sym, ◌∙◌, Option}
use Rattle.std.proofs.lemmas.List.{drop_more, drop_all}
use Rattle.std.proofs.lemmas.List.Sums.{fold-append}
use Rattle.std.specs.List.{fold, flat_map}
use Rattle.pram_meaning.specs.Conflict.{lesser}
use Rattle.pram_meaning.specs.declared.key.Key.{Key}

pub record InFold {X Y : Type 0} (F : Y → List Key) (t : X → Y) (items : List X) (i : ℕ) (start now : Option Key) : Type 0 where
  pub same : fold lesser start (flat_map F (map t items)) ≡ fold lesser now (flat_map F (map t (drop i items)))

pub fold_starts : {X Y : Type 0} (F : Y → List Key) (t : X → Y) (items : List X) (start : Option Key) → InFold F t items 0 start start
fold_starts F t items start = record { same = refl }

pub fold_goes : {X Y : Type 0} (F : Y → List Key) (t : X → Y) (items : List X) (i : ℕ) (x : X) (start now new : Option Key) →
    InFold F t items i start now → i < length items → x ≡ get_or items i x → new ≡ fold lesser now (F (t x)) →
    InFold F t items (i + 1) start new
fold_goes F t items i x start now new b h is e = record {
  same = b.same
      ∙ ap (λ xs. fold lesser now (flat_map F (map t xs))) (drop_more items i x h ∙ ap (λ y. y ∷ drop (i + 1) items) (sym is))
      ∙ fold-append lesser now (F (t x)) (flat_map F (map t (drop (i + 1) items)))
      ∙ ap (λ k. fold lesser k (flat_map F (map t (drop (i + 1) items)))) (sym e);
}

pub fold_ends : {X Y : Type 0} (F : Y → List Key) (t : X → Y) (items : List X) (i : ℕ) (start now : Option Key) →
    InFold F t items i start now → length items ≤ i → now ≡ fold lesser start (flat_map F (map t items))
fold_ends F t items i start now b h = sym (b.same ∙ ap (λ xs. fold lesser now (flat_map F (map t xs))) (drop_all i items h))

-- ---- a list that is built

pub record InBuild {X Y Z : Type 0} (F : Y → List Z) (t : X → Y) (items : List X) (i : ℕ) (now : List Z) : Type 0 where
  pub same : flat_map F (map t items) ≡ now ++ flat_map F (map t (drop i items))

pub build_starts : {X Y Z : Type 0} (F : Y → List Z) (t : X → Y) (items : List X) (now : List Z) → now ≡ [] → InBuild F t items 0 now
build_starts F t items now e = record { same = rw e refl }

pub build_goes : {X Y Z : Type 0} (F : Y → List Z) (t : X → Y) (items : List X) (i : ℕ) (x : X) (now new : List Z) →
    InBuild F t items i now → i < length items → x ≡ get_or items i x → new ≡ now ++ F (t x) → InBuild F t items (i + 1) new
build_goes F t items i x now new b h is e = record {
  same = b.same
      ∙ ap (λ xs. now ++ flat_map F (map t xs)) (drop_more items i x h ∙ ap (λ y. y ∷ drop (i + 1) items) (sym is))
      ∙ sym (append_assoc now (F (t x)) (flat_map F (map t (drop (i + 1) items))))
      ∙ ap (λ k. k ++ flat_map F (map t (drop (i + 1) items))) (sym e);
}

pub build_ends : {X Y Z : Type 0} (F : Y → List Z) (t : X → Y) (items : List X) (i : ℕ) (now : List Z) → InBuild F t items i now →
    length items ≤ i → now ≡ flat_map F (map t items)
build_ends F t items i now b h = sym (b.same ∙ ap (λ xs. now ++ flat_map F (map t xs)) (drop_all i items h) ∙ append-nil now)

-- ---- a fold of the least key over the list itself

pub record InEach {X : Type 0} (F : X → List Key) (items : List X) (i : ℕ) (start now : Option Key) : Type 0 where
  pub same : fold lesser start (flat_map F items) ≡ fold lesser now (flat_map F (drop i items))

pub each_starts : {X : Type 0} (F : X → List Key) (items : List X) (start : Option Key) → InEach F items 0 start start
each_starts F items start = record { same = refl }

pub each_goes : {X : Type 0} (F : X → List Key) (items : List X) (i : ℕ) (x : X) (start now new : Option Key) → InEach F items i start now →
    i < length items → x ≡ get_or items i x → new ≡ fold lesser now (F x) → InEach F items (i + 1) start new
each_goes F items i x start now new b h is e = record {
  same = b.same
      ∙ ap (λ xs. fold lesser now (flat_map F xs)) (drop_more items i x h ∙ ap (λ y. y ∷ drop (i + 1) items) (sym is))
      ∙ fold-append lesser now (F x) (flat_map F (drop (i + 1) items))
      ∙ ap (λ k. fold lesser k (flat_map F (drop (i + 1) items))) (sym e);
}

pub each_ends : {X : Type 0} (F : X → List Key) (items : List X) (i : ℕ) (start now : Option Key) → InEach F items i start now →
    length items ≤ i → now ≡ fold lesser start (flat_map F items)
each_ends F items i start now b h = sym (b.same ∙ ap (λ xs. fold lesser now (flat_map F xs)) (drop_all i items h))
