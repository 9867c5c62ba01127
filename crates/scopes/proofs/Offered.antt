-- What a postcondition may declare, and where its cells stand.
use Rattle.std.proofs.Common.{◌≡◌, ℕ, zero, suc, ◌+◌, Option, Some, None, List, [], ◌∷◌, ◌++◌, map}
use Rattle.std.proofs.Common.{codes, length, refl, ap, sym, ◌∙◌, arith}
use Rattle.std.specs.List.{find}
use Rattle.std.specs.Option.{option_map, option_or}
use Rattle.std.specs.Prelude.{slice_get}
use Rattle.pram_model.specs.Layout.{SharedEntry, size, total_size}
use Rattle.scopes.specs.declared.sources.Origin.{Origin}
use Rattle.scopes.specs.Handed.{Placed, is_named, opened, origin_of, placed, source}
use Rattle.scopes.proofs.Lists.{find_append, or_map}

-- ---- places

pub placed_append : (s : ℕ) (xs ys : List SharedEntry) → placed s (xs ++ ys) ≡ placed s xs ++ placed (s + total_size xs) ys
placed_append s [] ys = let none : s ≡ s + 0 = omega arith in ap (λ (k : ℕ). placed k ys) none
placed_append s (x ∷ xs) ys =
    let far : s + size x.bounds + total_size xs ≡ s + (size x.bounds + total_size xs) = omega arith in
    ap (λ (ps : List Placed). record { entry = x; start = s } ∷ ps)
    (placed_append (s + size x.bounds) xs ys ∙ ap (λ (k : ℕ). placed (s + size x.bounds) xs ++ placed k ys) far)

-- the same declaration under its opening name, so many cells further
pub opened_at : (t s : ℕ) (l : List SharedEntry) (i : ℕ) (e : SharedEntry) (k : ℕ) →
    slice_get (placed s l) i ≡ Some (record { entry = e; start = k }) →
    slice_get (placed (t + s) (map opened l)) i ≡ Some (record { entry = opened e; start = t + k })
opened_at t s [] i e k at = absurd (let P : None ≡ Some (record { entry = e; start = k }) → ⊥ = λ h. cc in P at)
opened_at t s (x ∷ es) zero e k at =
    let is : (record { entry = x; start = s }) ≡ (record { entry = e; start = k }) = cc at in
    ap (λ (q : Placed). Some (record { entry = opened q.entry; start = t + q.start })) is
opened_at t s (x ∷ es) (suc i) e k at =
    let far : t + s + size x.bounds ≡ t + (s + size x.bounds) = omega arith in
    ap (λ (j : ℕ). slice_get (placed j (map opened es)) i) far ∙ opened_at t (s + size x.bounds) es i e k at

pub opened_placed : (l : List SharedEntry) (i : ℕ) (e : SharedEntry) (k : ℕ) →
    slice_get (placed 0 l) i ≡ Some (record { entry = e; start = k }) →
    slice_get (placed (total_size l) (map opened l)) i ≡ Some (record { entry = opened e; start = total_size l + k })
opened_placed l i e k at =
    let none : total_size l ≡ total_size l + 0 = omega arith in
    ap (λ (j : ℕ). slice_get (placed j (map opened l)) i) none ∙ opened_at (total_size l) 0 l i e k at

-- which declaration stands behind a name of these
pub opened_is : (s : ℕ) (l : List SharedEntry) (i : ℕ) (q : Placed) → slice_get (placed s (map opened l)) i ≡ Some q →
    (e : SharedEntry) × (slice_get l i ≡ Some e) × (q.entry.name ≡ codes "opening_" ++ e.name)
opened_is s [] i q at = absurd (let P : None ≡ Some q → ⊥ = λ h. cc in P at)
opened_is s (x ∷ es) zero q at =
    let is : (record { entry = opened x; start = s }) ≡ q = cc at in
    (x, refl, sym (ap (λ (r : Placed). r.entry.name) is))
opened_is s (x ∷ es) (suc i) q at = opened_is (s + size x.bounds) es i q at

pub opened_length : (s : ℕ) (l : List SharedEntry) → length (placed s (map opened l)) ≡ length l
opened_length s [] = refl
opened_length s (x ∷ es) = ap suc (opened_length (s + size x.bounds) es)

-- ---- the source of a name

pub source_is : (l : List SharedEntry) (name : List ℕ) →
    source l name ≡ option_or (option_map origin_of (find (is_named name) (placed 0 l)))
    (option_map origin_of (find (is_named name) (placed (total_size l) (map opened l))))
source_is l name =
    let none : 0 + total_size l ≡ total_size l = omega arith in
    ap (λ (ps : List Placed). option_map origin_of (find (is_named name) ps))
    (placed_append 0 l (map opened l) ∙ ap (λ (k : ℕ). placed 0 l ++ placed k (map opened l)) none)
    ∙ ap (option_map origin_of) (find_append (is_named name) (placed 0 l) (placed (total_size l) (map opened l)))
    ∙ or_map origin_of (find (is_named name) (placed 0 l)) (find (is_named name) (placed (total_size l) (map opened l)))

-- the first search tells
pub own_first : (o p : Option Origin) (s : Origin) → o ≡ Some s → option_or o p ≡ Some s
own_first o p s h = ap (λ (q : Option Origin). option_or q p) h

pub own_none : (o p : Option Origin) → o ≡ None → option_or o p ≡ p
own_none o p h = ap (λ (q : Option Origin). option_or q p) h
