-- What two programs both declare, a declaration further.
use Rattle.std.proofs.Common.{◌≡◌, ℕ, zero, suc, ◌+◌, Bool, true, false, cond, Option, Some, None, List, [], ◌∷◌, ◌++◌, map, take, drop}
use Rattle.std.proofs.Common.{refl, ap, sym, ◌∙◌, arith}
use Rattle.std.proofs.lemmas.List.{append-nil, map_push}
use Rattle.std.specs.List.{cons_option, filter_map, find}
use Rattle.std.specs.Option.{option_map, option_or}
use Rattle.std.specs.Prelude.{slice_get}
use Rattle.pram_model.specs.Layout.{SharedEntry}
use Rattle.pram_model.specs.Names.{same_text}
use Rattle.comparing.specs.declared.compared.CommonRange.{CommonRange}
use Rattle.comparing.specs.Common.{Shared, both, is_named, range_of, range_or_none, shared_with}
use Rattle.scopes.specs.Handed.{Placed}
use Rattle.scopes.proofs.Lists.{chosen_from, chosen_until, find_cons, or_map}

-- ---- by a name

pub named_kept : (name : List ℕ) (p : Placed) (o : Option Placed) → same_text p.entry.name name ≡ true →
    find (is_named name) (cons_option (option_map (both p) o) []) ≡ option_map (both p) o
named_kept name p None h = refl
named_kept name p (Some q) h = ap (λ (b : Bool). cond b (Some (both p q)) None) h

pub named_left : (name : List ℕ) (p : Placed) (o : Option Placed) → same_text p.entry.name name ≡ false →
    find (is_named name) (cons_option (option_map (both p) o) []) ≡ None
named_left name p None h = refl
named_left name p (Some q) h = ap (λ (b : Bool). cond b (Some (both p q)) None) h

-- that of the declaration there, or of one behind it
pub named_from : (name : List ℕ) (m : List SharedEntry) (ps : List Placed) (i : ℕ) (p : Placed) → slice_get ps i ≡ Some p →
    option_map range_of (find (is_named name) (filter_map (shared_with m) (drop i ps)))
    ≡ option_or (option_map range_of (find (is_named name) (cons_option (shared_with m p) [])))
    (option_map range_of (find (is_named name) (filter_map (shared_with m) (drop (i + 1) ps))))
named_from name m ps i p at =
    let here = cons_option (shared_with m p) [] in
    let rest = filter_map (shared_with m) (drop (suc i) ps) in
    let up : suc i ≡ i + 1 = omega arith in
    ap (λ (ss : List Shared). option_map range_of (find (is_named name) ss)) (chosen_from (shared_with m) ps i p at)
    ∙ ap (λ (o : Option Shared). option_map range_of o) (find_cons (is_named name) (shared_with m p) rest)
    ∙ or_map range_of (find (is_named name) here) (find (is_named name) rest)
    ∙ ap (λ (k : ℕ). option_or (option_map range_of (find (is_named name) here))
    (option_map range_of (find (is_named name) (filter_map (shared_with m) (drop k ps))))) up

-- ---- all of them

with_one : (before : List Shared) (o : Option Shared) (r : CommonRange) → Some r ≡ option_map range_of o →
    map range_of (before ++ cons_option o []) ≡ map range_of before ++ r ∷ []
with_one before None r is = absurd (let P : Some r ≡ None → ⊥ = λ k. cc in P is)
with_one before (Some s) r is =
    let e : r ≡ range_of s = cc is in
    map_push range_of before s ∙ ap (λ (t : CommonRange). map range_of before ++ t ∷ []) (sym e)

with_none : (before : List Shared) (o : Option Shared) → None ≡ option_map range_of o →
    map range_of (before ++ cons_option o []) ≡ map range_of before
with_none before None is = ap (map range_of) (append-nil before)
with_none before (Some s) is = absurd (let P : None ≡ Some (range_of s) → ⊥ = λ k. cc in P is)

taken : (m : List SharedEntry) (ps : List Placed) (i : ℕ) (p : Placed) → slice_get ps i ≡ Some p →
    map range_of (filter_map (shared_with m) (take (i + 1) ps))
    ≡ map range_of (filter_map (shared_with m) (take i ps) ++ cons_option (shared_with m p) [])
taken m ps i p at =
    let up : i + 1 ≡ suc i = omega arith in
    ap (λ (k : ℕ). map range_of (filter_map (shared_with m) (take k ps))) up
    ∙ ap (map range_of) (chosen_until (shared_with m) ps i p at)

pub common_more : (m : List SharedEntry) (ps : List Placed) (i : ℕ) (p : Placed) (r : CommonRange) → slice_get ps i ≡ Some p →
    Some r ≡ option_map range_of (shared_with m p) →
    map range_of (filter_map (shared_with m) (take (i + 1) ps)) ≡ map range_of (filter_map (shared_with m) (take i ps)) ++ r ∷ []
common_more m ps i p r at is = taken m ps i p at ∙ with_one (filter_map (shared_with m) (take i ps)) (shared_with m p) r is

pub common_skip : (m : List SharedEntry) (ps : List Placed) (i : ℕ) (p : Placed) → slice_get ps i ≡ Some p →
    None ≡ option_map range_of (shared_with m p) →
    map range_of (filter_map (shared_with m) (take (i + 1) ps)) ≡ map range_of (filter_map (shared_with m) (take i ps))
common_skip m ps i p at is = taken m ps i p at ∙ with_none (filter_map (shared_with m) (take i ps)) (shared_with m p) is

-- ---- all of the first

taken_until : {X : Type 0} (xs : List X) (i : ℕ) (x : X) → slice_get xs i ≡ Some x → take (suc i) xs ≡ take i xs ++ x ∷ []
taken_until [] i x at = absurd (let P : None ≡ Some x → ⊥ = λ k. cc in P at)
taken_until (y ∷ ys) zero x at = let e : y ≡ x = cc at in ap (λ z. z ∷ []) e
taken_until (y ∷ ys) (suc i) x at = ap (λ zs. y ∷ zs) (taken_until ys i x at)

pub whole_more : (m : List SharedEntry) (ps : List Placed) (i : ℕ) (p : Placed) → slice_get ps i ≡ Some p →
    map (range_or_none m) (take (i + 1) ps) ≡ map (range_or_none m) (take i ps) ++ range_or_none m p ∷ []
whole_more m ps i p at =
    let up : i + 1 ≡ suc i = omega arith in
    ap (λ (k : ℕ). map (range_or_none m) (take k ps)) up
    ∙ ap (map (range_or_none m)) (taken_until ps i p at)
    ∙ map_push (range_or_none m) (take i ps) p
