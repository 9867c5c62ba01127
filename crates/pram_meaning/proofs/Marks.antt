-- A cell that gets a place.
use Rattle.std.proofs.Common.{◌≡◌, ℕ, zero, suc, ◌<◌, ◌≤◌, List, [], ◌∷◌, ◌++◌, length, get_or, set, replicate, refl, ap, ◌∙◌, arith}
use Rattle.std.proofs.lemmas.List.{length-set, get_or-set_same, get_or-set_other}
use Rattle.pram_meaning.specs.Slates.{IsMarked}

is_marked : (c e : ℕ) (old new : List ℕ) → c < length old → new ≡ set old c e → IsMarked c e old new
is_marked c e old new h is = record {
  inside = let k = length-set old c e in let l = ap length is in omega (arith, k, l);
  here = ap (λ xs. get_or xs c e) is ∙ get_or-set_same old c e e h;
  others = λ d other. ap (λ xs. get_or xs d e) is ∙ get_or-set_other old c d e e other;
}

pub marked : (c e n : ℕ) (old new : List ℕ) → n ≡ length old → ¬ (n ≤ c) → new ≡ set old c e → IsMarked c e old new
marked c e n old new l h is = is_marked c e old new (omega arith) is

-- where nothing is, e is read, and so it is in what is filled up with e
filled : (old : List ℕ) (k d e : ℕ) → get_or (old ++ replicate k e) d e ≡ get_or old d e
filled [] zero d e = refl
filled [] (suc k) zero e = refl
filled [] (suc k) (suc d) e = filled [] k d e
filled (x ∷ old) k zero e = refl
filled (x ∷ old) k (suc d) e = filled old k d e

pub marked_behind : (c e k : ℕ) (old mid new : List ℕ) → mid ≡ old ++ replicate k e → c < length mid → new ≡ set mid c e →
    IsMarked c e old new
marked_behind c e k old mid new grown h is =
    let m = is_marked c e mid new h is in
    record { inside = m.inside; here = m.here; others = λ d other. m.others d other ∙ ap (λ xs. get_or xs d e) grown ∙ filled old k d e }
