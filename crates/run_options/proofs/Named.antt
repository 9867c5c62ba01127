-- Words that name a map by two numbers.
use Rattle.std.proofs.Common.{◌≡◌, ℕ, ◌<◌, ◌≢◌, List, Some, None, Option, true, false, not, eqb, ap, codes, get_or, Bor, arith}
use Rattle.std.proofs.lemmas.List.Folds.{list_all_at}
use Rattle.std.specs.Option.{MatchOption}
use Rattle.std.proofs.lemmas.Str.Pattern.{IsSplitOnceResult, split_after}
use Rattle.run_options.specs.declared.map_choice.MapChoice.{MapChoice}
use Rattle.run_options.specs.declared.map_choice.MapChoice.TheVariants.{Identity, Affine}
use Rattle.run_options.specs.Maps.{IsAffine, Names}

no_colon : (i : ℕ) → i < 6 → get_or (codes "affine") i 0 ≢ 58
no_colon i l e =
    let none : true ≡ false =
    list_all_at (λ b. not (eqb b 58)) (codes "affine") i 0 l (ap (λ b. not (eqb b 58)) e) in
    absurd (cc none)

-- the first colon is the one before the numbers
pub numbers_of : (word : List ℕ) (a b : ℕ) (r : Option (Bor (List ℕ) × Bor (List ℕ))) → IsSplitOnceResult 58 word r →
    (p : IsAffine word a b) →
    MatchOption r ⊥ (λ x. (x.0.now ≡ codes "affine") × (x.1.now ≡ p.numbers))
numbers_of word a b r h p = split_after 58 word (codes "affine") p.numbers r h (omega arith) p.spelled no_colon

-- a word that isn't `identity` names a map by its numbers
pub found_by : (word : List ℕ) (answer : Option MapChoice) → (word ≡ codes "identity" → ⊥) →
    ((a b : ℕ) → IsAffine word a b → answer ≡ Some (Affine a b)) → (choice : MapChoice) → Names word choice → answer ≡ Some choice
found_by word answer other is Identity h = absurd (other h)
found_by word answer other is (Affine a b) h = is a b h

-- the numbers make the map
abbrev made_of : Option (ℕ × ℕ) → Option MapChoice
made_of None = None
made_of (Some (a, b)) = Some (Affine a b)

pub same_map : (a b f s : ℕ) → ◌≡◌ {A = Option (ℕ × ℕ)} (Some (f, s)) (Some (a, b)) → Some (Affine f s) ≡ Some (Affine a b)
same_map a b f s e = ap made_of e
