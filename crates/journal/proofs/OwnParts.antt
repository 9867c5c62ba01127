-- The part whose fault it is, on the way through all parts.
use Rattle.std.proofs.Common.{◌≡◌, ◌∙◌, ◌<◌, ◌+◌, ℕ, List, ◌∷◌, true, if◌then◌else◌, Option, ap, drop, get_or, length, map, sym}
use Rattle.std.proofs.lemmas.List.{drop_more}
use Rattle.pram_meaning.specs.declared.key.Key.{Key}
use Rattle.pram_meaning.specs.declared.part.Part.{Part}
use Rattle.pram_meaning.specs.Judging.{part_is}
use Rattle.journal.specs.Causes.{Cause}
use Rattle.journal.specs.FoundCauses.{is_own, own_cause}

pub own_found : (f : ℕ → Option Cause) (k : Key) (xs : List Part) (n : ℕ) (x : Part) (found : Option Cause) →
    own_cause f k (map part_is (drop n xs)) ≡ own_cause f k (map part_is xs) → n < length xs → x ≡ get_or xs n x →
    is_own k (part_is x) ≡ true → found ≡ f x.member → found ≡ own_cause f k (map part_is xs)
own_found f k xs n x found rest below is own e =
    e
    ∙ sym (ap (λ b. if b then f x.member else own_cause f k (map part_is (drop (n + 1) xs))) own)
    ∙ sym (ap (λ ys. own_cause f k (map part_is ys)) (drop_more xs n x below ∙ ap (λ y. y ∷ drop (n + 1) xs) (sym is)))
    ∙ rest
