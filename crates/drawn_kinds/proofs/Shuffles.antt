-- One exchange more of a shuffle.
use Rattle.std.proofs.Common.{◌≡◌, ◌∙◌, ◌+◌, ◌-◌, ◌<◌, ◌≤◌, ◌++◌, ◌∷◌, [], zero}
use Rattle.std.proofs.Common.{suc, ℕ, List, length, get_or, drop, ap, sym, add-one, arith}
use Rattle.std.proofs.lemmas.List.{drop_more}
use Rattle.std.specs.List.{range_with_len, swap}
use Rattle.drawn_kinds.specs.Orders.{pick, shuffled}

-- one number more of a range
pub range_more : (a n j : ℕ) → a + n ≡ j → range_with_len a (suc n) ≡ range_with_len a n ++ j ∷ []
range_more a zero j is = ap (λ x. x ∷ []) (omega (arith, is))
range_more a (suc n) j is = ap (λ xs. a ∷ xs) (range_more (a + 1) n j (omega (arith, is)))

-- the next exchange leads to the same order
pub shuffle_more : (last turn w place other : ℕ) (words order next : List ℕ) → turn < last → last ≤ length words →
    w ≡ get_or words turn w → place ≡ last - turn → other ≡ pick w (place + 1) → next ≡ swap order place other →
    shuffled (last - (turn + 1)) (drop (turn + 1) words) next ≡ shuffled (last - turn) (drop turn words) order
shuffle_more last turn w place other words order next below enough read is chosen exchanged =
    let l = last - (turn + 1) in
    let more : last - turn ≡ suc l = omega arith in
    let at : place ≡ suc l = omega arith in
    let split : drop turn words ≡ w ∷ drop (turn + 1) words =
    drop_more words turn w (omega arith) ∙ ap (λ x. x ∷ drop (turn + 1) words) (sym read) in
    let other_is : other ≡ pick w (suc (suc l)) = chosen ∙ ap (pick w) (omega (arith, at)) in
    let next_is : next ≡ swap order (suc l) (pick w (suc (suc l))) =
    exchanged ∙ ap (λ p. swap order p other) at ∙ ap (λ o. swap order (suc l) o) other_is in
    ap (λ n. shuffled l (drop (turn + 1) words) n) next_is
    ∙ sym (ap (λ n. shuffled n (drop turn words) order) more ∙ ap (λ ws. shuffled (suc l) ws order) split)

pub place_more : (n : ℕ) (found : List ℕ) → found ≡ range_with_len 0 n → found ++ n ∷ [] ≡ range_with_len 0 (n + 1)
place_more n found is =
    ap (λ l. l ++ n ∷ []) is ∙ sym (range_more 0 n n (omega arith)) ∙ ap (range_with_len 0) (sym (add-one n))
